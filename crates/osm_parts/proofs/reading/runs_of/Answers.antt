use Rattle.std.proofs.Common.{List, sym, subst, inl, inr, arith}
use Rattle.std.specs.List.Sorted.{IsNonDecreasingBy}
use Rattle.osm_parts.specs.Pieces.{offset_of, AreOnce, IsAmong}
use Rattle.osm_parts.specs.PartsFaults.{IsOfMaps}
use Rattle.osm_parts.specs.Runs.{AreCut, IsBetween, NoneReturns}
use Rattle.osm_parts.specs.declared.pieces.Piece.{Piece}
use Rattle.osm_parts.specs.declared.runs.Part.{Part}
use Rattle.osm_parts.proofs.OpeningLemmas.{if-err}
use Rattle.osm_parts.proofs.PieceLemmas.{gathered-permuted, among-maps}
use Rattle.osm_parts.proofs.RunLemmas.{runs-read, between-runs}
use Rattle.osm_parts.proofs.reading.runs_of.Goals as goal
use Rattle.osm_parts.proofs.reading.runs_of.Goals.{then-len-saturating_mul+in_default, else-len-saturating_mul}

pub returns-in_err-pieces-clause-fault : goal.returns-in_err-pieces-clause-fault
returns-in_err-pieces-clause-fault c = λ maps asked gathered all.
    let sorted = c.in_ok-sorted.sorted.items in
    let fault = c.in_err-pieces.field-0.0 in
    let up = subst (λ (l : List Piece). IsNonDecreasingBy offset_of l) (sym c.deref.ensures.value) c.in_ok-sorted.ensures.sorted in
    if-err c.from_residual-in_err-pieces.result fault (IsOfMaps maps) c.from_residual-in_err-pieces.ensures.1
    (among-maps maps asked c.args.count sorted (gathered-permuted maps asked c.args.count c.args.pieces.items sorted c.in_ok-sorted.ensures.same gathered) fault
    (subst (λ (l : List Piece). IsAmong l fault) c.deref.ensures.value (c.in_err-pieces.ensures.refused up)))

pub returns-in-Some-clause-fault : goal.returns-in-Some-clause-fault
returns-in-Some-clause-fault c = λ maps asked gathered all.
    let sorted = c.in_ok-sorted.sorted.items in
    let kept = c.in_ok-pieces.pieces.items in
    let parts = c.in_ok-parts.parts.items in
    let read = runs-read maps asked c.args.count sorted kept parts (gathered-permuted maps asked c.args.count c.args.pieces.items sorted c.in_ok-sorted.ensures.same gathered) all
    (subst (λ (l : List Piece). AreOnce l kept) c.deref.ensures.value c.in_ok-pieces.ensures.once) (subst (λ (l : List Piece). AreCut parts l) c.deref-2.ensures.value c.in_ok-parts.ensures) in
    between-runs maps asked parts c.in-Some.off read (subst (λ (l : List Part). IsBetween l c.in-Some.off) c.deref-then-len-saturating_mul.ensures.value c.in-Some.ensures.found)

pub returns-clause-read : goal.returns-clause-read
returns-clause-read c = λ maps asked gathered all.
    let sorted = c.in_ok-sorted.sorted.items in
    let kept = c.in_ok-pieces.pieces.items in
    let parts = c.in_ok-parts.parts.items in
    runs-read maps asked c.args.count sorted kept parts (gathered-permuted maps asked c.args.count c.args.pieces.items sorted c.in_ok-sorted.ensures.same gathered) all
    (subst (λ (l : List Piece). AreOnce l kept) c.deref.ensures.value c.in_ok-pieces.ensures.once) (subst (λ (l : List Piece). AreCut parts l) c.deref-2.ensures.value c.in_ok-parts.ensures)

pub returns-clause-few : goal.returns-clause-few
returns-clause-few c = elim c.if-len-saturating_mul.branch [
  | then-len-saturating_mul+in_default w ↦ inr (subst (λ (l : List Part). NoneReturns l) w.deref-then-len-saturating_mul.ensures.value w.in_default.ensures.none)
  | else-len-saturating_mul w ↦ inl (omega (arith, c.len.ensures, c.saturating_mul.ensures, w.if-len-saturating_mul.false))
]
