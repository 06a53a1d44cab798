use Rattle.std.proofs.Common.{refl, ◌+◌, ◌<◌, length, ◌∙◌, ap, inl, inr, arith}
use Rattle.std.proofs.lemmas.Bool.Decides.{leb_tells}
use Rattle.std.proofs.lemmas.Option.{slice_get_within, get_or_from_slice_get}
use Rattle.osm_parts.specs.Runs.{first_offset}
use Rattle.osm_parts.specs.declared.runs.Part.{Part}
use Rattle.osm_parts.proofs.runs.first_return.Goals as goal

pub returns-then-returns_at-clause-found : goal.returns-then-returns_at-clause-found
returns-then-returns_at-clause-found c =
    let r = c.if-returns_at.ensures.0 refl in
    let is = get_or_from_slice_get c.args.parts.now c.loop-index.index r.between c.index-parts-index.result r.between_at in
    (c.loop-index.index, r, c.first_offset.ensures ∙ ap first_offset (c.deref.ensures.value ∙ ap (λ (p : Part). p.extents.items) is))

pub returns-clause-none : goal.returns-clause-none
returns-clause-none c = λ k r. elim (leb_tells c.loop-index.index k) [
  | inl (_, behind) ↦ (let low : k + 1 < length c.args.parts.now = slice_get_within c.args.parts.now (k + 1) r.last r.last_at in omega (arith, c.loop-index-test.false, c.saturating_sub-index-end.ensures))
  | inr (_, before) ↦ c.loop-index.invariant k before r
]
