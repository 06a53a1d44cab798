use Rattle.std.proofs.Common.{◌≡◌, ◌+◌, ◌++◌, ◌∙◌, List, length, sym, ap, subst, arith}
use Rattle.osm_rows.specs.declared.keeper.Extent.{Extent}
use Rattle.osm_parts.specs.Pieces.{AreGathered, pieces_of}
use Rattle.osm_parts.specs.Reading.{IsReadOf}
use Rattle.osm_parts.specs.declared.pieces.Piece.{Piece}
use Rattle.osm_parts.proofs.PieceLemmas.{gathered-more, none-gathered, store-at}
use Rattle.osm_parts.proofs.reading.pieces_of_stores.Goals as goal

pub loop-own-init : goal.loop-own-init
loop-own-init c = λ maps asked are. subst (λ (l : List Piece). AreGathered maps asked 0 l) (sym c.new-pieces.ensures.items) (none-gathered maps asked)

pub loop-own-preserved : goal.loop-own-preserved
loop-own-preserved c = λ maps asked are.
    let i = c.loop-own.own-index in
    let part = c.own-item.result in
    let it = store-at asked 0 maps c.args.stores.now i part are c.loop-own-test.true c.own-item.is in
    let here : 0 + i ≡ i = omega arith in
    let read : IsReadOf asked i it.0 part = subst (λ n. IsReadOf asked n it.0 part) here it.2 in
    gathered-more maps asked i it.0 part it.1 it.3 read c.loop-own.pieces.items c.add_pieces.new.pieces.items (c.loop-own.invariant maps asked are)
    (c.in_ok-add_pieces.ensures ∙ ap (λ n. c.loop-own.pieces.items ++ pieces_of n part.history c.deref.result.now) read.placed ∙ ap (λ (es : List Extent). c.loop-own.pieces.items ++ pieces_of i part.history es) c.deref.ensures.value)

pub returns : goal.returns
returns c = λ maps asked are.
    let all : c.loop-own.own-index ≡ length c.args.stores.now = omega (arith, c.loop-own-test.false, c.loop-own.far-own-index) in
    subst (λ n. AreGathered maps asked n c.loop-own.pieces.items) all (c.loop-own.invariant maps asked are)
