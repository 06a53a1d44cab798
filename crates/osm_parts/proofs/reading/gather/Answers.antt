use Rattle.std.proofs.Common.{◌≡◌, ◌<◌, ◌++◌, ◌∙◌, List, length, sym, ap, subst, arith}
use Rattle.osm_rows.specs.declared.keeper.Extent.{Extent}
use Rattle.osm_parts.specs.Pieces.{AreGathered, pieces_of}
use Rattle.osm_parts.specs.declared.pieces.Piece.{Piece}
use Rattle.osm_parts.proofs.PieceLemmas.{held-at, gathered-more, none-gathered}
use Rattle.osm_parts.proofs.reading.gather.Goals as goal

pub loop-place-preserved : goal.loop-place-preserved
loop-place-preserved g c =
    let inv = c.loop-place.invariant in
    let made = c.in_ok-part.ensures in
    record {
      honest = λ h. inv.honest (made.opens.keeps.honest h);
      open_if = λ o. inv.open_if (made.opens.keeps.open_if o);
      kept = λ h maps holds. made.opens.ok h maps (inv.kept (made.opens.keeps.honest h) maps holds);
      counted = omega (arith, inv.counted, made.counted);
      read = λ maps holds honest all.
          let earlier = made.opens.keeps.honest honest in
          let low : c.loop-place.place < length maps = omega (arith, all, c.loop-place-test.true) in
          let it = held-at maps c.loop-place.place low in
          let still = inv.kept earlier maps holds in
          gathered-more maps c.args.asks_history c.loop-place.place it.0 c.in_ok-part.part it.1 (made.apart maps it.0 still honest it.1) (made.told maps it.0 still honest it.1)
          c.loop-place.pieces.items c.add_pieces.new.pieces.items (inv.read maps holds earlier all)
          (c.in_ok-add_pieces.ensures ∙ ap (λ (es : List Extent). c.loop-place.pieces.items ++ pieces_of c.loop-place.place c.in_ok-part.part.history es) c.deref.ensures.value);
    }

pub loop-place-init : goal.loop-place-init
loop-place-init g c = record {
  honest = λ h. h;
  open_if = λ o. o;
  kept = λ h maps holds. holds;
  counted = omega arith;
  read = λ maps holds honest all. subst (λ (l : List Piece). AreGathered maps c.args.asks_history 0 l) (sym c.new-pieces.ensures.items) (none-gathered maps c.args.asks_history);
}

pub returns-clause-read : goal.returns-clause-read
returns-clause-read g c = λ maps holds honest all.
    let same : c.loop-place.place ≡ c.args.count = omega (arith, all, c.loop-place-test.false) in
    subst (λ n. AreGathered maps c.args.asks_history n c.loop-place.pieces.items) same (c.loop-place.invariant.read maps holds honest all)
