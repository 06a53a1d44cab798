use Rattle.std.proofs.Common.{refl, arith}
use Rattle.osm_block.proofs.TextsLemmas.{texts-step}
use Rattle.osm_block.proofs.tag_list.tags_of.Goals as goal

pub loop-at-preserved : goal.loop-at-preserved
loop-at-preserved c = record {
  keys_are = texts-step _ (λ t. t.0) _ _ _ _ _ _ _ _ c.in_ok-push.ensures.items c.loop-at-test.true (c.requires.keys _ _ c.loop-at-test.true) refl c.loop-at.invariant.keys_are;
  vals_are = texts-step _ (λ t. t.1) _ _ _ _ _ _ _ _ c.in_ok-push.ensures.items (omega arith) (c.requires.vals _ _ (omega arith)) refl c.loop-at.invariant.vals_are;
}
