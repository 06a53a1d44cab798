use Rattle.osm_block.proofs.ReadingLemmas.{each-step}
use Rattle.osm_block.proofs.payloads.each_of_all.Goals as goal

pub loop-payload-preserved : goal.loop-payload-preserved
loop-payload-preserved c = each-step _ _ _ _ _ _ _ _ c.loop-payload-test.true c.in_ok-each.ensures c.loop-payload.invariant
