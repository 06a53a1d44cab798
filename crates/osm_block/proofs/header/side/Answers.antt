use Rattle.std.proofs.Common.{rules}
use Rattle.osm_block.proofs.HeaderLemmas.{next_side}
use Rattle.osm_block.proofs.header.side.Goals as goal

pub loop-payload-preserved : goal.loop-payload-preserved
loop-payload-preserved c = record {
  can = search rules;
  ends = search rules;
  so_far = next_side c.args.number _ _ _ _ _ _ c.in-Some.ensures.steps c.last_number-last.ensures c.loop-payload.invariant.so_far;
}
