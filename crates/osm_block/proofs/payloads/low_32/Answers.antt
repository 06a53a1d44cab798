use Rattle.std.proofs.Common.{◌%◌}
use Rattle.osm_block.proofs.ReadingLemmas.{changed-step}
use Rattle.osm_block.proofs.payloads.low_32.Goals as goal

pub loop-number-preserved : goal.loop-number-preserved
loop-number-preserved c = changed-step (λ n. n % 4294967296) _ _ _ c.loop-number-test.true c.loop-number.invariant
