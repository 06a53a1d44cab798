use Rattle.std.proofs.Common.{◌≤◌, ◌-◌, length}
use Rattle.osm_block.proofs.dense.tags.pair_count.Given as goal

abbrev pub invariant-loop-index : goal.invariant-loop-index
invariant-loop-index l = record { begins : l.at ≤ l.index; within : l.index ≤ length l.keys_vals }

abbrev pub decreases-loop-index : goal.decreases-loop-index
decreases-loop-index l = length l.keys_vals - l.index
