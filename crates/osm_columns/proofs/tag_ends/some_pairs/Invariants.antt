use Rattle.std.proofs.Common.{◌≡◌, ◌+◌, ◌-◌, ◌*◌, ◌≤◌, length, drop}
use Rattle.osm_block.specs.NodeTags.{front_pairs}
use Rattle.osm_columns.proofs.tag_ends.some_pairs.Given as goal

abbrev pub invariant-loop-index : goal.invariant-loop-index
invariant-loop-index l = record {
  within : l.index ≤ length l.keys_vals;
  place : l.index ≡ l.at + 2 * l.count;
  count : l.count + length (front_pairs (drop l.index l.keys_vals)).0 ≡ length (front_pairs (drop l.at l.keys_vals)).0;
  rest : (front_pairs (drop l.index l.keys_vals)).1 ≡ (front_pairs (drop l.at l.keys_vals)).1;
}

abbrev pub decreases-loop-index : goal.decreases-loop-index
decreases-loop-index l = length l.keys_vals - l.index
