use Rattle.std.proofs.Common.{◌≡◌, ◌+◌, ◌-◌, ◌≤◌, ◌++◌, length, map, drop, take, sum}
use Rattle.osm_block.specs.NodeTags.{node_pairs}
use Rattle.osm_columns.specs.Lists.{sums_from}
use Rattle.osm_columns.specs.Columns.{Adds}
use Rattle.osm_columns.proofs.tag_ends.put_tag_ends.Given as goal

abbrev pub invariant-loop-node : goal.invariant-loop-node
invariant-loop-node l = record {
  within : l.next ≤ length l.keys_vals;
  pairs : take l.node (node_pairs l.nodes l.keys_vals) ++ node_pairs (l.nodes - l.node) (drop l.next l.keys_vals) ≡ node_pairs l.nodes l.keys_vals;
  last : l.last ≡ l.end + sum (map (λ ps. length ps) (take l.node (node_pairs l.nodes l.keys_vals)));
  column : Adds l.at (sums_from l.end (map (λ ps. length ps) (take l.node (node_pairs l.nodes l.keys_vals)))) l.fn.ends l.ends;
}
