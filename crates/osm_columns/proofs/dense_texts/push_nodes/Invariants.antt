use Rattle.std.proofs.Common.{◌≡◌, ◌-◌, ◌≤◌, ◌++◌, length, map, take, drop}
use Rattle.osm_block.specs.NodeTags.{node_pairs}
use Rattle.osm_columns.specs.Lists.{joined}
use Rattle.osm_columns.specs.Indexes.{index_in}
use Rattle.osm_columns.proofs.dense_texts.push_nodes.Given as goal

abbrev pub invariant-loop-node : goal.invariant-loop-node
invariant-loop-node l = record {
  within : l.next ≤ length l.keys_vals;
  pairs : take l._node (node_pairs l.nodes l.keys_vals) ++ node_pairs (l.nodes - l._node) (drop l.next l.keys_vals) ≡ node_pairs l.nodes l.keys_vals;
  keys : l.keys.items ≡ l.fn.keys.items ++ map (λ p. index_in l.table p.0) (joined (take l._node (node_pairs l.nodes l.keys_vals)));
  values : l.values.items ≡ l.fn.values.items ++ map (λ p. index_in l.table p.1) (joined (take l._node (node_pairs l.nodes l.keys_vals)));
}
