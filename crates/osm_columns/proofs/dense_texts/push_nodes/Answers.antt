use Rattle.std.proofs.Common.{◌∙◌, ◌+◌, ◌-◌, ◌++◌, ℤ, length, take, drop, ap}
use Rattle.osm_block.specs.DenseTags.{Pair}
use Rattle.osm_block.specs.NodeTags.{node_pairs}
use Rattle.osm_columns.specs.Indexes.{index_in}
use Rattle.osm_columns.proofs.PairLemmas.{NodeStep, node-step, here-in-table, node-pushed}
use Rattle.osm_columns.proofs.dense_texts.push_nodes.Goals as goal

pub push_node-requires-clause-in_table : goal.push_node-requires-clause-in_table
push_node-requires-clause-in_table c =
    let step : NodeStep c.args.nodes c.loop-node._node c.args.keys_vals.now (drop c.loop-node.next c.args.keys_vals.now) = node-step c.args.nodes c.loop-node._node c.args.keys_vals.now _ c.loop-node-test.true c.loop-node.invariant.pairs in
    here-in-table (length c.args.table.now) _ _ _ _ step c.requires

pub loop-node-preserved : goal.loop-node-preserved
loop-node-preserved c =
    let key : Pair → ℤ = λ p. index_in c.args.table.now p.0 in
    let value : Pair → ℤ = λ p. index_in c.args.table.now p.1 in
    let step : NodeStep c.args.nodes c.loop-node._node c.args.keys_vals.now (drop c.loop-node.next c.args.keys_vals.now) = node-step c.args.nodes c.loop-node._node c.args.keys_vals.now _ c.loop-node-test.true c.loop-node.invariant.pairs in
    record {
      within = c.in_ok-next.ensures.within;
      pairs = ap (λ l. take (c.loop-node._node + 1) (node_pairs c.args.nodes c.args.keys_vals.now) ++ node_pairs (c.args.nodes - (c.loop-node._node + 1)) l) c.in_ok-next.ensures.rest ∙ step.pairs;
      keys = node-pushed key _ _ _ _ c.args.keys.now.items c.loop-node.keys.items c.push_node.new.keys.items step c.loop-node.invariant.keys c.in_ok-next.ensures.keys;
      values = node-pushed value _ _ _ _ c.args.values.now.items c.loop-node.values.items c.push_node.new.values.items step c.loop-node.invariant.values c.in_ok-next.ensures.values;
    }
