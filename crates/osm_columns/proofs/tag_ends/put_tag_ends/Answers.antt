use Rattle.std.proofs.Common.{◌≡◌, ◌∙◌, ◌≤◌, ◌+◌, ◌-◌, ◌++◌, List, length, map, take, drop, sum, ap, arith}
use Rattle.osm_block.specs.DenseTags.{Pair}
use Rattle.osm_block.specs.NodeTags.{front_pairs, node_pairs}
use Rattle.osm_columns.proofs.EndLemmas.{sum-next, sum-front, ends-next}
use Rattle.osm_columns.proofs.PairLemmas.{NodeStep, node-step}
use Rattle.osm_columns.proofs.tag_ends.put_tag_ends.Goals as goal

pub overflow_add-last : goal.overflow_add-last
overflow_add-last c =
    let count = λ (ps : List Pair). length ps in
    let all : List (List Pair) = node_pairs c.args.nodes c.args.keys_vals.now in
    let step : NodeStep c.args.nodes c.loop-node.node c.args.keys_vals.now (drop c.loop-node.next c.args.keys_vals.now) = node-step c.args.nodes c.loop-node.node c.args.keys_vals.now _ c.loop-node-test.true c.loop-node.invariant.pairs in
    let next : sum (map count (take (c.loop-node.node + 1) all)) ≡ sum (map count (take c.loop-node.node all)) + length (front_pairs (drop c.loop-node.next c.args.keys_vals.now)).0 =
    sum-next count all c.loop-node.node _ _ step.within step.here in
    let whole : sum (map count (take (c.loop-node.node + 1) all)) ≤ sum (map count all) = sum-front count all (c.loop-node.node + 1) in
    omega arith

pub loop-node-preserved : goal.loop-node-preserved
loop-node-preserved c =
    let count = λ (ps : List Pair). length ps in
    let all : List (List Pair) = node_pairs c.args.nodes c.args.keys_vals.now in
    let step : NodeStep c.args.nodes c.loop-node.node c.args.keys_vals.now (drop c.loop-node.next c.args.keys_vals.now) = node-step c.args.nodes c.loop-node.node c.args.keys_vals.now _ c.loop-node-test.true c.loop-node.invariant.pairs in
    let next : sum (map count (take (c.loop-node.node + 1) all)) ≡ sum (map count (take c.loop-node.node all)) + length (front_pairs (drop c.loop-node.next c.args.keys_vals.now)).0 =
    sum-next count all c.loop-node.node _ _ step.within step.here in
    let last : c.loop-node.last + c.pairs_from-count.result.0 ≡ c.args.end + sum (map count (take c.loop-node.node all)) + length (front_pairs (drop c.loop-node.next c.args.keys_vals.now)).0 = omega arith in
    record {
      within = c.pairs_from-count.ensures.within;
      pairs = ap (λ l. take (c.loop-node.node + 1) all ++ node_pairs (c.args.nodes - (c.loop-node.node + 1)) l) c.pairs_from-count.ensures.rest ∙ step.pairs;
      last = omega arith;
      column = ends-next count all c.loop-node.node c.args.at c.args.end _ _ _ _ _ _ _ step.within step.here last c.loop-node.invariant.column c.put_item.ensures (let place : c.args.at + c.loop-node.node ≡ c.args.at + c.loop-node.node = omega arith in place);
    }
