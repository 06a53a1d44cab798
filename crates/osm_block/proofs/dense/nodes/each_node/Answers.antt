use Rattle.std.proofs.Common.{◌≡◌, ◌<◌, ◌≤◌, ◌++◌, ◌∙◌, ◌∷◌, [], ap, sym, subst, ℕ, ℤ, List, map, length, drop, append-nil, arith}
use Rattle.std.specs.List.{list_all}
use Rattle.osm_value.specs.declared.element.Element.TheVariants as elements
use Rattle.osm_block.specs.Fields.{context_of}
use Rattle.osm_block.specs.Block.{texts_at, all_there}
use Rattle.osm_block.specs.NodeTags.{front_pairs, pair_indexes}
use Rattle.osm_block.specs.Phases.{is_index}
use Rattle.osm_block.specs.DenseRead.{NodesRead}
use Rattle.osm_block.proofs.DenseArrayLemmas.{so_far_begins, next_pairs, so_far_more, tags_are_in_range, users_along, appended_node}
use Rattle.osm_block.proofs.dense.nodes.each_node.Goals as goal

pub loop-index-init : goal.loop-index-init
loop-index-init c = ([], sym (append-nil c.reserve.new.self.items), so_far_begins (context_of c.args.scale.now) c.args.arrays.now c.requires.ready)

pub node_tags-requires-clause-in_table : goal.node_tags-requires-clause-in_table
node_tags-requires-clause-in_table c =
    let inside : c.loop-index.index < length c.args.arrays.now.ids.items = omega (arith, c.len-count.ensures) in
    ap (λ l. list_all (is_index (length l)) (pair_indexes (front_pairs (drop c.loop-index.at c.deref-in-loop-index.result.now)).0)) c.deref.ensures.value
    ∙ ap (λ l. list_all (is_index (length c.args.scale.now.table.items)) (pair_indexes (front_pairs (drop c.loop-index.at l)).0)) c.deref-in-loop-index.ensures.value
    ∙ users_along (λ t. t.now) c.args.scale.now.table.items _ (next_pairs (context_of c.args.scale.now) c.args.arrays.now _ _ _ inside c.loop-index.invariant.2).0

pub node_at-node-requires-clause-tags : goal.node_at-node-requires-clause-tags
node_at-node-requires-clause-tags c =
    tags_are_in_range (map (λ t. t.now) c.args.scale.now.table.items) _ _ c.args.scale.now.texts
    (c.in_ok-tags.ensures.texts
    ∙ ap (λ l. texts_at (map (λ t. t.now) l) (front_pairs (drop c.loop-index.at c.deref-in-loop-index.result.now)).0) c.deref.ensures.value
    ∙ ap (λ l. texts_at (map (λ t. t.now) c.args.scale.now.table.items) (front_pairs (drop c.loop-index.at l)).0) c.deref-in-loop-index.ensures.value)

pub loop-index-preserved : goal.loop-index-preserved
loop-index-preserved c =
    let inside : c.loop-index.index < length c.args.arrays.now.ids.items = omega (arith, c.len-count.ensures) in
    let within : c.in_ok-tags.next ≤ length c.args.arrays.now.keys_vals.items = rw c.deref-in-loop-index.ensures.value at c.in_ok-tags.ensures.within in (
      c.loop-index.invariant.0 ++ c.node_at-node.result ∷ [],
      appended_node _ _ _ _ _ c.loop-index.invariant.1 c.in_ok-push.ensures.items,
      so_far_more (context_of c.args.scale.now) c.args.arrays.now _ _ _ _ _ c.requires.ready inside c.loop-index.invariant.2 c.node_at-node.ensures.node
          (ap all_there c.node_at-node.ensures.tags ∙ c.in_ok-tags.ensures.texts
          ∙ ap (λ l. texts_at (map (λ t. t.now) l) (front_pairs (drop c.loop-index.at c.deref-in-loop-index.result.now)).0) c.deref.ensures.value
          ∙ ap (λ l. texts_at (map (λ t. t.now) c.args.scale.now.table.items) (front_pairs (drop c.loop-index.at l)).0) c.deref-in-loop-index.ensures.value)
          (rw c.deref-in-loop-index.ensures.value at c.in_ok-tags.ensures.rest)
          within,
    )

pub returns : goal.returns
returns c =
    let end : c.loop-index.index ≡ length c.args.arrays.now.ids.items = omega (arith, c.len-count.ensures) in
    let left : List ℤ = drop c.loop-index.at c.args.arrays.now.keys_vals.items in
    let P : ℕ → Type 0 = λ k. NodesRead (context_of c.args.scale.now) c.args.arrays.now k left c.loop-index.invariant.0 in
    (c.loop-index.invariant.0, left, c.loop-index.invariant.1 ∙ ap (λ l. l ++ map elements.Node c.loop-index.invariant.0) c.in_ok-reserve.ensures.items, subst P end c.loop-index.invariant.2.read)
