use Rattle.std.proofs.Common.{rules, ◌≡◌, ◌∙◌, ◌<◌, ◌+◌, ◌^◌, List, length, map, sum, ap, arith}
use Rattle.osm_block.specs.NodeTags.{node_pairs}
use Rattle.osm_value.specs.Value.{NodeValue}
use Rattle.osm_value.specs.Elements.{tags_of_element}
use Rattle.osm_value.specs.declared.element.Element.TheVariants as elements
use Rattle.osm_block.specs.DenseTags.{Pair}
use Rattle.osm_columns.specs.Lists.{sums_from}
use Rattle.osm_columns.proofs.AddLemmas.{adds-same}
use Rattle.osm_columns.proofs.DenseLemmas.{tag-counts}
use Rattle.osm_columns.proofs.ends.TagEndsEndColumn.put_dense.Goals as goal

pub put_tag_ends-requires-clause-fits : goal.put_tag_ends-requires-clause-fits
put_tag_ends-requires-clause-fits c =
    let count : c.len.result ≡ length c.args.arrays.now.ids.items = search rules in
    let counts : map (λ (ps : List Pair). length ps) (node_pairs c.len.result c.deref.result.now) ≡ map (λ (n : NodeValue). length (tags_of_element (elements.Node n))) c.requires.held.0 =
    ap (λ k. map (λ (ps : List Pair). length ps) (node_pairs k c.deref.result.now)) count ∙ ap (λ l. map (λ (ps : List Pair). length ps) (node_pairs (length c.args.arrays.now.ids.items) l)) c.deref.ensures.value ∙ tag-counts _ _ c.requires.held.0 c.requires.held.1 in
    let same : sum (map (λ (ps : List Pair). length ps) (node_pairs c.len.result c.deref.result.now)) ≡ sum (map (λ (n : NodeValue). length (tags_of_element (elements.Node n))) c.requires.held.0) = ap sum counts in
    let fits : c.args.end + sum (map (λ (n : NodeValue). length (tags_of_element (elements.Node n))) c.requires.held.0) < 2 ^ 64 = c.requires.held.2 in
    omega arith

pub returns-clause-end : goal.returns-clause-end
returns-clause-end c = λ ns h.
    let count : c.len.result ≡ length c.args.arrays.now.ids.items = search rules in
    c.put_tag_ends.ensures.end ∙ ap (λ l. c.args.end + sum l)
    (ap (λ k. map (λ (ps : List Pair). length ps) (node_pairs k c.deref.result.now)) count ∙ ap (λ l. map (λ (ps : List Pair). length ps) (node_pairs (length c.args.arrays.now.ids.items) l)) c.deref.ensures.value ∙ tag-counts _ _ ns h)

pub returns-clause-column : goal.returns-clause-column
returns-clause-column c = λ ns h.
    let count : c.len.result ≡ length c.args.arrays.now.ids.items = search rules in
    adds-same c.args.at _ _ c.args.ends.now c.put_tag_ends.new.ends (ap (sums_from c.args.end)
    (ap (λ k. map (λ (ps : List Pair). length ps) (node_pairs k c.deref.result.now)) count ∙ ap (λ l. map (λ (ps : List Pair). length ps) (node_pairs (length c.args.arrays.now.ids.items) l)) c.deref.ensures.value ∙ tag-counts _ _ ns h)) c.put_tag_ends.ensures.column
