use Rattle.std.proofs.Common.{◌∙◌, ◌++◌, List, length, ap, sym, subst}
use Rattle.std.specs.List.{list_all}
use Rattle.osm_value.specs.declared.element.Element.{Element}
use Rattle.osm_block.specs.DenseTags.{indexes_of}
use Rattle.osm_block.specs.NodeTags.{node_pairs}
use Rattle.osm_block.specs.Phases.{is_index}
use Rattle.osm_columns.specs.Indexes.{AreIndexes}
use Rattle.osm_columns.proofs.indexes.TextIndexes.push_group.Goals as goal

pub push_dense-requires-clause-users : goal.push_dense-requires-clause-users
push_dense-requires-clause-users c =
    let held = rw c.in-Dense.is at c.requires.2 in
    ap (λ k. list_all (is_index k) c.in-Dense.arrays.users.items) c.requires.3 ∙ held.2.ready.users_in_table

pub push_dense-requires-clause-tags : goal.push_dense-requires-clause-tags
push_dense-requires-clause-tags c =
    let held = rw c.in-Dense.is at c.requires.2 in
    ap (λ k. list_all (is_index k) (indexes_of (node_pairs (length c.in-Dense.arrays.ids.items) c.in-Dense.arrays.keys_vals.items))) c.requires.3 ∙ held.2.ready.tags_in_table

pub returns-in_ok-push_dense-in-Dense-clause-indexes : goal.returns-in_ok-push_dense-in-Dense-clause-indexes
returns-in_ok-push_dense-in-Dense-clause-indexes c = λ b es more h t i.
    let held = rw c.in-Dense.is at h in
    let P : List Element → Type 0 = λ l. AreIndexes c.push_dense.new.self (es ++ l) in
    subst P (sym held.1) (c.in_ok-push_dense-in-Dense.ensures.indexes b held.0 es held.2 t i)
