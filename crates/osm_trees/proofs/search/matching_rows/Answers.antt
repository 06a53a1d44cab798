use Rattle.std.proofs.Common.{◌≡◌, ◌∙◌, ap, pos, [], ◌∷◌, w64}
use Rattle.std.proofs.lemmas.Int.{to_z-of_z}
use Rattle.sqlite_value.specs.declared.value.Value.TheVariants.{Int}
use Rattle.osm_rows.specs.Rows.{element_code, is_of}
use Rattle.osm_trees.proofs.TreeReads.{of_kind_and_id, sorted_elements}
use Rattle.osm_trees.proofs.search.matching_rows.Goals as goal

pub returns-clause-held : goal.returns-clause-held
returns-clause-held g c clean held holds =
    let trees = (g.S.Store.view c.args.store.now).trees in
    let key : c.in_ok-key.key ≡ Int (pos (element_code c.args.kind)) ∷ Int c.args.id ∷ [] = c.in_ok-key.ensures ∙ ap (λ i. Int (pos (element_code c.args.kind)) ∷ Int i ∷ []) (to_z-of_z w64 c.args.id c.ranges.id) in
    let finds = rw key at (c.in_ok-rows.ensures.rows clean) in
    (sorted_elements held (is_of c.args.kind c.args.id) _ _ (of_kind_and_id trees held holds.tables c.args.kind c.args.id _ finds) c.sort_rows.ensures.same c.in_ok-sort_rows.ensures.sorted, c.in_ok-rows.ensures.sound clean)
