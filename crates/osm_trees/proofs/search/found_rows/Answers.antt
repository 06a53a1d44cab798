use Rattle.std.proofs.Common.{◌∙◌, w64}
use Rattle.std.proofs.lemmas.Int.{to_z-of_z}
use Rattle.std.specs.Prelude.{filter}
use Rattle.std.proofs.lemmas.Result.{err_from_is_err_and}
use Rattle.sqlite_trees.specs.View.{IsClean}
use Rattle.sqlite_trees.proofs.ListLemmas.{all-filter}
use Rattle.osm_rows.specs.declared.schema.layout.Layout.TheVariants.{Tables}
use Rattle.osm_rows.specs.Rows.{is_of, placed_in}
use Rattle.osm_rows.proofs.LoadLemmas.TableFinds.{all_alone}
use Rattle.osm_tree_audits.proofs.Looking.{clean_before}
use Rattle.osm_trees.proofs.Looking.{holds_after}
use Rattle.osm_trees.proofs.TreeReads.{rows_of_some}
use Rattle.osm_trees.proofs.search.found_rows.Goals as goal

pub returns-clause-held : goal.returns-clause-held
returns-clause-held g c clean held holds =
    let old = g.S.Store.view c.args.store.now in
    let one = g.S.Store.view c.matching_rows.new.store in
    let test = is_of c.args.kind c.args.id in
    let clean_one : IsClean one = clean_before g.S.Store _ _ c.all_parts.ensures.looks clean in
    let matches = rw (to_z-of_z w64 c.args.id c.ranges.id) at (c.in_ok-elements.ensures.held clean_one held holds) in
    let still = holds_after Tables old one held (c.matching_rows.ensures.looks.reads clean_one matches.1) clean_one matches.1 holds in
    let parts = c.in_ok-tags.ensures.held clean held (filter test (placed_in held)) still (c.deref.ensures.value ∙ matches.0) (all-filter _ test (placed_in held) (all_alone held)) in
    (rows_of_some held test _ holds.kept (c.in_ok-answered.ensures ∙ c.deref-2.ensures.value ∙ matches.0) parts.0.are_tags parts.0.are_links, parts.1)

pub returns-in_err-tags-clause-held : goal.returns-in_err-tags-clause-held
returns-in_err-tags-clause-held g c clean held holds =
    let old = g.S.Store.view c.args.store.now in
    let one = g.S.Store.view c.matching_rows.new.store in
    let test = is_of c.args.kind c.args.id in
    let p = err_from_is_err_and c.from_residual-in_err-tags.result c.from_residual-in_err-tags.ensures.1 in
    let clean_one : IsClean one = clean_before g.S.Store _ _ c.all_parts.ensures.looks clean in
    let matches = rw (to_z-of_z w64 c.args.id c.ranges.id) at (c.in_ok-elements.ensures.held clean_one held holds) in
    let still = holds_after Tables old one held (c.matching_rows.ensures.looks.reads clean_one matches.1) clean_one matches.1 holds in
    rw (p.1, p.2) (c.in_err-tags.ensures.held clean held (filter test (placed_in held)) still (c.deref.ensures.value ∙ matches.0) (all-filter _ test (placed_in held) (all_alone held)))
