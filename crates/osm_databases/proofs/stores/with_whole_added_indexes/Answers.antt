use Rattle.std.proofs.Common.{◌≡◌, ◌∙◌, arith, ap, sym, subst}
use Rattle.sqlite_trees.specs.Objects.{catalog_tree}
use Rattle.sqlite_trees.specs.View.{View, IsClean}
use Rattle.osm_tree_writes.proofs.ToKeep.{refused_alike, indexes_alike}
use Rattle.osm_tree_audits.specs.Indexes.{AreWhole}
use Rattle.osm_databases.specs.Checked.{HasWholeAdded}
use Rattle.osm_databases.proofs.stores.with_whole_added_indexes.Goals as goal

pub returns-in-Ok-None-clause-whole : goal.returns-in-Ok-None-clause-whole
returns-in-Ok-None-clause-whole g c clean =
    let old = g.S.Store.view c.args.trees in
    let rows = old.trees catalog_tree in
    let clean_0 : IsClean old = omega (arith, clean, c.faulty_added_index.ensures.looks.quiet.clean) in
    let objects = c.in_ok-objects.ensures clean_0 in
    let told = rw c.in-Some.is at c.in_ok-indexes.ensures in
    let kept = sym (refused_alike rows c.in_ok-objects.objects.items c.as_slice.result.now c.as_slice.ensures.value objects) ∙ told.0 in
    let all = told.1 ∙ indexes_alike rows c.in_ok-objects.objects.items c.as_slice.result.now c.as_slice.ensures.value objects in
    let same : (g.S.Store.view c.faulty_added_index.new.store).trees ≡ old.trees = ap (λ (v : View). v.trees) (c.faulty_added_index.ensures.looks.reads clean (c.in-Ok-None.ensures.sound clean)) in
    let whole = subst (AreWhole old.trees) (c.as_slice-2.ensures.value ∙ all) (rw c.in-Ok-None.field-0-is at (c.in-Ok-None.ensures.told clean)) in
    subst HasWholeAdded (sym same) (kept, whole)
