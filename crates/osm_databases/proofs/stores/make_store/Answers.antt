use Rattle.std.proofs.Common.{◌≡◌, ◌∙◌, sym, ap, subst, inl, arith}
use Rattle.std.specs.FinMap.{empty}
use Rattle.sqlite.specs.Effect.{Database}
use Rattle.sqlite.specs.Held.{state}
use Rattle.sqlite.specs.State.{HasCleanDisk}
use Rattle.sqlite_trees.specs.Objects.{catalog_tree}
use Rattle.sqlite_trees.specs.Tree.{Trees}
use Rattle.sqlite_trees.specs.View.{IsClean}
use Rattle.sqlite_catalog.specs.Listing.{Lists}
use Rattle.osm_rows.specs.Schema.Tables.{table_schema}
use Rattle.osm_rows.specs.declared.schema.layout.Layout.TheVariants.{Tables}
use Rattle.osm_rows.specs.LayoutHolding.{Holds}
use Rattle.osm_tree_writes.specs.Putting.{TreesHold}
use Rattle.osm_tree_writes.proofs.Obeying.{one_map_below, trees_of}
use Rattle.osm_trees.specs.Below.{HoldsBelow}
use Rattle.osm_trees.specs.Reading.{open_of, lists_always}
use Rattle.osm_databases.specs.Found.{ListOnlyAStore}
use Rattle.osm_databases.proofs.stores.make_store.Goals as goal

pub returns-clause-empty : goal.returns-clause-empty
returns-clause-empty g c =
    let view = g.S.Store.view in
    let old = c.into_connection.result.store in
    let new = c.into_store-trees.result in
    let made : c.new.result.store ≡ new = ap (λ r. r.store) c.new.ensures in
    subst (λ s. IsClean (view s) → HoldsBelow Tables (view s) empty) (sym made) (λ clean.
    let before : IsClean (view old) = omega (arith, clean, c.into_store-trees.ensures.quiet.clean) in
    let holds : Holds Tables (state g.S.Store c.into_connection.result) empty =
    subst (λ h. HasCleanDisk (state g.S.Store h) → Holds Tables (state g.S.Store h) empty) (sym c.into_connection.ensures) c.in-Ok.ensures.empty before in
    let unbroken = sym (c.is_broken.ensures clean) ∙ c.if-is_broken.false in
    let up = open_of _ _ (g.met.S.Store.broken_if_shut new) unbroken in
    let undone = c.into_store-trees.ensures.undone in
    let back : (view new).trees ≡ (view old).committed = (undone.undone up).0 in
    let committed : (view new).committed ≡ (view old).committed = (undone.kept clean).committed up in
    let same : (view old).trees ≡ (view new).trees = ap (λ (db : Database). db.trees) holds.settled ∙ sym back in
    let held : TreesHold Tables empty (view new).trees = subst (TreesHold Tables empty) same (trees_of Tables empty (view old).trees holds.tables) in
    record {
      clean = clean;
      unbroken = unbroken;
      settled = back ∙ sym committed;
      kept = holds.kept;
      tables = held;
      only = λ other kept tables. one_map_below Tables other empty (view new).trees kept holds.kept tables held;
    })

pub returns-clause-alone : goal.returns-clause-alone
returns-clause-alone g c =
    let view = g.S.Store.view in
    let old = c.into_connection.result.store in
    let new = c.into_store-trees.result in
    let made : c.new.result.store ≡ new = ap (λ r. r.store) c.new.ensures in
    subst (λ s. IsClean (view s) → ListOnlyAStore (view s) (g.S.Store.recovers s)) (sym made) (λ clean.
    let before : IsClean (view old) = omega (arith, clean, c.into_store-trees.ensures.quiet.clean) in
    let holds : Holds Tables (state g.S.Store c.into_connection.result) empty =
    subst (λ h. HasCleanDisk (state g.S.Store h) → Holds Tables (state g.S.Store h) empty) (sym c.into_connection.ensures) c.in-Ok.ensures.empty before in
    let unbroken = sym (c.is_broken.ensures clean) ∙ c.if-is_broken.false in
    let up = open_of _ _ (g.met.S.Store.broken_if_shut new) unbroken in
    let undone = c.into_store-trees.ensures.undone in
    let back : (view new).trees ≡ (view old).committed = (undone.undone up).0 in
    let committed : (view new).committed ≡ (view old).committed = (undone.kept clean).committed up in
    let same : (view old).trees ≡ (view new).trees = ap (λ (db : Database). db.trees) holds.settled ∙ sym back in
    let listed : Lists ((view new).trees catalog_tree) table_schema = subst (λ (db : Trees). Lists (db catalog_tree) table_schema) same holds.tables.sound.lists in (
      inl listed,
      lists_always (view new) (g.S.Store.recovers new) unbroken (back ∙ sym committed) (λ db open_now left. g.met.S.Store.settled new db open_now left) (g.met.S.Store.broken_if_shut new),
    ))
