use Rattle.std.proofs.Common.{◌∙◌, subst, sym}
use Rattle.sqlite_trees.specs.Objects.{catalog_tree}
use Rattle.sqlite_catalog.specs.Listing.{Lists}
use Rattle.sqlite.specs.Tree.{Trees}
use Rattle.osm_rows.specs.declared.schema.layout.Layout.TheVariants.{Tables}
use Rattle.osm_rows.specs.Schema.Tables.{table_schema}
use Rattle.osm_rows.specs.LayoutHolding.{TablesHold}
use Rattle.osm_tree_writes.proofs.Obeying.{tables_of}
use Rattle.osm_trees.proofs.laws.a_connection_holds_the_same.Goals as goal

pub returns : goal.returns
returns g c held holds clean opens live same lists =
    let before = g.T.Store.view c.args.before.now.store in
    let listed = subst (λ (ts : Trees). Lists (ts catalog_tree) table_schema) (sym holds.settled) lists in
    c.holds_again.ensures clean opens live Tables held holds.kept (subst (TablesHold Tables held) (holds.settled ∙ sym same) (tables_of Tables held before.trees listed holds.tables))
