-- What rows of the layout of tables stand for.
use Rattle.std.specs.Prelude.{◌≡◌, List, All}
use Rattle.sqlite_trees.specs.Tree.{IsAscending}
use Rattle.osm_rows.specs.declared.load.tables.rows.TableRows.{TableRows}
use Rattle.osm_rows.specs.declared.schema.layout.Layout.TheVariants.{Tables}
use Rattle.osm_rows.specs.Rows.{Placed, IsBefore, IsStored}
use Rattle.osm_rows.specs.TableRows.{element_rows, tag_rows, link_rows}

-- the rows are those of these elements, by offset, position and number
pub record AreRowsOf (rows : TableRows) (placed : List Placed) : Type 0 where
  pub elements : rows.elements.items ≡ element_rows placed
  pub tags : rows.tags.items ≡ tag_rows placed
  pub links : rows.links.items ≡ link_rows placed
  pub ascending : IsAscending IsBefore placed
  pub stored : All (λ (p : Placed). IsStored Tables p.2) placed
