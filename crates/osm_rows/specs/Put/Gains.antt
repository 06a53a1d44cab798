-- What a put adds to the tables.
use Rattle.std.specs.Prelude.{◌≡◌, List, ◌++◌, map, drop}
use Rattle.std.specs.List.Sorted.{IsPermutation}
use Rattle.sqlite.specs.Order.{Row}
use Rattle.sqlite.specs.Tree.{Trees, put_row}
use Rattle.sqlite_catalog.specs.Listing.{IsSound}
use Rattle.osm_rows.specs.declared.keeper.Extent.{Extent}
use Rattle.osm_rows.specs.declared.schema.layout.Layout.{Layout}
use Rattle.osm_rows.specs.declared.schema.layout.Layout.TheVariants.{Bodies, Tables}
use Rattle.osm_rows.specs.Schema.Layouts.{schema_of}
use Rattle.osm_rows.specs.Rows.{Placed, extent_row, body_row}
use Rattle.osm_rows.specs.TableRows.{element_rows, tag_rows, link_rows}

-- a table has the rows of before and these, in any order, under rowids that `sqlite` chose
abbrev pub Gains : List Row → List Row → List Row → Type 0
Gains old rows new = IsPermutation (map (drop 1) old ++ rows) (map (drop 1) new)

-- the tables of elements have the rows of these elements more
abbrev pub GainsElements : Layout → List Placed → Trees → Trees → Type 0
GainsElements Bodies elements old new = Gains (old 2) (map body_row elements) (new 2)
GainsElements Tables elements old new = Gains (old 2) (element_rows elements) (new 2) × Gains (old 4) (tag_rows elements) (new 4) × Gains (old 6) (link_rows elements) (new 6)

-- the tables after a blob was put, whatever they held before
pub record Puts (layout : Layout) (old new : Trees) (extent : Extent) (added : List Placed) : Type 0 where
  pub sound : IsSound (schema_of layout) new
  pub meta : new 0 ≡ old 0
  pub blob : new 1 ≡ put_row (extent_row extent) (old 1)
  pub elements : GainsElements layout added old new
