-- What the tables of a held map have, for queries.
use Rattle.std.proofs.Common.{◌≡◌, [], ◌∷◌, map, ap, pos}
use Rattle.sqlite.specs.Effect.{Database}
use Rattle.sqlite_trees.proofs.ListLemmas.{IsPermutation-same}
use Rattle.osm_rows.specs.Held.{HeldMap}
use Rattle.osm_rows.specs.Keeping.{extents_of}
use Rattle.osm_rows.specs.Rows.{placed_in}
use Rattle.osm_rows.specs.declared.schema.layout.Layout.{Layout}
use Rattle.osm_rows.specs.declared.schema.layout.Layout.TheVariants.{Tables}
use Rattle.osm_rows.specs.Schema.Layouts.{schema_of, version_of}
use Rattle.osm_rows.specs.LayoutHolding.{TablesHold}
use Rattle.osm_rows.proofs.LoadLemmas.ShownRows.{columns_at, HasExtents, HasTables}
use Rattle.osm_sql_store.proofs.LoadLemmas.ReadLemmas.{HasVersion}
use Rattle.osm_rows.specs.Schema.Tables.{table_schema}
use Rattle.osm_rows.proofs.MapLemmas.HeldLemmas.{extents_among}
use Rattle.osm_rows.proofs.MapLemmas.TableHeld.{tables_among}

pub has_extents : (layout : Layout) (db : Database) (held : HeldMap) → db.schema ≡ schema_of layout → TablesHold layout held db.trees → HasExtents layout db (extents_of held)
has_extents layout db held schema tables = extents_among layout db held schema tables.blob

pub has_version : (layout : Layout) (db : Database) (held : HeldMap) → db.schema ≡ schema_of layout → TablesHold layout held db.trees → HasVersion layout db (pos (version_of layout))
has_version layout db held schema tables = record { schema = schema; rows = IsPermutation-same _ _ (ap (map (columns_at (0 ∷ []))) tables.meta) }

pub has_tables : (db : Database) (held : HeldMap) → db.schema ≡ table_schema → TablesHold Tables held db.trees → HasTables db (placed_in held)
has_tables db held schema tables = tables_among db held schema tables.elements
