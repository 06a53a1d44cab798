-- What may stand beside the trees of a store in the list of a database's objects.
use Rattle.std.specs.Prelude.{◌≡◌, ◌⊎◌, List, take}
use Rattle.sqlite_value.specs.Order.{Row}
use Rattle.sqlite_catalog.specs.Listing.{Lists}
use Rattle.osm_rows.specs.declared.schema.layout.Layout.{Layout}
use Rattle.osm_rows.specs.declared.schema.layout.Layout.TheVariants.{Bodies, Tables}
use Rattle.osm_rows.specs.Schema.Layouts.{schema_of}
use Rattle.osm_tree_writes.specs.Tables.{table_listings}

-- the list has the trees of a store that keeps elements in tables, and nothing else
abbrev pub ListsAlone : List Row → Type 0
ListsAlone rows = Lists rows (schema_of Tables) ⊎ (rows ≡ table_listings)

-- the list has the trees of a store alone, or begins with those of one that keeps elements in tables
abbrev pub HasAStore : Layout → List Row → Type 0
HasAStore Bodies rows = Lists rows (schema_of Bodies)
HasAStore Tables rows = Lists rows (schema_of Tables) ⊎ (take 9 rows ≡ table_listings)
