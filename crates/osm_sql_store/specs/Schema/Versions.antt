-- The statement that names the layout.
use Rattle.std.specs.Prelude.{ℕ, List}
use Rattle.osm_rows.specs.declared.schema.layout.Layout.{Layout}
use Rattle.osm_rows.specs.declared.schema.layout.Layout.TheVariants.{Bodies, Tables}
use Rattle.osm_sql_store.specs.declared.schema.sql.TheConstants.{INSERT_BODY_VERSION, INSERT_TABLE_VERSION}

-- the statement that writes it
abbrev pub version_text_of : Layout → List ℕ
version_text_of Bodies = INSERT_BODY_VERSION.now
version_text_of Tables = INSERT_TABLE_VERSION.now
