-- What the tables of each layout are.
use Rattle.std.specs.Prelude.{ℕ}
use Rattle.sqlite.specs.Schema.{Schema}
use Rattle.osm_rows.specs.declared.schema.layout.Layout.{Layout}
use Rattle.osm_rows.specs.declared.schema.layout.Layout.TheVariants.{Bodies, Tables}
use Rattle.osm_rows.specs.Schema.Bodies.{body_schema}
use Rattle.osm_rows.specs.Schema.Tables.{table_schema, table_version}

-- the tables of the layout and their indexes, as `sqlite` sees them
abbrev pub schema_of : Layout → Schema
schema_of Bodies = body_schema
schema_of Tables = table_schema

-- the version that the table `meta` names
abbrev pub version_of : Layout → ℕ
version_of Bodies = 1
version_of Tables = table_version
