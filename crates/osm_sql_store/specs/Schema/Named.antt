-- Whether a database has tables of the names of those of a store, with columns of the names of theirs.
use Rattle.std.specs.Prelude.{ℕ, ◌≡◌, Bool, true, ◌&&◌, List, map, is_some}
use Rattle.std.specs.List.{AllByRecursion, list_all, list_any}
use Rattle.sqlite_schema.specs.Names.{same_name, column_named}
use Rattle.sqlite_schema.specs.declared.schema.Column.{Column}
use Rattle.sqlite.specs.Table.{Table}
use Rattle.sqlite.specs.Schema.{Schema}
use Rattle.osm_rows.specs.declared.schema.layout.Layout.{Layout}
use Rattle.osm_rows.specs.Schema.Layouts.{schema_of}

-- the names of the columns of a table
abbrev pub names_of : Table → List (List ℕ)
names_of table = map (λ (c : Column). c.name) table.columns

-- the table has a column of each of these names
abbrev pub has_columns : Table → List (List ℕ) → Bool
has_columns table columns = list_all (λ name. is_some (column_named table name)) columns

-- a table has this name, and a column of each of these
abbrev pub has_table : Schema → List ℕ → List (List ℕ) → Bool
has_table schema name columns = list_any (λ (t : Table). same_name t.name name && has_columns t columns) schema.tables

-- each table of the layout is there by its name, and so is each of its columns
abbrev pub HasTables : Layout → Schema → Type 0
HasTables layout schema = AllByRecursion (λ (t : Table). has_table schema t.name (names_of t) ≡ true) (schema_of layout).tables
