-- The tables of a store in the layout of bodies, as `sqlite` sees them, and those that both layouts share. The statements
-- that make them stand in `src/schema/sql.rt`, here and in `osm_old_store`, and proofs say that they make these.
use Rattle.std.specs.Prelude.{ℕ, true, false, List, [], ◌∷◌, Option, Some, None, codes}
use Rattle.sqlite.specs.Collation.TheVariants.{Binary}
use Rattle.sqlite.specs.declared.types.Value.TheVariants.{Null}
use Rattle.sqlite_schema.specs.declared.schema.Column.{Column}
use Rattle.sqlite_schema.specs.declared.schema.Index.{Index}
use Rattle.sqlite_value.specs.declared.keys.Order.{Order}
use Rattle.sqlite_value.specs.Keys.{plain}
use Rattle.sqlite.specs.Kind.{Kind}
use Rattle.sqlite.specs.Kind.TheVariants.{Integer, Blob}
use Rattle.sqlite.specs.Table.{Table}
use Rattle.sqlite.specs.Schema.{Schema}

abbrev pub key_column : List ℕ → Column
key_column name = record { name = name; kind = Integer; is_strict = true; not_null = false; default = Null; collation = Binary }

abbrev pub full_column : List ℕ → Kind → Column
full_column name kind = record { name = name; kind = kind; is_strict = true; not_null = true; default = Null; collation = Binary }

-- no CHECK, no foreign key, no default that is computed
abbrev pub plain_table : List ℕ → ℕ → List Column → Option ℕ → List ℕ → List (List ℕ) → List Order → Table
plain_table name tree columns key primary uniques orders = record {
  name = name;
  tree = tree;
  columns = columns;
  key = key;
  primary = primary;
  uniques = uniques;
  orders = orders;
  checks = [];
  references = [];
  computed = [];
  stamps = record { places = []; terms = []; formats = [] };
  is_counted = false;
}

-- its one row names the version
abbrev pub meta : Table
meta = plain_table (codes "meta") 0 (key_column (codes "version") ∷ []) (Some 0) (0 ∷ []) [] []

-- a row for each held blob
abbrev pub blob : Table
blob = plain_table (codes "blob") 1
    (key_column (codes "off") ∷ full_column (codes "fin") Integer ∷ full_column (codes "digest") Blob ∷ full_column (codes "kind") Integer ∷ full_column (codes "n") Integer ∷ [])
    (Some 0) (0 ∷ []) [] []

abbrev pub body : Table
body = plain_table (codes "body") 2
    (full_column (codes "off") Integer ∷ full_column (codes "pos") Integer ∷ full_column (codes "kind") Integer ∷ full_column (codes "id") Integer ∷ full_column (codes "data") Blob ∷ [])
    None (1 ∷ 2 ∷ []) ((1 ∷ 2 ∷ []) ∷ []) (plain ∷ [])

abbrev pub by_place : Index
by_place = record { name = codes "sqlite_autoindex_body_1"; tree = 3; table = 2; columns = 1 ∷ 2 ∷ []; order = plain; is_unique = true }

abbrev pub by_element : Index
by_element = record { name = codes "body_element"; tree = 4; table = 2; columns = 3 ∷ 4 ∷ []; order = plain; is_unique = false }

abbrev pub body_schema : Schema
body_schema = record { tables = meta ∷ blob ∷ body ∷ []; indexes = by_place ∷ by_element ∷ []; views = [] }
