-- The tables of a store in the layout of tables: each element is rows of numbers and texts.
use Rattle.std.specs.Prelude.{ℕ, true, false, List, [], ◌∷◌, None, codes}
use Rattle.sqlite.specs.Collation.TheVariants.{Binary}
use Rattle.sqlite.specs.declared.types.Value.TheVariants.{Null}
use Rattle.sqlite_schema.specs.declared.schema.Column.{Column}
use Rattle.sqlite_schema.specs.declared.schema.Index.{Index}
use Rattle.sqlite_value.specs.Keys.{plain}
use Rattle.sqlite.specs.Kind.{Kind}
use Rattle.sqlite.specs.Kind.TheVariants.{Integer, Text}
use Rattle.sqlite.specs.Table.{Table}
use Rattle.sqlite.specs.Schema.{Schema}
use Rattle.osm_rows.specs.Schema.Bodies.{full_column, plain_table, meta, blob}
use Rattle.osm_rows.specs.declared.trees.TheConstants.{ELEMENTS, ELEMENT_KEY, LINKS, LINK_KEY, TAGS, TAG_KEY}

-- the version of these tables
abbrev pub table_version : ℕ
table_version = 2

-- a column that may be NULL
abbrev pub free_column : List ℕ → Kind → Column
free_column name kind = record { name = name; kind = kind; is_strict = true; not_null = false; default = Null; collation = Binary }

abbrev pub element : Table
element = plain_table (codes "element") 2
    (full_column (codes "off") Integer ∷ full_column (codes "pos") Integer ∷ full_column (codes "kind") Integer ∷ full_column (codes "id") Integer
    ∷ free_column (codes "lat") Integer ∷ free_column (codes "lon") Integer ∷ free_column (codes "version") Integer ∷ free_column (codes "time") Integer
    ∷ free_column (codes "changeset") Integer ∷ free_column (codes "uid") Integer ∷ free_column (codes "user") Text ∷ free_column (codes "visible") Integer ∷ [])
    None (1 ∷ 2 ∷ []) ((1 ∷ 2 ∷ []) ∷ []) (plain ∷ [])

abbrev pub tag : Table
tag = plain_table (codes "tag") 4
    (full_column (codes "off") Integer ∷ full_column (codes "pos") Integer ∷ full_column (codes "k") Integer ∷ full_column (codes "key") Text ∷ full_column (codes "val") Text ∷ [])
    None (1 ∷ 2 ∷ 3 ∷ []) ((1 ∷ 2 ∷ 3 ∷ []) ∷ []) (plain ∷ [])

abbrev pub link : Table
link = plain_table (codes "link") 6
    (full_column (codes "off") Integer ∷ full_column (codes "pos") Integer ∷ full_column (codes "k") Integer ∷ full_column (codes "kind") Integer ∷ full_column (codes "ref") Integer
    ∷ full_column (codes "role") Text ∷ [])
    None (1 ∷ 2 ∷ 3 ∷ []) ((1 ∷ 2 ∷ 3 ∷ []) ∷ []) (plain ∷ [])

-- the index that `sqlite` makes of a primary key
abbrev pub key_index : List ℕ → ℕ → ℕ → List ℕ → Index
key_index name tree table columns = record { name = name; tree = tree; table = table; columns = columns; order = plain; is_unique = true }

abbrev pub element_key : Index
element_key = key_index (codes "sqlite_autoindex_element_1") ELEMENT_KEY ELEMENTS (1 ∷ 2 ∷ [])

abbrev pub tag_key : Index
tag_key = key_index (codes "sqlite_autoindex_tag_1") TAG_KEY TAGS (1 ∷ 2 ∷ 3 ∷ [])

abbrev pub link_key : Index
link_key = key_index (codes "sqlite_autoindex_link_1") LINK_KEY LINKS (1 ∷ 2 ∷ 3 ∷ [])

abbrev pub element_by_id : Index
element_by_id = record { name = codes "element_by_id"; tree = 8; table = 2; columns = 3 ∷ 4 ∷ []; order = plain; is_unique = false }

-- the tables and indexes of the layout of tables, as `sqlite` sees them
abbrev pub table_schema : Schema
table_schema = record { tables = meta ∷ blob ∷ element ∷ tag ∷ link ∷ []; indexes = element_key ∷ tag_key ∷ link_key ∷ element_by_id ∷ []; views = [] }
