-- Indexes added to the tables of a store, as the list of a database's objects tells of them.
use Rattle.std.specs.Prelude.{◌≡◌, ℕ, suc, pos, nat_lt, if◌then◌else◌, Bool, false, not, ◌&&◌, ◌||◌, Option, None, Some, is_some, Ok, Err, List, [], ◌∷◌, codes}
use Rattle.std.specs.List.{list_any}
use Rattle.std.specs.Ordering.{is_lt}
use Rattle.sqlite_value.specs.declared.value.Value.{Value}
use Rattle.sqlite_value.specs.declared.value.Value.TheVariants.{Int, Text}
use Rattle.sqlite_value.specs.Order.{Row, column, bytes, value_cmp}
use Rattle.sqlite_trees.specs.Sound.{is_word, same_name}
use Rattle.sqlite_schema.specs.declared.schema.Index.{Index}
use Rattle.sqlite_schema.specs.declared.schema.Table.{Table}
use Rattle.sqlite_resolve.specs.Lowering.{Checked}
use Rattle.sqlite_resolve.specs.Compile.{index_defined_by}
use Rattle.osm_rows.specs.Schema.Tables.{element, tag, link}

-- the name of a table of a store, in any case
abbrev pub is_of_a_store : List ℕ → Bool
is_of_a_store name = same_name name (codes "meta") || same_name name (codes "blob") || same_name name (codes "element") || same_name name (codes "tag") || same_name name (codes "link")

-- the rowid of one of the nine trees of a store
abbrev pub is_own_place : Value → Bool
is_own_place rowid = is_lt (value_cmp rowid (Int (pos 10)))

-- the row of the list tells of an index added to a table of a store
abbrev pub is_added_index : Row → Bool
is_added_index row = is_word (codes "index") (column row 1) && is_of_a_store (bytes (column row 3)) && not (is_own_place (column row 0))

-- the number of the tree that has this rowid in the list
abbrev pub tree_of : Value → Option ℕ
tree_of (Int (pos (suc tree))) = if nat_lt tree 65536 then Some tree else None
tree_of _ = None

-- the table of elements, of tags or of links that has this name
abbrev pub table_named : List ℕ → Option Table
table_named name = if same_name name (codes "element") then Some element else (if same_name name (codes "tag") then Some tag else (if same_name name (codes "link") then Some link else None))

-- the index that a text defines, in this tree, unless it is UNIQUE
abbrev pub if_plain : ℕ → Checked Index → Option Index
if_plain tree (Ok index) = if index.is_unique then None else Some (record index { tree = tree })
if_plain tree (Err e) = None

abbrev pub defined_index : Option ℕ → Option Table → Value → Option Index
defined_index (Some tree) (Some table) (Text sql) = if_plain tree (index_defined_by table sql)
defined_index _ _ _ = None

-- the index that the row's text defines of the row's table, in the row's tree
abbrev pub told_index : Row → Option Index
told_index row = defined_index (tree_of (column row 0)) (table_named (bytes (column row 3))) (column row 4)

-- an added index that a put keeps
abbrev pub plain_index : Row → Option Index
plain_index row = if is_added_index row then told_index row else None

abbrev pub with_index : Option Index → List Index → List Index
with_index None indexes = indexes
with_index (Some index) indexes = index ∷ indexes

-- all of them of which these rows tell, in order
abbrev pub plain_indexes : List Row → List Index
plain_indexes [] = []
plain_indexes (row ∷ rows) = with_index (plain_index row) (plain_indexes rows)

-- the row of the list tells of a trigger on a table of a store, which a put would have to run
abbrev pub binds_a_store : Row → Bool
binds_a_store row = is_word (codes "trigger") (column row 1) && is_of_a_store (bytes (column row 3))

-- it tells of something of the user's own that stands on a table of a store
abbrev pub is_on_a_store : Row → Bool
is_on_a_store row = is_added_index row || binds_a_store row

-- the row tells of an index or a trigger on a table of a store that a put doesn't keep
abbrev pub is_refused : Row → Bool
is_refused row = is_on_a_store row && not (is_some (plain_index row))

-- each index added to a table of a store is one that a put keeps, and no trigger is on one
abbrev pub AreKept : List Row → Type 0
AreKept rows = list_any is_refused rows ≡ false
