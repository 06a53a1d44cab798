-- What stands in the way of opening a database, or of writing to it.
use Rattle.std.specs.Prelude.{◌≡◌, ℕ, ◌==◌, Bool, false, not, ◌&&◌, ◌||◌, if◌then◌else◌, Option, None, Some, is_some, List, [], ◌∷◌, ◌++◌, length, codes}
use Rattle.std.specs.List.{list_any}
use Rattle.std.specs.Str.{is_utf8}
use Rattle.sqlite_value.specs.Order.{Row, column, bytes}
use Rattle.sqlite_trees.specs.Sound.{is_word, is_virtual, same_name}
use Rattle.osm_rows.specs.declared.schema.sql.TheConstants.{CREATE_META, CREATE_BLOB, CREATE_ELEMENT, CREATE_TAG, CREATE_LINK, CREATE_ELEMENT_INDEX}
use Rattle.osm_tree_writes.specs.Added.{is_of_a_store, is_added_index, binds_a_store, plain_index}
use Rattle.osm_openings.specs.declared.obstacles.Obstacle.{Obstacle}
use Rattle.osm_openings.specs.declared.obstacles.Obstruction.{Obstruction}
use Rattle.osm_openings.specs.declared.obstacles.Obstacle.TheVariants.{Stranger, FirstLayout, Trigger, VirtualTable, ChangedTable, ChangedIndex, TwoNames, OtherText, UnkeptIndex}
use Rattle.osm_openings.specs.Catalog.{is_left_out}

-- an obstacle, and the name of the object that is one
abbrev pub Told : Type 0
Told = Obstacle × List ℕ

abbrev pub name_of : Row → List ℕ
name_of row = bytes (column row 2)

-- the row of `sqlite_schema` tells of a table with this name, in any case
abbrev pub is_table : List ℕ → Row → Bool
is_table name row = is_word (codes "table") (column row 1) && same_name (name_of row) name

abbrev pub has_table : List Row → List ℕ → Bool
has_table rows name = list_any (is_table name) rows

-- the five tables of a store that keeps elements in tables, whatever their columns
abbrev pub has_tables : List Row → Bool
has_tables rows = has_table rows (codes "meta") && has_table rows (codes "blob") && has_table rows (codes "element") && has_table rows (codes "tag") && has_table rows (codes "link")

-- the three of one that keeps them as blocks
abbrev pub has_blocks : List Row → Bool
has_blocks rows = has_table rows (codes "meta") && has_table rows (codes "blob") && has_table rows (codes "body")

-- the row has this name and this text
abbrev pub has_text : List ℕ → List ℕ → Row → Bool
has_text name text row = is_word name (column row 2) && is_word text (column row 5)

-- it has those of one of the five tables
abbrev pub is_as_made : Row → Bool
is_as_made row =
    has_text (codes "meta") CREATE_META.now row || has_text (codes "blob") CREATE_BLOB.now row || has_text (codes "element") CREATE_ELEMENT.now row
    || has_text (codes "tag") CREATE_TAG.now row || has_text (codes "link") CREATE_LINK.now row

-- it tells of a table with a name of one of the five, which has another text
abbrev pub is_changed : Row → Bool
is_changed row = is_word (codes "table") (column row 1) && is_of_a_store (name_of row) && not (is_as_made row)

-- it tells of the index by kind and id
abbrev pub is_by_id : Row → Bool
is_by_id row = is_word (codes "index") (column row 1) && (is_word (codes "element") (column row 3) && has_text (codes "element_by_id") CREATE_ELEMENT_INDEX.now row)

-- it tells of a virtual table
abbrev pub is_virtual_table : Row → Bool
is_virtual_table row = is_word (codes "table") (column row 1) && is_virtual (column row 1) (column row 5)

-- it tells of a trigger on a table of a store of either layout
abbrev pub is_trigger : Row → Bool
is_trigger row = is_word (codes "trigger") (column row 1) && (is_of_a_store (bytes (column row 3)) || same_name (bytes (column row 3)) (codes "body"))

-- its name, its table and its text are in UTF-8
abbrev pub is_in_utf8 : Row → Bool
is_in_utf8 row = is_utf8 (name_of row) && is_utf8 (bytes (column row 3)) && is_utf8 (bytes (column row 5))

-- the row tells of this obstacle; what is left out of the list may have any text
abbrev pub shows : Obstacle → Row → Bool
shows Trigger row = is_trigger row
shows VirtualTable row = is_virtual_table row
shows ChangedTable row = is_changed row
shows OtherText row = not (is_left_out row) && not (is_in_utf8 row)
shows _ row = false

-- the first row that does
abbrev pub first_that_shows : Obstacle → List Row → Option Told
first_that_shows obstacle [] = None
first_that_shows obstacle (row ∷ rows) = if shows obstacle row then Some (obstacle, name_of row) else first_that_shows obstacle rows

-- one of these rows has the row's name, in any case
unfoldable pub is_named_before : List Row → Row → Bool
is_named_before earlier row = list_any (λ other. same_name (name_of other) (name_of row)) earlier

-- the first of these rows that has the name of an earlier one
abbrev pub first_named_twice : List Row → List Row → Option Told
first_named_twice earlier [] = None
first_named_twice earlier (row ∷ rows) = if is_named_before earlier row then Some (TwoNames, name_of row) else first_named_twice (earlier ++ row ∷ []) rows

-- what was found is this obstacle, with the name of this object, or nothing
abbrev pub Tells : Option Obstruction → Option Told → Type 0
Tells None told = told ≡ None
Tells (Some found) told = told ≡ Some (found.obstacle, found.object.items)

-- what is told, or else the other
abbrev pub else_told : Option Told → Option Told → Option Told
else_told None other = other
else_told (Some told) other = Some told

abbrev pub missing_index : List Row → Option Told
missing_index rows = if list_any is_by_id rows then None else Some (ChangedIndex, codes "element_by_id")

-- what stands in the way of a store that keeps elements in tables: a table, the index, a name, a text, in this order
abbrev pub before_tables : List Row → Option Told
before_tables rows = else_told (first_that_shows ChangedTable rows) (else_told (missing_index rows) (else_told (first_named_twice [] rows) (first_that_shows OtherText rows)))

-- Of a store that keeps them as blocks, it is what SQL can't pass over; else that it is one.
abbrev pub before_blocks : List Row → Option Told
before_blocks rows = else_told (first_that_shows Trigger rows) (else_told (first_that_shows VirtualTable rows) (Some (FirstLayout, [])))

-- what the rows of `sqlite_schema` tell of: where there are none, nothing stands in the way of a store that is made
abbrev pub obstruction : List Row → Option Told
obstruction rows =
    if length rows == 0 then None else (if has_tables rows then before_tables rows else (if has_blocks rows then before_blocks rows else Some (Stranger, [])))

-- What a row of the list of a database's objects tells of that a put doesn't keep. Its text stands behind its table.
abbrev pub unkept : Row → Option Told
unkept row = if binds_a_store row then Some (Trigger, name_of row) else (if is_added_index row && not (is_some (plain_index row)) then Some (UnkeptIndex, name_of row) else None)

-- what the first row tells that tells of something that a put doesn't keep: a trigger on a table of a store, or an added index
abbrev pub first_unkept : List Row → Option Told
first_unkept [] = None
first_unkept (row ∷ rows) = else_told (unkept row) (first_unkept rows)
