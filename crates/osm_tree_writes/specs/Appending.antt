-- What rows that are put behind the last one of a table make of its tree and of its indexes.
use Rattle.std.specs.Prelude.{◌≡◌, ◌≢◌, ◌⊎◌, ◌<◌, ◌≤◌, ◌^◌, ℕ, zero, suc, ◌+◌, ◌==◌, if◌then◌else◌, ℤ, false, List, [], ◌∷◌, ◌++◌, map, drop, Option, Some, None}
use Rattle.std.specs.List.{AllByRecursion}
use Rattle.std.specs.declared.cmp.Ordering.TheVariants.{Less}
use Rattle.sqlite_value.specs.declared.value.Value.TheVariants.{Int}
use Rattle.sqlite_value.specs.Order.{Row, value_cmp}
use Rattle.sqlite_value.specs.Keys.{plain}
use Rattle.sqlite_trees.specs.declared.store.Shape.{Shape}
use Rattle.sqlite_trees.specs.declared.store.Shape.TheVariants.{Table, Index}
use Rattle.sqlite_trees.specs.Tree.{Trees, rowid, IsAscending, insert_entry, with_tree}
use Rattle.sqlite_trees.specs.View.{View}
use Rattle.sqlite_sql.specs.Catalog.{entry_of, IsIndexOf}
use Rattle.sqlite_schema.specs.declared.schema.Index.{Index as AddedIndex}
use Rattle.osm_tree_writes.specs.Added.{AreKept, plain_indexes}
use Rattle.osm_tree_writes.specs.declared.layout.IndexTree.{IndexTree}
use Rattle.osm_tree_writes.specs.declared.layout.TableTree.{TableTree}
use Rattle.osm_tree_writes.specs.declared.layout.TheConstants.{ELEMENTS, TAGS, LINKS}
use Rattle.osm_rows.specs.declared.trees.TheConstants.{BLOBS, TREES}

-- these many places, from this one on
abbrev pub places : ℕ → ℕ → List ℕ
places first zero = []
places first (suc width) = first ∷ places (first + 1) width

-- the places of an index's columns in a row
abbrev pub columns_of : IndexTree → List ℕ
columns_of i = places i.first i.width

abbrev pub other_index : Option IndexTree → List IndexTree
other_index None = []
other_index (Some i) = i ∷ []

abbrev pub indexes_of : TableTree → List IndexTree
indexes_of t = t.key ∷ other_index t.by_id

abbrev pub IsIndexAt : (ℕ → Shape) → IndexTree → Type 0
IsIndexAt shapes i = shapes i.tree ≡ Index plain

-- the trees have the table and its indexes
abbrev pub IsTableAt : (ℕ → Shape) → TableTree → Type 0
IsTableAt shapes t = (shapes t.tree ≡ Table) × AllByRecursion (IsIndexAt shapes) (indexes_of t)

-- the trees have the tables of a store, and their indexes
abbrev pub IsStoreAt : (ℕ → Shape) → Type 0
IsStoreAt shapes = (shapes BLOBS ≡ Table) × IsTableAt shapes ELEMENTS × IsTableAt shapes TAGS × IsTableAt shapes LINKS

-- the table and each index have a tree of their own
abbrev pub IsApart : TableTree → Type 0
IsApart t = AllByRecursion (λ (i : IndexTree). i.tree ≢ t.tree) (indexes_of t) × AllByRecursion (λ (i : IndexTree). i.tree ≢ t.key.tree) (other_index t.by_id)

-- no index of these has this tree
abbrev pub IsNoIndex : List AddedIndex → ℕ → Type 0
IsNoIndex more t = AllByRecursion (λ (i : AddedIndex). i.tree ≢ t) more

-- the trees have these indexes, each in its order
abbrev pub AreIndexesAt : (ℕ → Shape) → List AddedIndex → Type 0
AreIndexesAt shapes more = AllByRecursion (λ (i : AddedIndex). shapes i.tree ≡ Index i.order) more

-- an index of the table of elements, of tags or of links, with a tree behind those of a store
abbrev pub IsBehind : AddedIndex → Type 0
IsBehind i = (TREES ≤ i.tree) × (i.tree < 2 ^ 32) × ((i.table ≡ ELEMENTS.tree) ⊎ ((i.table ≡ TAGS.tree) ⊎ (i.table ≡ LINKS.tree)))

-- indexes of the user's own, each in a tree of its own
pub record AreBehind (more : List AddedIndex) : Type 0 where
  pub each : AllByRecursion IsBehind more
  pub apart : IsAscending (λ (i j : AddedIndex). i.tree ≢ j.tree) more

-- the trees have these indexes of the tables of elements, of tags and of links, each behind those before, from this one on
abbrev pub RiseFrom : (ℕ → Shape) → ℕ → List AddedIndex → Type 0
RiseFrom shapes low [] = Unit {0}
RiseFrom shapes low (i ∷ is) = (low ≤ i.tree) × (i.tree < 2 ^ 32) × ((i.table ≡ ELEMENTS.tree) ⊎ ((i.table ≡ TAGS.tree) ⊎ (i.table ≡ LINKS.tree))) × (shapes i.tree ≡ Index i.order) × RiseFrom shapes (i.tree + 1) is

-- A put can write to trees of these shapes with this list of objects: they have the tables of a store, their indexes, and
-- each index that the user has added, and no trigger is on one of the tables.
pub record TakeBlobs (shapes : ℕ → Shape) (objects : List Row) : Type 0 where
  pub store : IsStoreAt shapes
  pub kept : AreKept objects
  pub more : RiseFrom shapes TREES (plain_indexes objects)

-- none of these indexes is one that this table has anyhow, nor has one of them the rows of such an index
pub record IsApartOf (table : TableTree) (more : List AddedIndex) : Type 0 where
  pub trees : AllByRecursion (λ (i : AddedIndex). (i.tree ≢ table.tree) × AllByRecursion (λ (k : IndexTree). k.tree ≢ i.tree) (indexes_of table)) more
  pub tables : AllByRecursion (λ (i : AddedIndex). IsNoIndex more i.table × AllByRecursion (λ (k : IndexTree). k.tree ≢ i.table) (indexes_of table)) more
  pub apart : IsAscending (λ (i j : AddedIndex). i.tree ≢ j.tree) more

-- each of these indexes that had an entry for each row of its table has one for each still
abbrev pub KeepIndexed : List AddedIndex → Trees → Trees → Type 0
KeepIndexed more old new = AllByRecursion (λ (i : AddedIndex). IsIndexOf i.columns (old i.table) (old i.tree) → IsIndexOf i.columns (new i.table) (new i.tree)) more

-- the trees once a row's entries are put into those of these indexes that are of its table
abbrev pub with_entries : ℕ → Row → List AddedIndex → Trees → Trees
with_entries table row [] db = db
with_entries table row (i ∷ is) db = with_entries table row is (if i.table == table then with_tree db i.tree (insert_entry i.order (entry_of i.columns row) (db i.tree)) else db)

-- these are put, and nothing else
abbrev pub PutsEntries : List AddedIndex → ℕ → Row → View → View → Type 0
PutsEntries more table row old new = new ≡ record old { trees = with_entries table row more old.trees; cursors = new.cursors }

-- each rowid is below this one
abbrev pub IsAfter : ℤ → List Row → Type 0
IsAfter next rows = AllByRecursion (λ (r : Row). value_cmp (rowid r) (Int next) ≡ Less) rows

-- The table has these rows more, behind its own, and each index that had an entry for each row has one for each still. No
-- other tree has changed.
pub record Appends (table : TableTree) (more : List AddedIndex) (added : List Row) (old new : View) : Type 0 where
  pub sound : old.is_broken ≡ false
  pub rows : map (drop 1) (new.trees table.tree) ≡ map (drop 1) (old.trees table.tree) ++ added
  pub indexed : AllByRecursion (λ (i : IndexTree). IsIndexOf (columns_of i) (old.trees table.tree) (old.trees i.tree) → IsIndexOf (columns_of i) (new.trees table.tree) (new.trees i.tree)) (indexes_of table)
  pub more_indexed : KeepIndexed more old.trees new.trees
  pub others : (t : ℕ) → t ≢ table.tree → AllByRecursion (λ (i : IndexTree). i.tree ≢ t) (indexes_of table) → IsNoIndex more t → new.trees t ≡ old.trees t
  pub rest : new ≡ record old { trees = new.trees; cursors = new.cursors }

-- Where each rowid of the table is below that of this row, the table has the row more, behind its own.
abbrev pub AppendsRow : TableTree → List AddedIndex → Row → View → View → Type 0
AppendsRow table more row old new = (next : ℤ) (columns : Row) → row ≡ Int next ∷ columns → IsAfter next (old.trees table.tree)
    → Appends table more (columns ∷ []) old new × (new.trees table.tree ≡ old.trees table.tree ++ row ∷ [])
