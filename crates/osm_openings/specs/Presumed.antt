-- What is presumed of two files that are opened with most of their pages unread, and what the trees are that such files read as.
use Rattle.std.specs.Prelude.{◌≡◌, ℕ, Bool, List, [], ◌∷◌, ◌++◌, map, IsTrue, Option, Some, None, if◌then◌else◌}
use Rattle.sqlite_value.specs.Order.{Row, column}
use Rattle.sqlite_value.specs.declared.keys.Order.{Order}
use Rattle.sqlite_trees.specs.Sound.{is_text_only}
use Rattle.sqlite_trees.specs.Tree.{Trees}
use Rattle.sqlite_trees.specs.declared.schema.Object.{Object}
use Rattle.sqlite_trees.specs.declared.store.Shape.{Shape}
use Rattle.sqlite_trees.specs.declared.store.Shape.TheVariants.{Table, Index, Pageless, FrozenTable, FrozenIndex}
use Rattle.sqlite_pages.specs.PageMap.{PageMap}
use Rattle.sqlite_pool.specs.File.{in_use}
use Rattle.sqlite_pool.specs.Stored.{Recovers}
use Rattle.sqlite_wal.specs.Format.{be32}
use Rattle.sqlite_wal.specs.PageSize.{size_in_file}
use Rattle.sqlite_wal.specs.Recovery.{Image, IsIgnored}
use Rattle.sqlite_disk.specs.declared.Disk.{Ghosts}
use Rattle.sqlite_store.specs.declared.catalog.Wanted.{Wanted}
use Rattle.sqlite_store.specs.declared.store.open.Unopened.{Unopened}
use Rattle.sqlite_store.specs.Catalog.{wanted_of}
use Rattle.sqlite_store.specs.Db.{rows_at, IsFile}
use Rattle.sqlite_store.specs.Listing.{file_trees}
use Rattle.sqlite_store.specs.Roots.{has_index_root}
use Rattle.sqlite_store.specs.Unopened.{state_of, image, wanted_by}
use Rattle.sqlite_schema.specs.declared.schema.Index.{Index as Added}
use Rattle.osm_tree_writes.specs.Added.{plain_index}
use Rattle.osm_index_orders.specs.Orders.{index_order}
use Rattle.osm_openings.specs.Catalog.{numbered, others, listings, AreListed, StandApart, AreInOrder}
use Rattle.osm_tree_writes.specs.Tables.{table_listings}

-- the order of the tree whose root page begins an index: that of the index, or of the table WITHOUT ROWID, as the texts of these rows
-- ask it; where these aren't read, that of its bytes
abbrev pub root_order : List Row → PageMap → Row → Option Order
root_order rows pages row = if has_index_root pages row then Some (index_order rows row) else None

-- an index that a put keeps has the order that its text asks; any other tree is read as it is, and never written
abbrev pub tree_shape : Option Added → Option Order → Shape
tree_shape added None = FrozenTable
tree_shape None (Some told) = FrozenIndex told
tree_shape (Some index) (Some told) = Index index.order

-- the shape of a tree that is none of a store's own; a view and a trigger have no pages
abbrev pub foreign_shape : Row → Option Order → Shape
foreign_shape row root = if is_text_only (column row 1) then Pageless else tree_shape (plain_index row) root

-- the tree of a row that is none of a store's own
abbrev pub foreign_tree : Row → Option Order → Wanted
foreign_tree row root =
    record { shape = foreign_shape (numbered row) root; reals = 0; row = column row 1 ∷ column row 2 ∷ column row 3 ∷ column row 5 ∷ [] }

-- those of these rows
abbrev pub foreign_trees : List Row → List (Option Order) → List Wanted
foreign_trees [] roots = []
foreign_trees (row ∷ rows) [] = []
foreign_trees (row ∷ rows) (root ∷ roots) = foreign_tree row root ∷ foreign_trees rows roots

-- the whole list: the objects, and the trees of these rows behind them
abbrev pub trees_of : List Object → List Row → List (Option Order) → List Wanted
trees_of objects rows roots = map wanted_of objects ++ foreign_trees rows roots

-- of each of these rows, the order of its tree if its root page begins an index
abbrev pub told_roots : List Row → List Row → List Bool → List (Option Order)
told_roots entries [] roots = []
told_roots entries (row ∷ rows) [] = []
told_roots entries (row ∷ rows) (root ∷ roots) = (if root then Some (index_order entries row) else None) ∷ told_roots entries rows roots

-- the rows of `sqlite_schema`
abbrev pub schema_rows : ℕ → PageMap → List Row
schema_rows size pages = rows_at size (in_use size pages) Table 1

-- those of them that tell of other trees, or of texts alone
abbrev pub other_rows : List Object → ℕ → PageMap → List Row
other_rows objects size pages = others objects (schema_rows size pages)

-- all trees of which `sqlite_schema` tells, these objects first
abbrev pub trees_in : List Object → ℕ → PageMap → List Wanted
trees_in objects size pages = trees_of objects (other_rows objects size pages) (map (root_order (schema_rows size pages) (in_use size pages)) (other_rows objects size pages))

-- Where `sqlite_schema` lists these objects, wherever their rows stand, the pages are a sound database of all trees of which it tells.
abbrev pub AreSound : List Object → ℕ → PageMap → Type 0
AreSound objects size pages =
    AreListed objects (schema_rows size pages) → StandApart objects (other_rows objects size pages) (schema_rows size pages) → AreInOrder (schema_rows size pages)
    → IsFile size (trees_in objects size pages) pages

-- the size of a page that the files name, the log first
pub record NamesSize (image : Image) (size : ℕ) : Type 0 where
  pub by_log : ¬ (IsIgnored image.log) → size ≡ be32 image.log 8
  pub by_file : IsIgnored image.log → size ≡ size_in_file image.db

-- If the files recover to any pages, these are a sound database. Of an empty database file nothing is presumed.
abbrev pub IsPresumed : List Object → Image → Type 0
IsPresumed objects image = (size : ℕ) (pages : PageMap) → NamesSize image size → Recovers size image pages → AreSound objects size pages

-- The pages of two files, if they recover to any, are a sound database wherever the list of objects has each tree of a store.
abbrev pub ArePresumedTables : Image → Type 0
ArePresumedTables image = (objects : List Object) → listings 0 objects ≡ table_listings → IsPresumed objects image

-- the trees are those of a sound database, and are what the bytes of these files read as
pub record ReadsAs (image : Image) (trees : Trees) : Type 0 where
  pub size : ℕ
  pub pages : PageMap
  pub schema : List Wanted
  pub names : NamesSize image size
  pub found : Recovers size image pages
  pub sound : ∥ IsFile size schema pages ∥₁
  pub read : trees ≡ file_trees size schema pages

-- the other rows of `sqlite_schema`, where it lists these objects, and the orders of those of their trees whose root pages begin an
-- index, as they were read of these files
pub record ReadsRows {D : Type 0} {g : Ghosts D} (objects : List Object) (old new : Unopened D g) (rows : List Row) (roots : List (Option Order)) : Type 0 where
  pub pages : PageMap
  pub clean : IsTrue (state_of old).is_clean
  pub size : (state_of new).page_size ≡ (state_of old).page_size
  pub found : Recovers (state_of old).page_size (image old) pages
  pub again : Recovers (state_of new).page_size (image new) pages
  pub listed : AreListed objects (schema_rows (state_of old).page_size pages)
  pub apart : StandApart objects (other_rows objects (state_of old).page_size pages) (schema_rows (state_of old).page_size pages)
  pub ordered : AreInOrder (schema_rows (state_of old).page_size pages)
  pub rows_are : rows ≡ other_rows objects (state_of old).page_size pages
  pub roots_are : roots ≡ map (root_order (schema_rows (state_of old).page_size pages) (in_use (state_of old).page_size pages)) (other_rows objects (state_of old).page_size pages)

-- the files have a list of trees, of which these objects are the first, and hold a database of it if that is presumed
pub record Lists {D : Type 0} {g : Ghosts D} (objects : List Object) (old new : Unopened D g) : Type 0 where
  pub pages : PageMap
  pub clean : IsTrue (state_of old).is_clean
  pub size : (state_of new).page_size ≡ (state_of old).page_size
  pub found : Recovers (state_of old).page_size (image old) pages
  pub again : Recovers (state_of new).page_size (image new) pages
  pub listed : AreListed objects (schema_rows (state_of old).page_size pages)
  pub wanted : wanted_by new ≡ trees_in objects (state_of old).page_size pages
  pub file : NamesSize (image old) (state_of old).page_size → IsPresumed objects (image old) → IsFile (state_of old).page_size (wanted_by new) pages
