-- What a crash may leave of a store, also of one that was being made, and what a store is that was opened over that.
use Rattle.std.specs.Prelude.{◌≡◌, ◌⊎◌, ℕ, false, List, [], take}
use Rattle.std.specs.FinMap.{empty}
use Rattle.sqlite_disk.specs.declared.Disk.{Ghosts}
use Rattle.sqlite_trees.specs.Tree.{Trees}
use Rattle.sqlite_trees.specs.Objects.{catalog_tree}
use Rattle.sqlite_trees.specs.View.{View, IsClean}
use Rattle.sqlite_store.specs.declared.store.FileStore.{FileStore}
use Rattle.sqlite_store.specs.FileStore.{state, view, recovers}
use Rattle.sqlite_wal.specs.Recovery.{Image}
use Rattle.osm_rows.specs.declared.schema.layout.Layout.TheVariants.{Tables}
use Rattle.osm_rows.specs.Held.{HeldMap}
use Rattle.osm_tree_writes.specs.Tables.{table_listings}
use Rattle.osm_trees.specs.Below.{HoldsBelow, LeavesAMap, MayLeave, ListsAlways}
use Rattle.osm_openings.specs.Asked.{IsFoundAgain}
use Rattle.osm_openings.specs.Presumed.{ArePresumedTables, ReadsAs}
use Rattle.osm_import.specs.FileHistories.{AreEventsOf}
use Rattle.osm_import.specs.Files.{IsHeldOfFile}
use Rattle.osm_import.specs.Histories.{Event, IsHistory, IsRestartable}

-- the trees list those of a store that keeps elements in tables and nothing else, or beside those each other as its row asks, or none
abbrev pub ListsAStore : Trees → Type 0
ListsAStore db = IsFoundAgain (db catalog_tree) ⊎ (db catalog_tree ≡ [])

-- whatever a crash leaves lists no tree
abbrev pub LeavesNoTree : (Trees → Type 0) → Type 0
LeavesNoTree recovers = (db : Trees) → recovers db → db catalog_tree ≡ []

-- A crash of the store now may leave these files. That no page ends in a sum is asked: the library says it of a store that is opened,
-- and of none behind a call.
pub record MayCrashTo {D : Type 0} {g : Ghosts D} (image : Image) (store : FileStore D g) : Type 0 where
  pub plain : (view store).has_sums ≡ false
  pub left : (state store).may_leave image

-- Over an honest disk, whatever files a crash leaves now, the opening that looks at no other page may presume of them what it presumes.
abbrev pub MayBeOpened : {D : Type 0} {g : Ghosts D} → FileStore D g → Type 0
MayBeOpened store = IsClean (view store) → (image : Image) → MayCrashTo image store → ArePresumedTables image

-- What either opening gives over these files: a store that can go on, with nothing written beyond the last commit, whose first
-- trees are those of a store, and whose trees are what the files read as.
pub record IsOpenedOver (image : Image) (v : View) : Type 0 where
  pub clean : IsClean v
  pub unbroken : v.is_broken ≡ false
  pub settled : v.trees ≡ v.committed
  pub listed : take 9 (v.trees catalog_tree) ≡ table_listings
  pub reads : ReadsAs image v.trees

-- The second store is what either opening gives over files that a crash of the first may leave.
pub record IsReopened {D : Type 0} {g : Ghosts D} {E : Type 0} {h : Ghosts E} (before : FileStore D g) (after : FileStore E h) : Type 0 where
  pub image : Image
  pub crashed : MayCrashTo image before
  pub opened : IsOpenedOver image (view after)

-- whatever a crash leaves now is a map, and comes of these events over the map that was held
pub record LeavesHistory (held : HeldMap) (events : List Event) (recovers : Trees → Type 0) : Type 0 where
  pub whole : LeavesAMap recovers
  pub history : (left : HeldMap) → MayLeave recovers left → IsHistory held events left

-- Deliveries to the first store made it the last: whatever map it held, a crash now leaves what comes of these events over that.
abbrev pub CrashesAfter : {D : Type 0} {g : Ghosts D} → List Event → FileStore D g → FileStore D g → Type 0
CrashesAfter events first last = (held : HeldMap) → HoldsBelow Tables (view first) held → LeavesHistory held events (recovers last)

-- What the next crash leaves of a store is a map, and lists what the store lists. If an opening finds that list again, what is left
-- may be opened.
pub record CanCrash {D : Type 0} {g : Ghosts D} (store : FileStore D g) : Type 0 where
  pub whole : LeavesAMap (recovers store)
  pub list : ListsAlways (view store) (recovers store) ((view store).trees catalog_tree)
  pub opens : IsFoundAgain ((view store).trees catalog_tree) → MayBeOpened store

-- A store that was opened over what a crash left holds what comes of a history of deliveries of a file to a new store, and
-- nothing but blobs of that file. So the deliveries can go on, and the history with them: the next crash finds all that this one
-- found.
pub record GoesOn {D : Type 0} {g : Ghosts D} (frames : List (List ℕ)) (events : List Event) (left : HeldMap) (store : FileStore D g) : Type 0 where
  pub holds : HoldsBelow Tables (view store) left
  pub of_file : IsHeldOfFile frames left
  pub delivered : AreEventsOf frames events
  pub history : IsHistory empty events left
  pub restartable : IsRestartable frames events left
  pub crash : CanCrash store
