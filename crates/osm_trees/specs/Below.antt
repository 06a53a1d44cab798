-- When the trees of a store hold a map, with no word of SQL, and what a read leaves of them.
use Rattle.std.specs.Prelude.{◌≡◌, Bool, false, IsTrue, List, [], ◌∷◌}
use Rattle.sqlite.specs.State.{State, HasCleanDisk, IsLive, Opens}
use Rattle.sqlite_value.specs.Order.{Row, column}
use Rattle.sqlite_trees.specs.declared.store.Store.{Ghosts}
use Rattle.sqlite_trees.specs.Tree.{Trees}
use Rattle.sqlite_trees.specs.View.{View, IsClean, IsQuiet, IsRolledBack, is_int}
use Rattle.sqlite_trees.specs.Objects.{catalog_tree}
use Rattle.osm_rows.specs.declared.schema.layout.Layout.{Layout}
use Rattle.osm_rows.specs.declared.schema.layout.Layout.TheVariants.{Tables}
use Rattle.osm_rows.specs.Held.{HeldMap}
use Rattle.osm_rows.specs.LayoutHolding.{IsKept}
use Rattle.osm_rows.specs.Rows.{version_row}
use Rattle.osm_tree_writes.specs.Appending.{IsStoreAt}
use Rattle.osm_tree_writes.specs.Putting.{IsIndexedStore, TreesHold}
use Rattle.osm_rows.specs.declared.trees.TheConstants.{META}

-- the store can go on, nothing is written, and its trees' rows are those of this map and of no other
pub record HoldsBelow (layout : Layout) (v : View) (held : HeldMap) : Type 0 where
  pub clean : IsClean v
  pub unbroken : v.is_broken ≡ false
  pub settled : v.trees ≡ v.committed
  pub kept : IsKept layout held
  pub tables : TreesHold layout held v.trees
  pub only : (other : HeldMap) → IsKept layout other → TreesHold layout other v.trees → other ≡ held

-- said where a connection was opened over these trees, which an honest disk keeps
abbrev pub WhereOpenedOver : Trees → State → Type 0 → Type 0
WhereOpenedOver db opened P = HasCleanDisk opened → Opens opened → IsLive opened → opened.now.trees ≡ db → P

-- what was broken is rolled back, what wasn't stays, and a crash leaves nothing new
pub record Mends {S : Type 0} (g : Ghosts S) (old new : S) : Type 0 where
  pub stays : IsClean (g.view old) → (g.view old).is_broken ≡ false → new ≡ old
  pub undone : IsClean (g.view old) → IsTrue (g.view old).is_broken → IsRolledBack (g.view old) (g.view new)
  pub quiet : IsQuiet g.view g.faults g.recovers g.is_shielded old new

-- the row has a flag of visibility
abbrev pub is_flagged : Row → Bool
is_flagged row = is_int (column row 12)

-- the store needn't be opened again
abbrev pub IsUsable : View → Type 0
IsUsable v = IsClean v × IsTrue v.is_open

-- of the trees that a crash may leave, some have the rows of this map
pub record MayLeave (recovers : Trees → Type 0) (held : HeldMap) : Type 0 where
  pub kept : IsKept Tables held
  pub trees : Trees
  pub left : recovers trees
  pub tables : TreesHold Tables held trees

-- whatever trees a crash leaves, their rows are those of a map
abbrev pub LeavesAMap : (Trees → Type 0) → Type 0
LeavesAMap recovers = (db : Trees) → recovers db → (left : HeldMap) × IsKept Tables left × TreesHold Tables left db

-- these rows list the objects of the last commit, if the trees needn't be opened again, and of whatever a crash leaves
pub record ListsAlways (v : View) (recovers : Trees → Type 0) (rows : List Row) : Type 0 where
  pub committed : IsUsable v → v.committed catalog_tree ≡ rows
  pub left : (db : Trees) → recovers db → db catalog_tree ≡ rows

-- the last commits have the same trees, and nothing is written beyond the one if nothing is beyond the other
pub record SameTrees (old new : View) : Type 0 where
  pub committed : new.committed ≡ old.committed
  pub settled : old.trees ≡ old.committed → new.trees ≡ new.committed

-- nothing is written, and each index has one entry for each row of its table
pub record IsIndexed (v : View) : Type 0 where
  pub settled : v.trees ≡ v.committed
  pub indexed : IsIndexedStore v.trees

-- the store can go on, nothing is written, the trees have the shapes of those of a store, which is of this version, and each
-- index has one entry for each row of its table
pub record IsChecked (v : View) : Type 0 where
  pub unbroken : v.is_broken ≡ false
  pub indexed : IsIndexed v
  pub shaped : IsStoreAt v.shape
  pub version : v.trees META ≡ version_row Tables ∷ []
