-- When a database holds a map, for each layout of its tables.
use Rattle.std.specs.Prelude.{◌≡◌, ℕ, List, [], ◌∷◌, map, drop, length, IsTrue}
use Rattle.std.specs.List.{AllByRecursion}
use Rattle.std.specs.List.Sorted.{IsPermutation}
use Rattle.std.specs.FinMap.{entries}
use Rattle.sqlite.specs.Order.{Row}
use Rattle.sqlite.specs.Tree.{Trees}
use Rattle.sqlite.specs.State.{State, HasCleanDisk}
use Rattle.sqlite_catalog.specs.Listing.{IsSound, Lists}
use Rattle.osm_rows.specs.declared.keeper.Extent.{Extent}
use Rattle.osm_rows.specs.declared.schema.layout.Layout.{Layout}
use Rattle.osm_rows.specs.declared.schema.layout.Layout.TheVariants.{Bodies, Tables}
use Rattle.osm_rows.specs.Held.{Blob, HeldMap, HaveFewTexts, IsApart}
use Rattle.osm_rows.specs.Keeping.{extents_of, IsRange}
use Rattle.osm_rows.specs.Rows.{Placed, CanStore, placed_in, version_row, extent_row, body_row}
use Rattle.osm_rows.specs.TableRows.{element_rows, tag_rows, link_rows}
use Rattle.osm_rows.specs.Schema.Layouts.{schema_of}
use Rattle.osm_rows.specs.declared.trees.TheConstants.{BLOBS, ELEMENTS, LINKS, META, TAGS}

-- what is kept of a blob: a digest of 32 bytes, and elements that the layout can store
pub record IsBlob (layout : Layout) (blob : Blob) : Type 0 where
  pub digest : length blob.digest ≡ 32
  pub can_store : AllByRecursion (CanStore layout) blob.elements
  pub few_texts : HaveFewTexts blob.elements

-- A map that the layout can hold: its extents don't meet, each digest has 32 bytes, and each element can be stored.
pub record IsKept (layout : Layout) (held : HeldMap) : Type 0 where
  pub apart : IsApart held
  pub blobs : AllByRecursion (λ (entry : ℕ × Blob). IsBlob layout entry.1) (entries held)

-- what is kept of an extent
pub record IsKeptExtent (e : Extent) : Type 0 where
  pub digest : length e.digest ≡ 32
  pub range : IsRange e

-- a table has these rows, in any order, under rowids that `sqlite` chose
abbrev pub HasRows : List Row → List Row → Type 0
HasRows rows table = IsPermutation rows (map (drop 1) table)

-- the tables of elements have exactly the rows that these elements stand for
abbrev pub HoldElements : Layout → List Placed → Trees → Type 0
HoldElements Bodies elements db = HasRows (map body_row elements) (db ELEMENTS)
HoldElements Tables elements db = HasRows (element_rows elements) (db ELEMENTS) × HasRows (tag_rows elements) (db TAGS) × HasRows (link_rows elements) (db LINKS)

-- the tables have exactly the rows that the map stands for
pub record TablesHold (layout : Layout) (held : HeldMap) (db : Trees) : Type 0 where
  pub sound : IsSound (schema_of layout) db
  pub meta : db META ≡ version_row layout ∷ []
  pub blob : db BLOBS ≡ map extent_row (extents_of held)
  pub elements : HoldElements layout (placed_in held) db

-- the connection can go on, no write is under way, and its tables' rows are those of this map and of no other
pub record Holds (layout : Layout) (s : State) (held : HeldMap) : Type 0 where
  pub clean : HasCleanDisk s
  pub opened : IsTrue s.is_open
  pub settled : s.now ≡ s.committed
  pub schema : s.now.schema ≡ schema_of layout
  pub kept : IsKept layout held
  pub tables : TablesHold layout held s.now.trees
  pub only : (other : HeldMap) → IsKept layout other → TablesHold layout other s.now.trees → other ≡ held

-- a crash now may leave the rows of this map
pub record MayLeave (layout : Layout) (s : State) (held : HeldMap) : Type 0 where
  pub kept : IsKept layout held
  pub trees : Trees
  pub left : s.may_leave trees
  pub tables : TablesHold layout held trees

-- the last commits have the same tables with the same rows
abbrev pub SameTables : State → State → Type 0
SameTables old new = new.committed ≡ old.committed

-- whatever a crash now leaves, the tables' rows are those of a map
abbrev pub LeavesAMap : Layout → State → Type 0
LeavesAMap layout s = (db : Trees) → s.may_leave db → (left : HeldMap) × IsKept layout left × TablesHold layout left db

-- these rows list the tables of a store and nothing else, in some order, and so do those of whatever a crash now leaves
abbrev pub ListsAlways : Layout → State → List Row → Type 0
ListsAlways layout s rows = Lists rows (schema_of layout) × LeavesAMap layout s
