-- What a put makes of the trees, whatever these held before.
use Rattle.std.specs.Prelude.{◌≡◌, ◌⊎◌, ◌<◌, ◌≤◌, ℕ, false, IsTrue, List, [], ◌∷◌, map, Result, OnOk, OnErr, IfErr}
use Rattle.std.specs.List.{AllByRecursion}
use Rattle.sqlite_trees.specs.declared.store.Shape.TheVariants.{Table}
use Rattle.sqlite_trees.specs.declared.store.Store.{Ghosts}
use Rattle.sqlite_trees.specs.Tree.{Trees, put_row}
use Rattle.sqlite_trees.specs.Objects.{catalog_tree}
use Rattle.sqlite_trees.specs.View.{View, doubt, IsClean, IsShaped}
use Rattle.sqlite_sql.specs.Catalog.{IsIndexOf}
use Rattle.sqlite_schema.specs.declared.schema.Index.{Index}
use Rattle.sqlite_schema.specs.Rules.{Obeys}
use Rattle.pbf_frame.specs.declared.part.TheConstants.{MAX_OFFSET}
use Rattle.osm_value.specs.Elements.{IsElement}
use Rattle.osm_value.specs.declared.element.Element.{Element}
use Rattle.osm_rows.specs.declared.fault.StoreFault.{StoreFault}
use Rattle.osm_rows.specs.declared.keeper.Extent.{Extent}
use Rattle.osm_rows.specs.declared.schema.layout.Layout.{Layout}
use Rattle.osm_rows.specs.declared.schema.layout.Layout.TheVariants.{Tables}
use Rattle.osm_rows.specs.Schema.Layouts.{schema_of}
use Rattle.osm_rows.specs.Schema.Tables.{table_schema}
use Rattle.osm_rows.specs.Held.{Blob, HeldMap}
use Rattle.osm_rows.specs.Keeping.{IsAddable, IsForeign, extents_of}
use Rattle.osm_rows.specs.LayoutHolding.{HoldElements, IsBlob, IsKept}
use Rattle.osm_rows.specs.Rows.{Placed, extent_row, placed, placed_in, version_row}
use Rattle.osm_rows.specs.Put.Gains.{GainsElements}
use Rattle.osm_rows.specs.declared.trees.TheConstants.{BLOBS, ELEMENTS, LINKS, META, TAGS}
use Rattle.osm_tree_writes.specs.Added.{plain_indexes}
use Rattle.osm_tree_writes.specs.Appending.{IsNoIndex, KeepIndexed, TakeBlobs}
use Rattle.osm_tree_writes.specs.Beside.{HasAStore}

-- each index of a store has one entry for each row of its table
abbrev pub IsIndexedStore : Trees → Type 0
IsIndexedStore db = AllByRecursion (λ (i : Index). IsIndexOf i.columns (db i.table) (db i.tree)) table_schema.indexes

-- the rows of the tables of elements stand in the order of their rowids
abbrev pub AreTables : Trees → Type 0
AreTables db = IsShaped Table (db ELEMENTS) × IsShaped Table (db TAGS) × IsShaped Table (db LINKS)

-- The trees of a store have exactly the rows that the map stands for, and obey its schema, whatever else is listed behind
-- them, and whatever that holds.
pub record TreesHold (layout : Layout) (held : HeldMap) (db : Trees) : Type 0 where
  pub lists : HasAStore layout (db catalog_tree)
  pub obeys : Obeys (schema_of layout) db
  pub meta : db META ≡ version_row layout ∷ []
  pub blob : db BLOBS ≡ map extent_row (extents_of held)
  pub elements : HoldElements layout (placed_in held) db

-- no tree behind those of a store has changed but these indexes
abbrev pub KeepOthers : List Index → Trees → Trees → Type 0
KeepOthers more old new = (t : ℕ) → 9 ≤ t → IsNoIndex more t → new t ≡ old t

-- The trees have the rows of one blob more, and the indexes of a store, if they had an entry for each row, have one for each
-- still. So has each of these indexes that the user has added.
pub record PutsRows (more : List Index) (old new : Trees) (extent : Extent) (added : List Placed) : Type 0 where
  pub others : KeepOthers more old new
  pub catalog : new catalog_tree ≡ old catalog_tree
  pub meta : new 0 ≡ old 0
  pub blob : new 1 ≡ put_row (extent_row extent) (old 1)
  pub elements : GainsElements Tables added old new
  pub indexed : IsIndexedStore old → IsIndexedStore new
  pub more_indexed : KeepIndexed more old new
  pub tables : AreTables new

-- The trees have one blob more, all others are as they were, and each index that had one entry for each row of its table has it still.
abbrev pub PutsBelow : Trees → Trees → Extent → List Placed → Type 0
PutsBelow old new = PutsRows (plain_indexes (old catalog_tree)) old new

-- the rows of these elements are written, and nothing is committed
pub record WritesElements (more : List Index) (old new : View) (added : List Placed) : Type 0 where
  pub sound : old.is_broken ≡ false
  pub others : KeepOthers more old.trees new.trees
  pub catalog : new.trees catalog_tree ≡ old.trees catalog_tree
  pub meta : new.trees META ≡ old.trees META
  pub blob : new.trees BLOBS ≡ old.trees BLOBS
  pub elements : GainsElements Tables added old.trees new.trees
  pub indexed : IsIndexedStore old.trees → IsIndexedStore new.trees
  pub more_indexed : KeepIndexed more old.trees new.trees
  pub rest : new ≡ record old { trees = new.trees; cursors = new.cursors }

-- the rows of a blob are written, and nothing is committed
pub record WritesUncommitted (more : List Index) (old new : View) (extent : Extent) (added : List Placed) : Type 0 where
  pub sound : old.is_broken ≡ false
  pub puts : PutsRows more old.trees new.trees extent added
  pub rest : new ≡ record old { trees = new.trees; cursors = new.cursors }

-- The store could go on and can, and its trees are those of the last commit, which is as it was.
abbrev pub HasTakenNothing : View → View → Type 0
HasTakenNothing old new = IsTrue old.is_open × (new.is_broken ≡ false) × (new.trees ≡ old.committed) × (new.committed ≡ old.committed)

-- the blob is one that a map can take at this offset
abbrev pub CanTake : HeldMap → ℕ → Blob → Type 0
CanTake held off blob = IsKept Tables held × IsAddable held off blob × (off < blob.fin) × (blob.fin ≤ MAX_OFFSET) × IsBlob Tables blob

-- What the put of a blob has done to the trees. Where it has failed they are as they were, unless they have to be opened again.
pub record PutsBlob {S T : Type 0} (store : Ghosts S) (old new : S) (extent : Extent) (elements : List Element) (result : Result T StoreFault) : Type 0 where
  pub added : IsClean (store.view new) → OnOk result (PutsBelow (store.view old).trees (store.view new).trees extent (placed extent.off 0 elements))
  pub can_store : OnOk result (AllByRecursion IsElement elements)
  pub indexed : OnOk result (IsClean (store.view old) → TakeBlobs (store.view old).shape ((store.view old).trees catalog_tree))
  pub committed : IsClean (store.view new) → OnOk result (((store.view old).is_broken ≡ false) × ((store.view new).is_broken ≡ false) × ((store.view new).committed ≡ (store.view new).trees))
  pub unchanged : IsClean (store.view new) → IsTrue (store.view new).is_open → OnErr result (HasTakenNothing (store.view old) (store.view new))
  pub ours : IfErr result (λ fault. ¬ (IsForeign fault))
  pub clean : doubt (store.view old).is_clean ≤ doubt (store.view new).is_clean
  -- a crash leaves what it could leave before, or the trees with the whole blob
  pub crash : IsClean (store.view new) → (db : Trees) → store.recovers new db
      → store.recovers old db ⊎ (((store.view old).is_broken ≡ false) × AllByRecursion IsElement elements × PutsBelow (store.view old).trees db extent (placed extent.off 0 elements))
