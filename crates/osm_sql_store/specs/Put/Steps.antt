-- What the steps of a put add, in an open transaction, and what the whole put commits.
use Rattle.std.specs.Prelude.{◌≡◌, ◌≢◌, ℕ, true, List, [], ◌∷◌, map, flat_map, length, IsTrue}
use Rattle.std.specs.List.{AllByRecursion}
use Rattle.sqlite.specs.State.{State, Shows, KeepsCommit}
use Rattle.sqlite.specs.Order.{Row}
use Rattle.sqlite.specs.Tree.{Trees, put_row}
use Rattle.sqlite_catalog.specs.Listing.{IsSound}
use Rattle.osm_value.specs.declared.element.Element.{Element}
use Rattle.osm_rows.specs.declared.keeper.Extent.{Extent}
use Rattle.osm_rows.specs.declared.put.table_row.ElementRow.{ElementRow}
use Rattle.osm_rows.specs.declared.put.table_row.TagRow.{TagRow}
use Rattle.osm_rows.specs.declared.put.table_row.LinkRow.{LinkRow}
use Rattle.osm_rows.specs.declared.schema.layout.Layout.{Layout}
use Rattle.osm_rows.specs.declared.schema.layout.Layout.TheVariants.{Tables}
use Rattle.osm_rows.specs.Schema.Layouts.{schema_of}
use Rattle.osm_sql_store.specs.Schema.Over.{IsWriting, Becomes}
use Rattle.osm_rows.specs.Rows.{Placed, CanStore, placed}
use Rattle.osm_rows.specs.TableRows.{element_rows, tag_rows, link_rows}
use Rattle.osm_rows.specs.Put.Gains.{Gains, GainsElements, Puts}
use Rattle.osm_rows.specs.Put.WrittenRows.{element_columns, tag_columns, link_columns}
use Rattle.osm_rows.specs.declared.trees.TheConstants.{BLOBS, META}

-- the other tables have the rows of before
abbrev pub KeepsOthers : Layout → ℕ → Trees → Trees → Type 0
KeepsOthers layout tree old new = AllByRecursion (λ t. t.tree ≢ tree → new t.tree ≡ old t.tree) (schema_of layout).tables

-- a table has one row more, and the other tables are as they were
pub record AddsRow (layout : Layout) (tree : ℕ) (old new : State) (row : Row) : Type 0 where
  pub becomes : Becomes old new (schema_of layout)
  pub shown : Shows old new new.now old.committed true
  pub others : KeepsOthers layout tree old.now.trees new.now.trees
  pub rows : Gains (old.now.trees tree) (row ∷ []) (new.now.trees tree)

-- the table `blob` has one row more, in its place, and the other tables are as they were
pub record AddsExtent (layout : Layout) (old new : State) (row : Row) : Type 0 where
  pub becomes : Becomes old new (schema_of layout)
  pub shown : Shows old new new.now old.committed true
  pub others : KeepsOthers layout 1 old.now.trees new.now.trees
  pub blob : new.now.trees BLOBS ≡ put_row row (old.now.trees BLOBS)

-- a table has these rows more, and the other tables are as they were
pub record AddsRows (layout : Layout) (tree : ℕ) (old new : State) (added : List Row) : Type 0 where
  pub over : IsWriting layout new
  pub kept : KeepsCommit old new
  pub sound : IsSound (schema_of layout) old.now.trees → IsSound (schema_of layout) new.now.trees
  pub others : KeepsOthers layout tree old.now.trees new.now.trees
  pub rows : Gains (old.now.trees tree) added (new.now.trees tree)

-- Whichever rows these values are those of, so many, one row after the other: a table of the layout of tables has them more.
abbrev pub AddsGivenRows : {R : Type 0} → (R → Row) → ℕ → ℕ → Row → State → State → Type 0
AddsGivenRows {R} columns tree count values old new = (rows : List R) → length rows ≡ count → values ≡ flat_map columns rows → AddsRows Tables tree old new (map columns rows)

-- these elements are added, and the tables `meta` and `blob` are as they were
pub record AddsElements (layout : Layout) (old new : State) (added : List Placed) : Type 0 where
  pub over : IsWriting layout new
  pub kept : KeepsCommit old new
  pub sound : IsSound (schema_of layout) old.now.trees → IsSound (schema_of layout) new.now.trees
  pub meta : new.now.trees META ≡ old.now.trees META
  pub blob : new.now.trees BLOBS ≡ old.now.trees BLOBS
  pub elements : GainsElements layout added old.now.trees new.now.trees

-- Whichever elements these are the rows of, in each table of the layout of tables: they are added.
abbrev pub AddsElementsOf : List ElementRow → List TagRow → List LinkRow → State → State → Type 0
AddsElementsOf elements tags links old new =
    (all : List Placed) → map element_columns elements ≡ element_rows all → map tag_columns tags ≡ tag_rows all → map link_columns links ≡ link_rows all → AddsElements Tables old new all

-- the rows of a blob are written, if the connection is over a store's schema
pub record WritesInTransaction (layout : Layout) (old new : State) (extent : Extent) (elements : List Placed) : Type 0 where
  pub was_open : IsTrue old.is_open
  pub inside : IsTrue new.in_transaction
  pub puts : old.now.schema ≡ schema_of layout → (new.now.schema ≡ schema_of layout) × Puts layout old.now.trees new.now.trees extent elements

-- The connection was open and is, what it sees is committed, and with it the rows of a blob, if it is over a store's schema.
pub record CommitsBlob (layout : Layout) (old new : State) (extent : Extent) (elements : List Placed) : Type 0 where
  pub was_open : IsTrue old.is_open
  pub is_open : IsTrue new.is_open
  pub committed : new.committed ≡ new.now
  pub puts : old.now.schema ≡ schema_of layout → (new.now.schema ≡ schema_of layout) × Puts layout old.now.trees new.now.trees extent elements

-- What a put may commit: the connection was open, the layout can store these elements, and the tables have the rows of the blob
-- more, if the connection was over a store's schema.
abbrev pub MayPut : Layout → State → Extent → List Element → Trees → Type 0
MayPut layout old extent elements trees =
    IsTrue old.is_open × AllByRecursion (CanStore layout) elements × (old.now.schema ≡ schema_of layout → Puts layout old.now.trees trees extent (placed extent.off 0 elements))

-- the connection was open, and it sees the same as before, and the same last commit
abbrev pub KeepsAll : State → State → Type 0
KeepsAll old new = IsTrue old.is_open × (new.now ≡ old.now) × (new.committed ≡ old.committed)
