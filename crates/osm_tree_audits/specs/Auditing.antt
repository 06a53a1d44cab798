-- The rows that trees have at an offset, whatever rows these are.
use Rattle.std.specs.Prelude.{◌≡◌, ℕ, pos, List, [], ◌∷◌, map, filter, drop}
use Rattle.std.specs.FinMap.{entries}
use Rattle.std.specs.List.{AllByRecursion}
use Rattle.std.specs.List.Sorted.{IsPermutation}
use Rattle.sqlite_value.specs.Order.{Row}
use Rattle.sqlite_trees.specs.Tree.{Trees, has_rowid}
use Rattle.sqlite_schema.specs.Rules.{Obeys}
use Rattle.osm_value.specs.declared.element.Element.{Element}
use Rattle.osm_rows.specs.Audit.{is_at}
use Rattle.osm_rows.specs.declared.keeper.Extent.{Extent}
use Rattle.osm_rows.specs.declared.schema.layout.Layout.TheVariants.{Tables}
use Rattle.osm_rows.specs.Held.{Blob, HeldMap}
use Rattle.osm_rows.specs.Keeping.{extent_of, extents_of}
use Rattle.osm_rows.specs.LayoutHolding.{HoldElements}
use Rattle.osm_rows.specs.Rows.{Placed, placed, placed_in, extent_row}
use Rattle.osm_rows.specs.Schema.Tables.{table_schema}
use Rattle.osm_rows.specs.TableRows.{element_rows, tag_rows, link_rows}
use Rattle.osm_rows.specs.declared.trees.TheConstants.{BLOBS, ELEMENTS, LINKS, TAGS}

-- the rows of the table at this offset, without their rowids, are these, in any order
abbrev pub KeepsAt : ℕ → List Row → List Row → Type 0
KeepsAt off rows table = IsPermutation rows (filter (is_at off) (map (drop 1) table))

-- the tables of elements, of tags and of links have these elements' rows at the offset, and no others there
abbrev pub KeepElementsAt : ℕ → List Placed → Trees → Type 0
KeepElementsAt off elements db = KeepsAt off (element_rows elements) (db ELEMENTS) × KeepsAt off (tag_rows elements) (db TAGS) × KeepsAt off (link_rows elements) (db LINKS)

-- the rows at a blob's offset, in all tables, are those that a put of it writes, and no others, each as it is kept
pub record KeepsBlob (db : Trees) (blob : Extent) (inside : List Element) : Type 0 where
  pub extent : filter (has_rowid (pos blob.off)) (db BLOBS) ≡ extent_row blob ∷ []
  pub elements : KeepsAt blob.off (element_rows (placed blob.off 0 inside)) (db ELEMENTS)
  pub tags : KeepsAt blob.off (tag_rows (placed blob.off 0 inside)) (db TAGS)
  pub links : KeepsAt blob.off (link_rows (placed blob.off 0 inside)) (db LINKS)

-- the same at the offset of each blob of a map
abbrev pub KeepsBlobs : Trees → HeldMap → Type 0
KeepsBlobs db held = AllByRecursion (λ (entry : ℕ × Blob). KeepsBlob db (extent_of entry) entry.1.elements) (entries held)

-- The trees have the rows of the map, and no others, and obey the schema of a store: each value has its column's type, none is
-- missing, and no key comes twice.
abbrev pub KeepsMap : Trees → HeldMap → Type 0
KeepsMap db held = (db BLOBS ≡ map extent_row (extents_of held)) × HoldElements Tables (placed_in held) db × Obeys table_schema db
