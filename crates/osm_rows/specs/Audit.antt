-- What queries see of a store's tables, whatever rows these have: which rows are those of one blob, how many there are, and
-- when they are those of a map. A row that lacks its last values reads as NULL there, which no query can tell.
use Rattle.std.specs.Prelude.{◌≡◌, ℕ, ◌-◌, ◌^◌, ◌<◌, min, pos, Bool, List, [], ◌∷◌, map, filter, length, sum_by}
use Rattle.std.specs.List.Sorted.{IsPermutation}
use Rattle.std.specs.FinMap.{entries}
use Rattle.sqlite.specs.declared.types.Value.TheVariants.{Int}
use Rattle.sqlite.specs.Collation.TheVariants.{Binary}
use Rattle.sqlite.specs.Ops.{binary, is_true}
use Rattle.sqlite.specs.Order.{Row, column}
use Rattle.sqlite.specs.Tree.{Trees}
use Rattle.sqlite_sql.specs.declared.ops.CompareOp.TheVariants.{Eq}
use Rattle.sqlite_sql.specs.declared.ops.BinaryOp.TheVariants.{Compare}
use Rattle.osm_value.specs.declared.element.Element.{Element}
use Rattle.osm_value.specs.Elements.{IsElement, tags_of_element}
use Rattle.osm_rows.specs.declared.audit.counts.Counts.{Counts}
use Rattle.osm_rows.specs.declared.schema.layout.Layout.{Layout}
use Rattle.osm_rows.specs.declared.schema.layout.Layout.TheVariants.{Bodies, Tables}
use Rattle.osm_rows.specs.Held.{Blob, HeldMap, HasFewTexts}
use Rattle.osm_rows.specs.Keeping.{extent_of, extents_of}
use Rattle.osm_rows.specs.Rows.{Placed, placed, placed_in, body_row, extent_columns}
use Rattle.osm_rows.specs.TableRows.{element_rows, tag_rows, link_rows, links_of}
use Rattle.osm_rows.specs.declared.trees.TheConstants.{BLOBS, ELEMENTS, LINKS, TAGS}

-- what queries see of a table: of each row the values at these places, of which the rowid is place 0
abbrev pub seen : List ℕ → List Row → List Row
seen places table = map (λ row. map (column row) places) table

-- of the table `blob`, whose key `off` is the rowid
abbrev pub seen_extents : Trees → List Row
seen_extents db = seen (0 ∷ 2 ∷ 3 ∷ 4 ∷ 5 ∷ []) (db BLOBS)

abbrev pub seen_bodies : Trees → List Row
seen_bodies db = seen (1 ∷ 2 ∷ 3 ∷ 4 ∷ 5 ∷ []) (db ELEMENTS)

abbrev pub seen_elements : Trees → List Row
seen_elements db = seen (1 ∷ 2 ∷ 3 ∷ 4 ∷ 5 ∷ 6 ∷ 7 ∷ 8 ∷ 9 ∷ 10 ∷ 11 ∷ 12 ∷ []) (db ELEMENTS)

abbrev pub seen_tags : Trees → List Row
seen_tags db = seen (1 ∷ 2 ∷ 3 ∷ 4 ∷ 5 ∷ []) (db TAGS)

abbrev pub seen_links : Trees → List Row
seen_links db = seen (1 ∷ 2 ∷ 3 ∷ 4 ∷ 5 ∷ 6 ∷ []) (db LINKS)

-- ---- the rows of one blob

-- whether SQL finds the row at this offset, which stands first in it
abbrev pub is_at : ℕ → Row → Bool
is_at off row = is_true (binary (Compare Eq Binary) (column row 0) (Int (pos off)))

-- the rows at this offset are these, in any order
abbrev pub HasAt : ℕ → List Row → List Row → Type 0
HasAt off rows table = IsPermutation rows (filter (is_at off) table)

-- in each table of elements the rows at this offset are those that these elements stand for
abbrev pub ShowElementsAt : Layout → ℕ → List Placed → Trees → Type 0
ShowElementsAt Bodies off elements db = HasAt off (map body_row elements) (seen_bodies db)
ShowElementsAt Tables off elements db =
    HasAt off (element_rows elements) (seen_elements db) × HasAt off (tag_rows elements) (seen_tags db) × HasAt off (link_rows elements) (seen_links db)

-- the rows at this offset are those of the blob, and no others
pub record ShowsBlob (layout : Layout) (db : Trees) (off : ℕ) (blob : Blob) : Type 0 where
  pub extent : HasAt off (extent_columns (extent_of (off, blob)) ∷ []) (seen_extents db)
  pub elements : ShowElementsAt layout off (placed off 0 blob.elements) db

-- ---- how many rows there are

-- the table has so many rows, which are fewer than SQL can count
abbrev pub HasCount : List Row → ℕ → Type 0
HasCount table n = (length table ≡ n) × (n < 2 ^ 63 - 1)

-- each table has so many rows
abbrev pub ShowsCounts : Layout → Trees → Counts → Type 0
ShowsCounts Bodies db counts = HasCount (db BLOBS) counts.blobs × HasCount (db ELEMENTS) counts.elements
ShowsCounts Tables db counts = HasCount (db BLOBS) counts.blobs × HasCount (db ELEMENTS) counts.elements × HasCount (db TAGS) counts.tags × HasCount (db LINKS) counts.links

abbrev pub tags_in : List Element → ℕ
tags_in elements = sum_by (λ e. length (tags_of_element e)) elements

abbrev pub links_in : List Element → ℕ
links_in elements = sum_by (λ e. length (links_of e)) elements

-- it stops at 2^64 - 1
abbrev pub capped : ℕ → ℕ
capped n = min n (2 ^ 64 - 1)

-- the counts of rows of blobs with these elements
abbrev pub counts_of : List (List Element) → Counts
counts_of blobs = record {
  blobs = capped (length blobs);
  elements = capped (sum_by length blobs);
  tags = capped (sum_by tags_in blobs);
  links = capped (sum_by links_in blobs);
}

-- each is one that SQL can count, as it is of all tables that a disk can have
pub record AreCountable (counts : Counts) : Type 0 where
  pub blobs : counts.blobs < 2 ^ 63 - 1
  pub elements : counts.elements < 2 ^ 63 - 1
  pub tags : counts.tags < 2 ^ 63 - 1
  pub links : counts.links < 2 ^ 63 - 1

-- the elements of each blob of the map
abbrev pub elements_held : HeldMap → List (List Element)
elements_held held = map (λ (entry : ℕ × Blob). entry.1.elements) (entries held)

-- ---- which blobs rows tell apart

-- inside its ranges, and with a block of its own: what is known of each element of a good frame
abbrev pub IsPlain : Element → Type 0
IsPlain e = IsElement e × HasFewTexts e

-- ---- all rows

abbrev pub ShowElements : Layout → List Placed → Trees → Type 0
ShowElements Bodies elements db = IsPermutation (map body_row elements) (seen_bodies db)
ShowElements Tables elements db =
    IsPermutation (element_rows elements) (seen_elements db) × IsPermutation (tag_rows elements) (seen_tags db) × IsPermutation (link_rows elements) (seen_links db)

-- what queries see of the tables are the rows of this map, and no others
pub record ShowsMap (layout : Layout) (db : Trees) (held : HeldMap) : Type 0 where
  pub extents : IsPermutation (map extent_columns (extents_of held)) (seen_extents db)
  pub elements : ShowElements layout (placed_in held) db
