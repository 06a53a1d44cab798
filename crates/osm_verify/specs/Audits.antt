-- What it comes to that a database has the rows of each frame of a file, and no others, whatever else was said of it.
use Rattle.std.specs.Prelude.{◌≡◌, ◌↔◌, ℕ, ◌+◌, Bool, IsTrue, List, [], ◌∷◌, ◌++◌, length}
pub use Rattle.sqlite.specs.Tree.{Trees}
use Rattle.std.specs.List.{AllByRecursion}
use Rattle.std.specs.FinMap.{entries}
use Rattle.osm_value.specs.declared.element.Element.{Element}
use Rattle.osm_rows.specs.declared.audit.counts.Counts.{Counts}
use Rattle.osm_rows.specs.declared.schema.layout.Layout.{Layout}
use Rattle.osm_rows.specs.Audit.{ShowsBlob, ShowsCounts, ShowsMap, counts_of, elements_held}
use Rattle.osm_rows.specs.Held.{Blob, HeldMap}
use Rattle.osm_import.specs.Merges.{IsImported, placed_from}
use Rattle.osm_import.specs.Step.{IsEntry}

-- the frame is good, of a blob with these elements, of which this is so
pub record IsEntryOf (P : Blob → Type 0) (off : ℕ) (frame : List ℕ) (elements : List Element) : Type 0 where
  pub entry : Blob
  pub is_entry : IsEntry off frame entry
  pub elements_are : entry.elements ≡ elements
  pub so : P entry

-- each of the frames that stand one behind the other from this offset on is good, of a blob with these elements, of which
-- this is so at its offset
abbrev pub AreEntries : (ℕ → Blob → Type 0) → ℕ → List (List ℕ) → List (List Element) → Type 0
AreEntries P start [] [] = Unit {0}
AreEntries P start [] (elements ∷ blobs) = ⊥
AreEntries P start (frame ∷ frames) [] = ⊥
AreEntries P start (frame ∷ frames) (elements ∷ blobs) = IsEntryOf (P start) start frame elements × AreEntries P (start + length frame) frames blobs

-- the frame is good, of a blob with these elements, and the rows at its offset are those of that blob
abbrev pub IsShown : Layout → Trees → ℕ → List ℕ → List Element → Type 0
IsShown layout db off frame elements = IsEntryOf (ShowsBlob layout db off) off frame elements

-- so is each of the frames that stand one behind the other from this offset on
abbrev pub AreShown : Layout → Trees → ℕ → List (List ℕ) → List (List Element) → Type 0
AreShown layout db start frames blobs = AreEntries (ShowsBlob layout db) start frames blobs

-- It is told whether this is so of the blob of the good frame at this offset, which has these elements. If it is, the rows at the
-- offset are those of that blob.
pub record TellsFrame (P : Blob → Type 0) (layout : Layout) (db : Trees) (off : ℕ) (frame : List ℕ) (elements : List Element) (told : Bool) : Type 0 where
  pub whether : IsTrue told ↔ IsEntryOf P off frame elements
  pub shown : IsTrue told → IsShown layout db off frame elements

-- the rows at the offset of each frame are those of its blob, and the tables have no more rows than these
pub record IsAudited (layout : Layout) (db : Trees) (frames : List (List ℕ)) : Type 0 where
  pub blobs : List (List Element)
  pub shown : AreShown layout db 0 frames blobs
  pub counted : ShowsCounts layout db (counts_of blobs)

-- queries see the rows of the map that an import of these frames to a new store comes to, and no others
pub record ShowsImport (layout : Layout) (db : Trees) (frames : List (List ℕ)) : Type 0 where
  pub held : HeldMap
  pub imported : IsImported (placed_from 0 frames) held
  pub shown : ShowsMap layout db held

-- This is so wherever the rows of each blob, and the numbers of all rows, were found right.
abbrev pub AuditedShowsImport : Type 0
AuditedShowsImport = (layout : Layout) (db : Trees) (frames : List (List ℕ)) → IsAudited layout db frames → ShowsImport layout db frames

-- the rows at each offset of the map that an import of these frames to a new store comes to are those of its blob, where this is
-- said of rows at an offset, and the tables have no more rows than these
pub record KeepsImport (has_rows : ℕ → Blob → Type 0) (layout : Layout) (db : Trees) (frames : List (List ℕ)) : Type 0 where
  pub held : HeldMap
  pub imported : IsImported (placed_from 0 frames) held
  pub kept : AllByRecursion (λ (entry : ℕ × Blob). has_rows entry.0 entry.1) (entries held)
  pub counted : ShowsCounts layout db (counts_of (elements_held held))

-- the counts of the rows of some blobs, and then of one more with these elements
abbrev pub CountsMore : Counts → List Element → Counts → Type 0
CountsMore old elements new = (before : List (List Element)) → old ≡ counts_of before → new ≡ counts_of (before ++ elements ∷ [])
