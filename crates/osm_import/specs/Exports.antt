-- What an export writes.
use Rattle.std.specs.Prelude.{◌≡◌, ◌⊎◌, ℕ, ◌+◌, ◌<◌, ◌≤◌, max, Bool, false, List, [], ◌∷◌, ◌++◌, length, take, Option, Some, None, Result, Ok, Err, unwrap_or}
use Rattle.std.specs.FinMap.{entries}
use Rattle.std.specs.Io.KnownBytes.{Appends}
use Rattle.osm_value.specs.declared.element.Element.{Element}
use Rattle.osm_value.specs.Line.{line}
use Rattle.osm_value.specs.Sink.{AppendsFront}
use Rattle.pbf_frame.specs.declared.kind.Kind.{Kind}
use Rattle.osm_reading.specs.Good.{IsGood}
use Rattle.osm_rows.specs.Held.{Blob, HeldMap}
use Rattle.osm_rows.specs.Keeping.{extents_of}
use Rattle.osm_rows.specs.declared.keeper.Extent.{Extent}
use Rattle.osm_import.specs.Gaps.{AreGaps, Tiles, ranges_between}
use Rattle.osm_import.specs.declared.export.fault.ExportFault.{ExportFault}
use Rattle.osm_import.specs.declared.export.fault.ExportFault.TheVariants.{Incomplete, PastEnd, WriteFailed, BlockTooLarge, Miscounted, Store}
use Rattle.osm_reading.specs.Framings.{Known}

-- the lines of elements, in order
abbrev pub lines_of : List Element → List ℕ
lines_of [] = []
lines_of (element ∷ elements) = line element ++ lines_of elements

-- the lines of held blobs, one after the other
abbrev pub blob_lines : List (ℕ × Blob) → List ℕ
blob_lines [] = []
blob_lines (entry ∷ rest) = lines_of entry.1.elements ++ blob_lines rest

-- the lines of all held elements, by offset and position
abbrev pub map_lines : HeldMap → List ℕ
map_lines held = blob_lines (entries held)

-- the elements of a file whose frames, which stand from start on, are all good
abbrev pub AreElements : ℕ → List (List ℕ) → List Element → Type 0
AreElements start [] elements = elements ≡ []
AreElements start (frame ∷ frames) elements = (kind : Kind) × (first : List Element) × (others : List Element)
    × IsGood start frame kind first × AreElements (start + length frame) frames others × (elements ≡ first ++ others)

-- the greatest end of extents, 0 where there is none
abbrev pub greatest_end : List Extent → ℕ
greatest_end [] = 0
greatest_end (extent ∷ extents) = max extent.fin (greatest_end extents)

-- the size that is asked for, or else the greatest held end
abbrev pub size_of : Option ℕ → List Extent → ℕ
size_of size extents = unwrap_or size (greatest_end extents)

-- why extents don't tile 0..size
abbrev pub IsRefusalOf : List Extent → ℕ → ExportFault → Type 0
IsRefusalOf extents size (Incomplete from to) =
    ((rest : List (ℕ × ℕ)) × (ranges_between 0 size extents ≡ (from, to) ∷ rest)) ⊎ ((extents ≡ []) × (size ≡ 0) × (from ≡ 0) × (to ≡ 0))
IsRefusalOf extents size (PastEnd fin) = (ranges_between 0 size extents ≡ []) × (fin ≡ greatest_end extents) × (size < fin)
IsRefusalOf extents size WriteFailed = ⊥
IsRefusalOf extents size BlockTooLarge = ⊥
IsRefusalOf extents size (Miscounted off) = ⊥
IsRefusalOf extents size (Store fault) = ⊥

-- There are extents, they leave no range between 0 and the size, and none ends behind the size.
pub record AreTiling (extents : List Extent) (size : ℕ) : Type 0 where
  pub some : length extents ≡ 0 → ⊥
  pub whole : ranges_between 0 size extents ≡ []
  pub within : greatest_end extents ≤ size

-- why an export is refused: the first gap, or (0, 0) where nothing is held and the size is 0; else the greatest end past the size
abbrev pub IsRefusal : HeldMap → ℕ → ExportFault → Type 0
IsRefusal held size (Incomplete from to) =
    ((rest : List (ℕ × ℕ)) × AreGaps held size ((from, to) ∷ rest)) ⊎ ((entries held ≡ []) × (size ≡ 0) × (from ≡ 0) × (to ≡ 0))
IsRefusal held size (PastEnd fin) = AreGaps held size [] × (fin ≡ greatest_end (extents_of held)) × (size < fin)
IsRefusal held size WriteFailed = ⊥
IsRefusal held size BlockTooLarge = ⊥
IsRefusal held size (Miscounted off) = ⊥
IsRefusal held size (Store fault) = ⊥

-- what the text of one blob has done to what was written before
abbrev pub WritesBlob : Known → List ℕ → Known → Result (Unit {0}) ExportFault → Type 0
WritesBlob before text after (Ok _) = Appends before after text
WritesBlob before text after (Err WriteFailed) = AppendsFront before after text
WritesBlob before text after (Err (Store fault)) = after ≡ before
WritesBlob before text after (Err BlockTooLarge) = ⊥
WritesBlob before text after (Err (Miscounted off)) = ⊥
WritesBlob before text after (Err (Incomplete from to)) = ⊥
WritesBlob before text after (Err (PastEnd fin)) = ⊥

-- the same of its lines
abbrev pub WritesLines : Known → List Element → Known → Result (Unit {0}) ExportFault → Type 0
WritesLines before elements after result = WritesBlob before (lines_of elements) after result

-- so many of the blobs stand before one that is left, or before any
abbrev pub IsBefore : ℕ → List (ℕ × Blob) → Type 0
IsBefore count es = (count < length es) ⊎ (count ≡ 0)

-- why an export hasn't begun: a call of the store has failed or memory was refused, or, unless partial, it is refused
abbrev pub IsUnbegun : HeldMap → ℕ → Bool → ExportFault → Type 0
IsUnbegun held size partial (Store fault) = Unit {0}
IsUnbegun held size partial (Incomplete from to) = (partial ≡ false) × IsRefusal held size (Incomplete from to)
IsUnbegun held size partial (PastEnd fin) = (partial ≡ false) × IsRefusal held size (PastEnd fin)
IsUnbegun held size partial WriteFailed = ⊥
IsUnbegun held size partial BlockTooLarge = ⊥
IsUnbegun held size partial (Miscounted off) = ⊥

-- unless partial, what is held tiles the size, or nothing was written
abbrev pub IsGuarded : HeldMap → ℕ → Bool → Known → Known → Type 0
IsGuarded held size partial before after = partial ≡ false → Tiles held size ⊎ (after ≡ before)

-- What an export has done: its text went out, or a front of it where a write failed, or the lines of the blobs before the
-- one at a store fault; nothing where it is refused. Unless partial, what is held tiles the size, or a store fault came
-- before any byte.
abbrev pub IsExport : HeldMap → ℕ → Bool → Known → Known → Result (Unit {0}) ExportFault → Type 0
IsExport held size partial before after (Ok _) = Appends before after (map_lines held) × (partial ≡ false → Tiles held size)
IsExport held size partial before after (Err WriteFailed) = AppendsFront before after (map_lines held) × (partial ≡ false → Tiles held size)
IsExport held size partial before after (Err (Store fault)) =
    (count : ℕ) × IsBefore count (entries held) × Appends before after (blob_lines (take count (entries held))) × IsGuarded held size partial before after
IsExport held size partial before after (Err BlockTooLarge) = ⊥
IsExport held size partial before after (Err (Miscounted off)) = ⊥
IsExport held size partial before after (Err (Incomplete from to)) = (partial ≡ false) × (after ≡ before) × IsRefusal held size (Incomplete from to)
IsExport held size partial before after (Err (PastEnd fin)) = (partial ≡ false) × (after ≡ before) × IsRefusal held size (PastEnd fin)

-- no size was asked for, or this one
abbrev pub IsAskedFor : Option ℕ → ℕ → Type 0
IsAskedFor asked size = (asked ≡ None) ⊎ (asked ≡ Some size)

-- at Ok the lines of the file's elements are written, and it isn't refused
abbrev pub WritesFile : List (List ℕ) → Known → Known → Result (Unit {0}) ExportFault → Type 0
WritesFile frames before after (Ok _) = (elements : List Element) × AreElements 0 frames elements × Appends before after (lines_of elements)
WritesFile frames before after (Err WriteFailed) = Unit {0}
WritesFile frames before after (Err (Store fault)) = Unit {0}
WritesFile frames before after (Err BlockTooLarge) = ⊥
WritesFile frames before after (Err (Miscounted off)) = ⊥
WritesFile frames before after (Err (Incomplete from to)) = ⊥
WritesFile frames before after (Err (PastEnd fin)) = ⊥
