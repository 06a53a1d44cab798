-- Maps that may hold the same blob.
use Rattle.std.specs.Prelude.{◌≡◌, ℕ, Bool, true, List, Some, Result}
use Rattle.std.specs.FinMap.{get}
use Rattle.std.specs.List.{list_any}
use Rattle.osm_rows.specs.Flags.{has_flags}
use Rattle.osm_rows.specs.Held.{Blob, HeldMap}
use Rattle.osm_rows.specs.Keeping.{extent_of}
use Rattle.osm_reading.specs.Framings.{Known}
use Rattle.osm_import.specs.Pbf.{IsHeadedExport}
use Rattle.osm_import.specs.declared.export.fault.ExportFault.{ExportFault}
use Rattle.osm_parts.specs.Parts.{IsInPart, AreParts}

-- each blob of the maps is also in this list of maps, at the same offset and with the same extent: so with the same SHA-256
abbrev pub AreCovered : List HeldMap → List HeldMap → Type 0
AreCovered maps runs = (off : ℕ) (blob : Blob) → IsInPart maps off blob → (other : Blob) × IsInPart runs off other × (extent_of (off, other) ≡ extent_of (off, blob))

-- The whole holds, for each blob that one of the maps holds, one of the same extent, so of the same SHA-256; and nothing
-- but what one of the maps holds.
pub record IsUnionOf (maps : List HeldMap) (whole : HeldMap) : Type 0 where
  pub kept : (off : ℕ) (blob : Blob) → IsInPart maps off blob → (other : Blob) × (get whole off ≡ Some other) × (extent_of (off, other) ≡ extent_of (off, blob))
  pub only : (off : ℕ) (blob : Blob) → get whole off ≡ Some blob → IsInPart maps off blob

-- The header of an export of this union asks for history where an element of it has a flag of visibility, and only where
-- an element of one of the maps has. So it does exactly where the union's export does, if the maps are parts of it: if
-- those of their blobs that begin at the same offset are the same.
pub record IsHistoryOf (maps : List HeldMap) (whole : HeldMap) (history : Bool) : Type 0 where
  pub needed : has_flags whole ≡ true → history ≡ true
  pub told : history ≡ true → list_any has_flags maps ≡ true
  pub same : AreParts maps whole → history ≡ has_flags whole

-- What an export of parts as PBF has done: that of the whole, whose header asks for history as that of their union does.
abbrev pub IsPbfOfParts : List HeldMap → HeldMap → ℕ → Bool → Known → Known → Result (Unit {0}) ExportFault → Type 0
IsPbfOfParts maps whole size partial before after result = (history : Bool) × IsHistoryOf maps whole history × IsHeadedExport history whole size partial before after result

-- ---- the laws

-- where the maps are the parts of a map, it is their only union
abbrev pub UnionIsWhole : Type 0
UnionIsWhole = (maps : List HeldMap) (whole other : HeldMap) → AreParts maps whole → IsUnionOf maps other → whole ≡ other
