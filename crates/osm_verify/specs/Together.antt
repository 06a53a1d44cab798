-- Stores that together hold a file.
use Rattle.std.specs.Prelude.{◌≡◌, ℕ, ◌<◌, false, List, [], ◌∷◌, ◌++◌, length, Some, IfSome}
use Rattle.std.specs.FinMap.{get}
use Rattle.osm_rows.specs.Held.{Blob, HeldMap, IsApart}
use Rattle.osm_rows.specs.Keeping.{extents_of}
use Rattle.osm_reading.specs.Framings.{Known}
use Rattle.osm_import.specs.Files.{IsFile, IsFrameAt}
use Rattle.osm_import.specs.Gaps.{AreGaps}
use Rattle.osm_parts.specs.Reading.{AreStores}
use Rattle.osm_parts.specs.Unions.{IsUnionOf}
use Rattle.osm_verify.specs.Agreements.{IsSame}
use Rattle.osm_verify.specs.Laws.{IsExact}
use Rattle.osm_verify.specs.declared.comparing.Depth.{Depth}
use Rattle.osm_verify.specs.InFile.{StandsIn}
use Rattle.osm_verify.specs.Judging.{AreJudged}
use Rattle.osm_verify.specs.declared.part_audit.Finding.{Finding}
use Rattle.osm_verify.specs.declared.together.Gathered.{Gathered}
use Rattle.osm_verify.specs.declared.together.Verdict.{Verdict}

-- what is found at the blobs of each store, one store after the other
abbrev pub AreAllJudged : Depth → Known → List HeldMap → List Finding → Type 0
AreAllJudged depth known [] findings = findings ≡ []
AreAllJudged depth known (held ∷ maps) findings =
    (own : List Finding) × (rest : List Finding) × AreJudged depth held known (extents_of held) own × AreAllJudged depth known maps rest × (findings ≡ own ++ rest)

-- These are the stores of the maps, by their places, and what is found at their blobs.
pub record AreAllAudited (depth : Depth) (known : Known) (maps : List HeldMap) (gathered : Gathered) : Type 0 where
  pub read : AreStores false 0 maps gathered.stores.items
  pub found : AreAllJudged depth known maps gathered.findings.items

-- Of a union of what the stores hold how many blobs it has, and of a file of that size which ranges none of them covers.
pub record Covers (known : Known) (maps : List HeldMap) (verdict : Verdict) : Type 0 where
  pub size : ℕ
  pub size_is : IfSome known (λ file. size ≡ length file)
  pub whole : HeldMap
  pub union : IsUnionOf maps whole
  pub apart : IsApart whole
  pub blobs : verdict.blobs ≡ length (extents_of whole)
  pub gaps : AreGaps whole size verdict.gaps.items

-- What is found at the blobs of the stores, of a union of what they hold how many blobs it has, and of a file of that size
-- which ranges none of them covers.
pub record IsVerdict (depth : Depth) (known : Known) (maps : List HeldMap) (verdict : Verdict) : Type 0 where
  pub size : ℕ
  pub size_is : IfSome known (λ file. size ≡ length file)
  pub whole : HeldMap
  pub union : IsUnionOf maps whole
  pub apart : IsApart whole
  pub judged : AreAllJudged depth known maps verdict.findings.items
  pub blobs : verdict.blobs ≡ length (extents_of whole)
  pub gaps : AreGaps whole size verdict.gaps.items

-- ---- the laws

-- each blob of the map is like the entry of a good frame that stands in the file at its offset
abbrev pub IsPartOf : Depth → List ℕ → HeldMap → Type 0
IsPartOf depth file held = (off : ℕ) (blob : Blob) → get held off ≡ Some blob → (frame : List ℕ) × StandsIn file off frame × IsSame depth held off frame

-- so is each of the maps
abbrev pub ArePartsOf : Depth → List ℕ → List HeldMap → Type 0
ArePartsOf depth file [] = Unit {0}
ArePartsOf depth file (held ∷ maps) = IsPartOf depth file held × ArePartsOf depth file maps

-- each blob of the map is like the entry of the frame at its offset, which is good
abbrev pub IsOfFrames : Depth → List (List ℕ) → HeldMap → Type 0
IsOfFrames depth frames held = (off : ℕ) (blob : Blob) → get held off ≡ Some blob → (frame : List ℕ) × IsFrameAt frames off frame × IsSame depth held off frame

abbrev pub AreOfFrames : Depth → List (List ℕ) → List HeldMap → Type 0
AreOfFrames depth frames [] = Unit {0}
AreOfFrames depth frames (held ∷ maps) = IsOfFrames depth frames held × AreOfFrames depth frames maps

-- The file is a row of frames. Each blob of each of the maps is like the entry of the frame at its offset, and there is a
-- union of them, which is what an import of the file comes to: by extents its extents are.
pub record HoldFile (depth : Depth) (file : List ℕ) (maps : List HeldMap) : Type 0 where
  pub frames : List (List ℕ)
  pub is_file : IsFile file frames
  pub each : AreOfFrames depth frames maps
  pub whole : HeldMap
  pub union : IsUnionOf maps whole
  pub exact : IsExact depth whole frames

-- So it is where each is a part of the file, a union of them leaves no byte of it uncovered, and there is one.
abbrev pub PartsHoldFile : Type 0
PartsHoldFile = (depth : Depth) (file : List ℕ) (maps : List HeldMap) (whole : HeldMap) → 0 < length file → ArePartsOf depth file maps → IsUnionOf maps whole → IsApart whole → AreGaps whole (length file) [] → HoldFile depth file maps

-- a verdict of nothing found, no gap and some blob
abbrev pub IsClean : Verdict → Type 0
IsClean verdict = (verdict.findings.items ≡ []) × (verdict.gaps.items ≡ []) × (0 < verdict.blobs)

-- A clean verdict says that the maps hold the file, and nothing else.
abbrev pub AgreedHoldFile : Type 0
AgreedHoldFile = (depth : Depth) (file : List ℕ) (maps : List HeldMap) (verdict : Verdict) → IsVerdict depth (Some file) maps verdict → IsClean verdict → HoldFile depth file maps
