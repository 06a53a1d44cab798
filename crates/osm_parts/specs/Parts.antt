-- One map in several parts.
use Rattle.std.specs.Prelude.{◌≡◌, ◌⊎◌, ℕ, ◌<◌, ◌≤◌, List, [], ◌∷◌, ◌++◌, Some}
use Rattle.std.specs.FinMap.{get, entries}
use Rattle.osm_rows.specs.Held.{Blob, HeldMap, IsApart}
use Rattle.osm_rows.specs.Keeping.{extents_of}
use Rattle.osm_rows.specs.declared.keeper.Extent.{Extent}
use Rattle.osm_import.specs.Exports.{map_lines}
use Rattle.osm_import.specs.Gaps.{AreGaps, ranges_between}
use Rattle.osm_import.specs.Pbf.{AreFramesOf}
use Rattle.osm_import.specs.Deliveries.{DeliveryValue}
use Rattle.osm_import.specs.Merges.{IsImported, AreImported, all_of}

-- all its blobs lie between these two offsets
abbrev pub LiesIn : ℕ → ℕ → HeldMap → Type 0
LiesIn from to held = (at : ℕ) (blob : Blob) → get held at ≡ Some blob → (from ≤ at) × (at < blob.fin) × (blob.fin ≤ to)

-- each part lies behind the one before it
abbrev pub FollowFrom : ℕ → List HeldMap → Type 0
FollowFrom from [] = Unit {0}
FollowFrom from (part ∷ parts) = (to : ℕ) × (from ≤ to) × LiesIn from to part × FollowFrom to parts

-- one of the parts holds this blob there
abbrev pub IsInPart : List HeldMap → ℕ → Blob → Type 0
IsInPart [] off blob = ⊥
IsInPart (part ∷ parts) off blob = (get part off ≡ Some blob) ⊎ IsInPart parts off blob

-- the map holds what one of the parts holds
pub record AreParts (parts : List HeldMap) (whole : HeldMap) : Type 0 where
  pub kept : (off : ℕ) (blob : Blob) → IsInPart parts off blob → get whole off ≡ Some blob
  pub only : (off : ℕ) (blob : Blob) → get whole off ≡ Some blob → IsInPart parts off blob

-- the entries of the parts, one part after the other
abbrev pub entries_in : List HeldMap → List (ℕ × Blob)
entries_in [] = []
entries_in (part ∷ parts) = entries part ++ entries_in parts

abbrev pub extents_in : List HeldMap → List Extent
extents_in [] = []
extents_in (part ∷ parts) = extents_of part ++ extents_in parts

abbrev pub lines_in : List HeldMap → List ℕ
lines_in [] = []
lines_in (part ∷ parts) = map_lines part ++ lines_in parts

-- the frames of each part, one part after the other
abbrev pub AreFramesIn : List HeldMap → List ℕ → Type 0
AreFramesIn [] bytes = bytes ≡ []
AreFramesIn (part ∷ parts) bytes = (front : List ℕ) × (behind : List ℕ) × AreFramesOf (entries part) front × AreFramesIn parts behind × (bytes ≡ front ++ behind)

-- the extents of each part don't meet
abbrev pub AreApart : List HeldMap → Type 0
AreApart [] = Unit {0}
AreApart (part ∷ parts) = IsApart part × AreApart parts

-- ---- the laws

-- the entries of the whole are those of its parts in turn
abbrev pub PartsJoin : Type 0
PartsJoin = (parts : List HeldMap) (whole : HeldMap) (from : ℕ) → FollowFrom from parts → AreParts parts whole → entries whole ≡ entries_in parts

-- so are its extents, of which the gaps are made
abbrev pub ExtentsJoin : Type 0
ExtentsJoin = (parts : List HeldMap) (whole : HeldMap) (from : ℕ) → FollowFrom from parts → AreParts parts whole → extents_of whole ≡ extents_in parts

-- exports of the parts, one after the other, are the export of the whole
abbrev pub LinesJoin : Type 0
LinesJoin = (parts : List HeldMap) (whole : HeldMap) (from : ℕ) → FollowFrom from parts → AreParts parts whole → map_lines whole ≡ lines_in parts

-- the same of exports as PBF, behind one header
abbrev pub FramesJoin : Type 0
FramesJoin = (parts : List HeldMap) (whole : HeldMap) (from : ℕ) (bytes : List ℕ) → FollowFrom from parts → AreParts parts whole → AreFramesIn parts bytes → AreFramesOf (entries whole) bytes

-- the gaps of the whole are the ranges between the extents of its parts
abbrev pub GapsJoin : Type 0
GapsJoin = (parts : List HeldMap) (whole : HeldMap) (from size : ℕ) → FollowFrom from parts → AreApart parts → AreParts parts whole → AreGaps whole size (ranges_between 0 size (extents_in parts))

-- what imports of the parts of a delivery list come to are the parts of what an import of all of it comes to
abbrev pub ImportsAreParts : Type 0
ImportsAreParts = (parts : List (List DeliveryValue)) (sources : List HeldMap) (one : HeldMap) → AreImported parts sources → IsImported (all_of parts) one → AreParts sources one
