-- Blobs of several maps that are in each other's way.
use Rattle.std.specs.Prelude.{◌≡◌, ℕ, ◌<◌, List}
use Rattle.osm_rows.specs.Held.{Blob, HeldMap}
use Rattle.osm_rows.specs.Keeping.{extent_of}
use Rattle.osm_parts.specs.Parts.{IsInPart}

-- two of the maps hold blobs at the offset whose extents differ
abbrev pub AreDiffering : List HeldMap → ℕ → Type 0
AreDiffering maps off = (blob : Blob) × (other : Blob) × IsInPart maps off blob × IsInPart maps off other × ¬ (extent_of (off, other) ≡ extent_of (off, blob))

-- one of the maps holds a blob at the offset, and one of them holds a blob that begins before it and ends behind it
abbrev pub AreOverlapping : List HeldMap → ℕ → Type 0
AreOverlapping maps off = (blob : Blob) × (at : ℕ) × (other : Blob) × IsInPart maps off blob × IsInPart maps at other × (at < off) × (off < other.fin)
