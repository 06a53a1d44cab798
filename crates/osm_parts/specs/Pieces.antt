-- The blobs of several stores, by their extents.
use Rattle.std.specs.Prelude.{◌≡◌, ◌≢◌, ◌⊎◌, ℕ, ◌<◌, ◌≤◌, Bool, ◌&&◌, List, [], ◌∷◌, ◌++◌, map, take, Some, slice_get}
use Rattle.std.specs.FinMap.{get}
use Rattle.std.specs.List.{Contains}
use Rattle.osm_rows.specs.Flags.{has_flags}
use Rattle.osm_rows.specs.Held.{Blob, HeldMap, IsApart}
use Rattle.osm_rows.specs.Keeping.{extent_of}
use Rattle.osm_rows.specs.declared.keeper.Extent.{Extent}
use Rattle.osm_rows.specs.declared.fault.StoreFault.TheVariants.{Memory}
use Rattle.osm_import.specs.declared.answer.Conflict.TheVariants.{Differs, Overlap}
use Rattle.osm_parts.specs.Parts.{IsInPart}
use Rattle.osm_parts.specs.declared.fault.PartsFault.{PartsFault}
use Rattle.osm_parts.specs.declared.fault.PartsFault.TheVariants.{Interleaved, Refused, Store}
use Rattle.osm_parts.specs.declared.pieces.Piece.{Piece}

abbrev pub offset_of : Piece → ℕ
offset_of piece = piece.extent.off

-- the blobs at these extents, in one store
abbrev pub pieces_of : ℕ → Bool → List Extent → List Piece
pieces_of place history extents = map (λ (extent : Extent). record { place = place; extent = extent; history = history }) extents

-- the piece is a blob of the store at its place
pub record IsPiece (maps : List HeldMap) (asked : Bool) (piece : Piece) : Type 0 where
  pub store : HeldMap
  pub at : slice_get maps piece.place ≡ Some store
  pub blob : Blob
  pub found : get store piece.extent.off ≡ Some blob
  pub is : extent_of (piece.extent.off, blob) ≡ piece.extent
  pub history : piece.history ≡ (asked && has_flags store)
  pub apart : IsApart store

-- one of the pieces has this extent
abbrev pub HasExtent : List Piece → Extent → Type 0
HasExtent pieces extent = (piece : Piece) × Contains pieces piece × (piece.extent ≡ extent)

-- they are the blobs of the stores at the first places, so many
pub record AreGathered (maps : List HeldMap) (asked : Bool) (count : ℕ) (pieces : List Piece) : Type 0 where
  pub each : (piece : Piece) → Contains pieces piece → IsPiece maps asked piece
  pub all : (off : ℕ) (blob : Blob) → IsInPart (take count maps) off blob → HasExtent pieces (extent_of (off, blob))

-- each begins where the one before it ends, or behind
abbrev pub IsRow : ℕ → List Piece → Type 0
IsRow from [] = Unit {0}
IsRow from (piece ∷ pieces) = (from ≤ piece.extent.off) × IsRow piece.extent.fin pieces

-- one piece for each extent, in a row
pub record AreOnce (pieces kept : List Piece) : Type 0 where
  pub row : IsRow 0 kept
  pub each : (piece : Piece) → Contains kept piece → Contains pieces piece
  pub all : (piece : Piece) → Contains pieces piece → HasExtent kept piece.extent

-- where the list isn't empty, this holds of its last element
abbrev pub IfLast : (Piece → Type 0) → List Piece → Type 0
IfLast P [] = Unit {0}
IfLast P (piece ∷ []) = P piece
IfLast P (piece ∷ next ∷ pieces) = IfLast P (next ∷ pieces)

-- the piece goes behind the last one, or has that one's extent
abbrev pub IsNext : Piece → List Piece → List Piece → Type 0
IsNext piece old new =
    ((new ≡ old) × HasExtent old piece.extent) ⊎ ((new ≡ old ++ piece ∷ []) × IfLast (λ last. last.extent.fin ≤ piece.extent.off) old)

-- the last of the pieces before is in this one's way
abbrev pub IsInTheWay : Piece → List Piece → PartsFault → Type 0
IsInTheWay piece old (Interleaved off) = ⊥
IsInTheWay piece old (Refused Differs off) = (last : Piece) × Contains old last × (piece.extent.off ≡ off) × (last.extent.off ≡ off) × ¬ (last.extent ≡ piece.extent)
IsInTheWay piece old (Refused Overlap off) = (last : Piece) × Contains old last × (piece.extent.off ≡ off) × (last.extent.off ≢ off) × (off < last.extent.fin)
IsInTheWay piece old (Store fault) = fault ≡ Memory

-- two of the pieces are in each other's way
abbrev pub IsAmong : List Piece → PartsFault → Type 0
IsAmong pieces (Interleaved off) = ⊥
IsAmong pieces (Refused Differs off) = (one : Piece) × (other : Piece) × Contains pieces one × Contains pieces other × (one.extent.off ≡ off) × (other.extent.off ≡ off) × ¬ (other.extent ≡ one.extent)
IsAmong pieces (Refused Overlap off) = (one : Piece) × (other : Piece) × Contains pieces one × Contains pieces other × (one.extent.off ≡ off) × (other.extent.off < off) × (off < other.extent.fin)
IsAmong pieces (Store fault) = fault ≡ Memory
