-- Stores that were read as one map, run by run.
use Rattle.std.specs.Prelude.{◌≡◌, ℕ, ◌+◌, Bool, ◌&&◌, List, [], ◌∷◌, ◌++◌, Some, slice_get}
use Rattle.std.specs.FinMap.{get}
use Rattle.osm_rows.specs.Flags.{has_flags}
use Rattle.osm_rows.specs.Held.{Blob, HeldMap, IsApart}
use Rattle.osm_rows.specs.Keeping.{extents_of}
use Rattle.osm_rows.specs.declared.keeper.Extent.{Extent}
use Rattle.osm_parts.specs.Parts.{FollowFrom}
use Rattle.osm_import.specs.Walks.{IsWithin}
use Rattle.osm_parts.specs.Unions.{AreCovered}
use Rattle.osm_parts.specs.declared.runs.Part.{Part}

-- what is read of the store at a place that holds this map
pub record IsReadOf (asked : Bool) (place : ℕ) (held : HeldMap) (part : Part) : Type 0 where
  pub placed : part.place ≡ place
  pub extents : part.extents.items ≡ extents_of held
  pub history : part.history ≡ (asked && has_flags held)

-- what is read of each of the stores that hold these maps, which stand at the places from this one on
abbrev pub AreStores : Bool → ℕ → List HeldMap → List Part → Type 0
AreStores asked place [] [] = Unit {0}
AreStores asked place [] (part ∷ parts) = ⊥
AreStores asked place (held ∷ maps) [] = ⊥
AreStores asked place (held ∷ maps) (part ∷ parts) = IsReadOf asked place held part × IsApart held × AreStores asked (place + 1) maps parts

-- The part is a run of the store at its place: a map of some of its blobs, at least one, with their extents. Whether an
-- element of that store has a flag of visibility is told where that is asked.
pub record IsPart (maps : List HeldMap) (asked : Bool) (part : Part) (run : HeldMap) : Type 0 where
  pub store : HeldMap
  pub at : slice_get maps part.place ≡ Some store
  pub within : IsWithin run store
  pub extents : part.extents.items ≡ extents_of run
  pub history : part.history ≡ (asked && has_flags store)
  pub filled : (off : ℕ) × (blob : Blob) × (get run off ≡ Some blob)
  pub apart : IsApart run

-- each of them, in order
abbrev pub AreEach : List HeldMap → Bool → List Part → List HeldMap → Type 0
AreEach maps asked [] [] = Unit {0}
AreEach maps asked [] (run ∷ ordered) = ⊥
AreEach maps asked (part ∷ parts) [] = ⊥
AreEach maps asked (part ∷ parts) (run ∷ ordered) = IsPart maps asked part run × AreEach maps asked parts ordered

-- The parts are runs that follow one another, and each blob of the maps is in one of them: it, or one of the same extent.
pub record AreRead (maps : List HeldMap) (asked : Bool) (parts : List Part) : Type 0 where
  pub ordered : List HeldMap
  pub each : AreEach maps asked parts ordered
  pub follow : FollowFrom 0 ordered
  pub all : AreCovered maps ordered

-- the extents of the parts, one part after the other
abbrev pub joined_extents : List Part → List Extent
joined_extents [] = []
joined_extents (part ∷ parts) = part.extents.items ++ joined_extents parts
