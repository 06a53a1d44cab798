-- Several maps united in one.
use Rattle.std.specs.Prelude.{◌≡◌, ◌⊎◌, ◌↔◌, ℕ, zero, suc, ◌+◌, List, [], ◌∷◌, ◌++◌, length, Some}
use Rattle.std.specs.FinMap.{get, empty}
use Rattle.osm_rows.specs.Held.{Blob, HeldMap}
use Rattle.osm_import.specs.Copies.{IsUnited, IsUnitedBelow, IsRefused}
use Rattle.osm_import.specs.Deliveries.{DeliveryValue}
use Rattle.osm_import.specs.Files.{AreFrames, AreOfFile, IsHeldOfFile, joined}
use Rattle.osm_import.specs.Histories.{IsAmong}
use Rattle.osm_import.specs.Runs.{IsRun, Runs, IsFault, IsNone, IsGoodIn}
use Rattle.osm_import.specs.declared.answer.Answer.{Answer}
use Rattle.osm_import.specs.declared.answer.Conflict.{Conflict}

-- the sources were united with it, one after the other
abbrev pub AreUnited : List HeldMap → HeldMap → HeldMap → Type 0
AreUnited [] held after = after ≡ held
AreUnited (source ∷ sources) held after = (next : HeldMap) × IsUnited source held next × AreUnited sources next after

-- A front of them was: all blobs of the first ones, and those of the next below some offset.
abbrev pub IsFrontUnited : List HeldMap → HeldMap → HeldMap → Type 0
IsFrontUnited [] held after = after ≡ held
IsFrontUnited (source ∷ sources) held after = ((below : ℕ) × IsUnitedBelow below source held after) ⊎ ((next : HeldMap) × IsUnited source held next × IsFrontUnited sources next after)

-- Those in front of the one at a place were, and of that one the blobs below an offset, where the next is refused.
abbrev pub IsUnionRefused : List HeldMap → ℕ → ℕ → Conflict → HeldMap → HeldMap → Type 0
IsUnionRefused [] place off conflict held after = ⊥
IsUnionRefused (source ∷ sources) zero off conflict held after = IsUnitedBelow off source held after × IsRefused source after off conflict
IsUnionRefused (source ∷ sources) (suc place) off conflict held after = (next : HeldMap) × IsUnited source held next × IsUnionRefused sources place off conflict next after

-- all good deliveries of the list are held, and nothing else: what an import of them to a new store comes to
abbrev pub IsImported : List DeliveryValue → HeldMap → Type 0
IsImported deliveries held = (off : ℕ) (blob : Blob) → (get held off ≡ Some blob) ↔ IsGoodIn deliveries off blob

-- each source is what the import of a part comes to
abbrev pub AreImported : List (List DeliveryValue) → List HeldMap → Type 0
AreImported [] [] = Unit {0}
AreImported [] (source ∷ sources) = ⊥
AreImported (part ∷ parts) [] = ⊥
AreImported (part ∷ parts) (source ∷ sources) = IsImported part source × AreImported parts sources

-- the deliveries of all parts
abbrev pub all_of : List (List DeliveryValue) → List DeliveryValue
all_of [] = []
all_of (part ∷ parts) = part ++ all_of parts

-- However the deliveries of a file were parted, and whatever part of them came more than once: the maps of the parts,
-- united in any order, are the one map that an import of all of them comes to.
abbrev pub UnionsAreImports : Type 0
UnionsAreImports = (frames : List (List ℕ)) (parts : List (List DeliveryValue)) (sources : List HeldMap) (after : HeldMap) (deliveries : List DeliveryValue) (one : HeldMap)
    → AreFrames frames → AreOfFile frames (all_of parts) → AreImported parts sources → AreUnited sources empty after
    → ((delivery : DeliveryValue) → IsAmong deliveries delivery ↔ IsAmong (all_of parts) delivery) → IsImported deliveries one → after ≡ one

-- what is held of one file is never in the way of a blob of that file
abbrev pub UnionsAreUnrefused : Type 0
UnionsAreUnrefused = (frames : List (List ℕ)) (source held after : HeldMap) (place off : ℕ) (conflict : Conflict) → AreFrames frames → IsHeldOfFile frames source → IsHeldOfFile frames held
    → IsUnitedBelow place source held after → ¬ (IsRefused source after off conflict)

-- a second union with the same map changes nothing
abbrev pub UnionsStay : Type 0
UnionsStay = (source held after again : HeldMap) → IsUnited source held after → IsUnited source after again → again ≡ after

-- a second union isn't refused either
abbrev pub UnionsAreTakenAgain : Type 0
UnionsAreTakenAgain = (source held after again : HeldMap) (place off : ℕ) (conflict : Conflict) → IsUnited source held after → IsUnitedBelow place source after again → ¬ (IsRefused source again off conflict)

-- ---- a file in parts

-- frames as deliveries, one behind the other from this offset on
abbrev pub placed_from : ℕ → List (List ℕ) → List DeliveryValue
placed_from start [] = []
placed_from start (frame ∷ frames) = record { off = start; bytes = frame } ∷ placed_from (start + length frame) frames

-- the frames of all parts, in order
abbrev pub frames_in : List (List (List ℕ)) → List (List ℕ)
frames_in [] = []
frames_in (part ∷ parts) = part ++ frames_in parts

-- each source is what a new store holds after a run of the frames of one part, at their offsets in the whole, without a fault
abbrev pub AreRuns : ℕ → List (List (List ℕ)) → List HeldMap → Type 0
AreRuns start [] [] = Unit {0}
AreRuns start [] (source ∷ sources) = ⊥
AreRuns start (part ∷ parts) [] = ⊥
AreRuns start (part ∷ parts) (source ∷ sources) =
    ((answers : List Answer) × IsRun empty (placed_from start part) answers source × IsNone IsFault answers) × AreRuns (start + length (joined part)) parts sources

-- The parts of a file, each imported into a store of its own and then united, are what one run over the whole file comes to.
abbrev pub PartsAreOneImport : Type 0
PartsAreOneImport = (parts : List (List (List ℕ))) (sources : List HeldMap) (after one : HeldMap) (answers : List Answer) → AreFrames (frames_in parts) → AreRuns 0 parts sources
    → AreUnited sources empty after → IsRun empty (placed_from 0 (frames_in parts)) answers one → IsNone IsFault answers → after ≡ one

-- A stream to a new store that ended well is a part: its bytes are the joining of frames, and what is held is what a run
-- of them left, each at its offset, without a fault.
abbrev pub ImportsPart : (HeldMap → Type 0) → ℕ → List ℕ → Type 0
ImportsPart holds from piece = (frames : List (List ℕ)) × AreFrames frames × (piece ≡ joined frames)
    × (answers : List Answer) × IsNone IsFault answers × Runs holds empty (placed_from from frames) answers
