-- A file as the frames that it joins (fileformat.proto, "The file contains a sequence of fileblocks").
use Rattle.std.specs.Prelude.{◌≡◌, ◌≢◌, ◌⊎◌, ℕ, ◌+◌, List, [], ◌∷◌, ◌++◌, length, Some}
use Rattle.std.specs.FinMap.{get}
use Rattle.osm_reading.specs.Good.{IsFrame}
use Rattle.osm_rows.specs.Held.{Blob, HeldMap}
use Rattle.osm_import.specs.Deliveries.{DeliveryValue}
use Rattle.osm_import.specs.Step.{IsEntry}

-- each is one whole frame
abbrev pub AreFrames : List (List ℕ) → Type 0
AreFrames [] = Unit {0}
AreFrames (frame ∷ frames) = IsFrame frame × AreFrames frames

-- the frames, one after the other
abbrev pub joined : List (List ℕ) → List ℕ
joined [] = []
joined (frame ∷ frames) = frame ++ joined frames

-- the file is the joining of these frames, at least one
pub record IsFile (file : List ℕ) (frames : List (List ℕ)) : Type 0 where
  pub some : frames ≢ []
  pub whole : AreFrames frames
  pub is_joined : file ≡ joined frames

-- of frames that stand from start on, this is the one at off
abbrev pub StandsAt : ℕ → List (List ℕ) → ℕ → List ℕ → Type 0
StandsAt start [] off frame = ⊥
StandsAt start (first ∷ rest) off frame = ((off ≡ start) × (frame ≡ first)) ⊎ StandsAt (start + length first) rest off frame

-- this is the frame of the file at off
abbrev pub IsFrameAt : List (List ℕ) → ℕ → List ℕ → Type 0
IsFrameAt frames off frame = StandsAt 0 frames off frame

-- each delivery is the frame of the file at its offset
abbrev pub AreOfFile : List (List ℕ) → List DeliveryValue → Type 0
AreOfFile frames [] = Unit {0}
AreOfFile frames (delivery ∷ deliveries) = IsFrameAt frames delivery.off delivery.bytes × AreOfFile frames deliveries

-- what is held is the entry of a good frame of the file at its offset
abbrev pub IsHeldOfFile : List (List ℕ) → HeldMap → Type 0
IsHeldOfFile frames held = (off : ℕ) (blob : Blob) → get held off ≡ Some blob → (frame : List ℕ) × IsFrameAt frames off frame × IsEntry off frame blob
