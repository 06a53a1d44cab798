-- A walk over the frames of an input: which there are, what was found in each, and how they ended.
use Rattle.std.specs.Prelude.{◌≡◌, ℕ, ◌+◌, Bool, true, false, ◌&&◌, not, List, [], ◌∷◌, ◌++◌, length, if◌then◌else◌}
use Rattle.std.specs.List.{flat_map}
use Rattle.std.specs.Io.KnownBytes.{Consumes, IsAtEnd}
use Rattle.osm_value.specs.Sink.{Wrote}
use Rattle.pbf_frame.specs.Frame.{Frame}
use Rattle.osm_reading.specs.Framings.{Known}
use Rattle.osm_reading.specs.FrameReads.{LacksFrame, framing_of}
use Rattle.pbfrow_reading.specs.CommandLines.{stop_line}
use Rattle.pbfrow_reading.specs.declared.input.Ending.{Ending}
use Rattle.pbfrow_reading.specs.declared.input.Ending.TheVariants.{Whole, Early, Unwritten}

-- A frame: its type, its blob and all its bytes; and what was found in it.
pub record Part (A : Type 0) : Type 0 where
  pub type_name : List ℕ
  pub blob : List ℕ
  pub bytes : List ℕ
  pub found : A

abbrev pub IsWholeFrame : {A : Type 0} → Part A → Type 0
IsWholeFrame p = Frame p.type_name p.blob p.bytes

-- the bytes of frames that stand one behind the other
abbrev pub joined : {A : Type 0} → List (Part A) → List ℕ
joined ps = flat_map (λ p. p.bytes) ps

-- the lines of such frames, the first at an offset
abbrev pub lines_from : {A : Type 0} → (ℕ → Part A → List ℕ) → ℕ → List (Part A) → List ℕ
lines_from line at [] = []
lines_from line at (p ∷ ps) = line at p ++ lines_from line (at + length p.bytes) ps

-- each is whole, and what was found is in it where it stands
abbrev pub AreFound : {A : Type 0} → (ℕ → Part A → Type 0) → ℕ → List (Part A) → Type 0
AreFound Has at [] = Unit {0}
AreFound Has at (p ∷ ps) = IsWholeFrame p × Has at p × AreFound Has (at + length p.bytes) ps

-- How frames end behind which the next would stand at this offset: with the input; early, since that one can't be read;
-- or where the output has failed, and no more was read.
abbrev pub HasEnded : ℕ → Known → Bool → Ending → Type 0
HasEnded at left sink_failed Whole = IsAtEnd left
HasEnded at left sink_failed (Early stop) = (stop.at ≡ at) × ((got : List ℕ) × (behind : Known) × (source_failed : Bool) × Consumes left behind got
    × LacksFrame (framing_of at got) behind source_failed stop.fault)
HasEnded at left sink_failed Unwritten = sink_failed ≡ true

-- The input begins with these frames, this was found in each, and they ended so.
pub record ReadsFrames {A : Type 0} (Has : ℕ → Part A → Type 0) (left : Known) (sink_failed : Bool) (frames : List (Part A)) (ending : Ending) : Type 0 where
  pub found : AreFound Has 0 frames
  pub behind : Known
  pub read : Consumes left behind (joined frames)
  pub ended : HasEnded (length (joined frames)) behind sink_failed ending

-- The frames so walked over, with their lines, of which the output has a front where it has failed.
pub record TellsFrames {A : Type 0} (Has : ℕ → Part A → Type 0) (line : ℕ → Part A → List ℕ) (left written_old written_new : Known) (sink_failed : Bool) (frames : List (Part A)) (ending : Ending) : Type 0 where
  pub walked : ReadsFrames Has left sink_failed frames ending
  pub lines : Wrote written_old (lines_from line 0 frames) written_new sink_failed

abbrev pub is_whole : Ending → Bool
is_whole Whole = true
is_whole (Early stop) = false
is_whole Unwritten = false

-- the line of what ended the frames early
abbrev pub ending_line : Ending → List ℕ
ending_line Whole = []
ending_line (Early stop) = stop_line stop.fault stop.at
ending_line Unwritten = []

-- 0 where all is well and the output hasn't failed
abbrev pub status_of : Bool → Bool → ℕ
status_of is_well sink_failed = if is_well && not sink_failed then 0 else 1
