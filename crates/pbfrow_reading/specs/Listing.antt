-- What `list` prints: a line `OFFSET TYPE DATASIZE` for each frame, and one for the fault that ends them.
use Rattle.std.specs.Prelude.{◌≡◌, ℕ, ◌/◌, ◌%◌, ◌<◌, nat_lt, ◌==◌, ◌||◌, Bool, true, false, List, [], ◌∷◌, ◌++◌, length, codes, if◌then◌else◌}
use Rattle.std.specs.List.{AllByRecursion, flat_map}
use Rattle.std.specs.Fmt.{decimal}
use Rattle.osm_value.specs.Escape.{hex_digit}
use Rattle.osm_value.specs.Sink.{Wrote}
use Rattle.pbf_frame.specs.declared.fault.FrameFault.{FrameFault}
use Rattle.pbf_frame.specs.Fault.{number_of, name_of}
use Rattle.pbf_frame.specs.Frame.{FirstFault}
use Rattle.osm_reading.specs.Framings.{Known}
use Rattle.osm_reading.specs.Lines.{fault_line}
use Rattle.pbfrow_reading.specs.Walks.{Part, IsWholeFrame, joined, lines_from, ReadsFrames, is_whole, ending_line, status_of}
use Rattle.pbfrow_reading.specs.declared.input.Ending.{Ending}

-- A byte of a type: as it stands, or as `%` and two upper-case hexadecimal digits.
abbrev pub byte_text : ℕ → List ℕ
byte_text b = if nat_lt b 33 || nat_lt 126 b || (b == 37) then 37 ∷ hex_digit (b / 16) ∷ hex_digit (b % 16) ∷ [] else b ∷ []

-- The line of a frame at an offset: its offset, its type and its blob's length.
abbrev pub frame_line : ℕ → List ℕ → List ℕ → List ℕ
frame_line at type blob = decimal at ++ codes " " ++ flat_map byte_text type ++ codes " " ++ decimal (length blob) ++ codes "\n"

-- A frame in which nothing is looked for.
abbrev pub Plain : Type 0
Plain = Part (Unit {0})

abbrev pub HasAny : ℕ → Plain → Type 0
HasAny at p = Unit {0}

abbrev pub listed_line : ℕ → Plain → List ℕ
listed_line at p = frame_line at p.type_name p.blob

-- How the frames of a file end: whole, with no byte left and no line, or by the first fault of what is left, with its line.
abbrev pub EndsAs : Bool → ℕ → List ℕ → List ℕ → Type 0
EndsAs true at rest line = (rest ≡ []) × (line ≡ [])
EndsAs false at rest line = (fault : FrameFault) × FirstFault fault rest × (0 < length rest) × (line ≡ fault_line (number_of fault) (name_of fault) at)

-- The bytes are frames and what ends them; the text has a line for each frame, and the fault's line.
pub record Lists (whole : Bool) (bytes text : List ℕ) : Type 0 where
  pub frames : List Plain
  pub rest : List ℕ
  pub line : List ℕ
  pub are_frames : AllByRecursion IsWholeFrame frames
  pub tiled : bytes ≡ joined frames ++ rest
  pub ends : EndsAs whole (length (joined frames)) rest line
  pub lines : text ≡ lines_from listed_line 0 frames ++ line

-- What `list` has done: the input begins with these frames, and they ended so; each has its line, and behind these stands
-- that of what ended them early.
pub record ListsInput (left written_old written_new : Known) (sink_failed : Bool) (status : ℕ) : Type 0 where
  pub frames : List Plain
  pub ending : Ending
  pub walked : ReadsFrames HasAny left sink_failed frames ending
  pub text : Wrote written_old (lines_from listed_line 0 frames ++ ending_line ending) written_new sink_failed
  pub status_is : status ≡ status_of (is_whole ending) sink_failed
