-- What `ranges` prints: a line `FROM TO` for each range that a file is cut into, or one for the fault that ends its frames.
use Rattle.std.specs.Prelude.{◌≡◌, ℕ, ◌+◌, Bool, List, [], ◌∷◌, ◌++◌, length, codes}
use Rattle.std.specs.List.{AllByRecursion, flat_map}
use Rattle.std.specs.Fmt.{decimal}
use Rattle.osm_value.specs.Sink.{Wrote}
use Rattle.osm_reading.specs.Framings.{Known}
use Rattle.pbf_frame.specs.Cutting.{AreRanges}
use Rattle.pbf_frame.specs.declared.ranges.Range.{Range}
use Rattle.pbfrow_reading.specs.Listing.{HasAny, Plain}
use Rattle.pbfrow_reading.specs.Walks.{Part, IsWholeFrame, joined, ReadsFrames, is_whole, ending_line, status_of}
use Rattle.pbfrow_reading.specs.declared.input.Ending.{Ending}
use Rattle.pbfrow_reading.specs.declared.input.Ending.TheVariants.{Whole, Early, Unwritten}

abbrev pub range_line : Range → List ℕ
range_line range = decimal range.from ++ codes " " ++ decimal range.to ++ codes "\n"

-- a line `FROM TO` for each range
abbrev pub range_lines : List Range → List ℕ
range_lines ranges = flat_map range_line ranges

-- the ends of frames that stand one behind the other, the first at an offset
abbrev pub ends_from : {A : Type 0} → ℕ → List (Part A) → List ℕ
ends_from at [] = []
ends_from at (p ∷ ps) = (at + length p.bytes) ∷ ends_from (at + length p.bytes) ps

-- the bytes are frames, and these ranges are cut of them
abbrev pub Cuts : ℕ → List ℕ → List Range → Type 0
Cuts count bytes ranges = (frames : List Plain) × AllByRecursion IsWholeFrame frames × (bytes ≡ joined frames) × AreRanges (ends_from 0 frames) count ranges

-- where frames ended with the input, the ranges are cut of them, and else there are none
abbrev pub AreCut : ℕ → List Plain → Ending → List Range → Type 0
AreCut count frames Whole ranges = AreRanges (ends_from 0 frames) count ranges
AreCut count frames (Early stop) ranges = ranges ≡ []
AreCut count frames Unwritten ranges = ranges ≡ []

-- What `ranges` has done: the input begins with these frames, and they ended so; the ranges cut of them have their lines,
-- or what ended the frames early has its.
pub record CutsInput (count : ℕ) (left written_old written_new : Known) (sink_failed : Bool) (status : ℕ) : Type 0 where
  pub frames : List Plain
  pub ending : Ending
  pub ranges : List Range
  pub walked : ReadsFrames HasAny left sink_failed frames ending
  pub cut : AreCut count frames ending ranges
  pub text : Wrote written_old (range_lines ranges ++ ending_line ending) written_new sink_failed
  pub status_is : status ≡ status_of (is_whole ending) sink_failed
