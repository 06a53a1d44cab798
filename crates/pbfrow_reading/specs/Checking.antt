-- What the command `check` prints: a line for each bad blob, one for what ended the frames early, and the counts.
use Rattle.std.specs.Prelude.{◌≡◌, ◌≢◌, ℕ, ◌+◌, ◌-◌, ◌^◌, min, Bool, true, false, ◌&&◌, List, [], ◌∷◌, ◌++◌, length, codes, Ok, Err, is_err}
use Rattle.std.specs.List.{count_by, flat_map}
use Rattle.std.specs.Fmt.{decimal}
use Rattle.osm_value.specs.declared.element.Element.{Element}
use Rattle.osm_value.specs.declared.element.Element.TheVariants.{Node, Way, Relation}
use Rattle.osm_value.specs.Sink.{Wrote}
use Rattle.osm_reading.specs.Framings.{Known}
use Rattle.osm_reading.specs.Faults.{number_of, name_of}
use Rattle.osm_reading.specs.Lines.{fault_line}
use Rattle.osm_reading.specs.declared.stream.fault.Stop.{Stop}
use Rattle.osm_reading.specs.declared.stream.fault.Stop.TheVariants.{Frame, NoHeaderFirst}
use Rattle.pbfrow_reading.specs.CommandLines.{stop_line}
use Rattle.pbfrow_reading.specs.Verdicts.{Verdict, Judged, HasVerdict, all_good}
use Rattle.pbfrow_reading.specs.Walks.{joined, lines_from, AreFound, ReadsFrames, is_whole, status_of}
use Rattle.pbfrow_reading.specs.declared.check.Counts.{Counts}
use Rattle.pbfrow_reading.specs.declared.input.Ending.{Ending}
use Rattle.pbfrow_reading.specs.declared.input.Ending.TheVariants.{Whole, Early, Unwritten}

-- a bad blob's line; a good one has none
abbrev pub bad_line : ℕ → Verdict → List ℕ
bad_line at (Ok content) = []
bad_line at (Err fault) = fault_line (number_of fault) (name_of fault) at

abbrev pub checked_line : ℕ → Judged → List ℕ
checked_line at p = bad_line at p.found

-- ---- the counts

abbrev pub is_node : Element → Bool
is_node (Node node) = true
is_node _ = false

abbrev pub is_way : Element → Bool
is_way (Way way) = true
is_way _ = false

abbrev pub is_relation : Element → Bool
is_relation (Relation relation) = true
is_relation _ = false

-- a count stops at 2^64 - 1
abbrev pub capped : ℕ → ℕ
capped n = min n (2 ^ 64 - 1)

-- so many blobs, these elements, and so many faults
abbrev pub tally : ℕ → List Element → ℕ → Counts
tally blobs elements faults = record {
  blobs = capped blobs;
  nodes = capped (count_by is_node elements);
  ways = capped (count_by is_way elements);
  relations = capped (count_by is_relation elements);
  faults = capped faults;
}

-- the elements of a good blob
abbrev pub elements_in : Verdict → List Element
elements_in (Ok content) = content.elements
elements_in (Err fault) = []

-- those of blobs, beside which there were so many more faults
abbrev pub counts_of : List Judged → ℕ → Counts
counts_of blobs more = tally (length blobs) (flat_map (λ p. elements_in p.found) blobs) (count_by (λ p. is_err p.found) blobs + more)

abbrev pub totals_line : Counts → List ℕ
totals_line c = codes "blobs " ++ decimal c.blobs ++ codes " nodes " ++ decimal c.nodes ++ codes " ways " ++ decimal c.ways
    ++ codes " relations " ++ decimal c.relations ++ codes " faults " ++ decimal c.faults ++ codes "\n"

-- ---- what stands behind the lines of the blobs

-- the counts where a frame has a fault, which is one more; none where a read failed or memory was refused
abbrev pub counts_behind : List Judged → Stop → List ℕ
counts_behind blobs (Frame fault) = totals_line (counts_of blobs 1)
counts_behind blobs _ = []

-- the counts where the input has ended; one with no blob lacks its header, which is a fault
abbrev pub counts_at_end : List Judged → List ℕ
counts_at_end [] = stop_line NoHeaderFirst 0 ++ totals_line (counts_of [] 1)
counts_at_end (p ∷ blobs) = totals_line (counts_of (p ∷ blobs) 0)

abbrev pub check_end : Ending → List Judged → List ℕ
check_end Whole blobs = counts_at_end blobs
check_end (Early stop) blobs = stop_line stop.fault stop.at ++ counts_behind blobs stop.fault
check_end Unwritten blobs = []

-- at least one, and all are good
abbrev pub some_good : List Judged → Bool
some_good [] = false
some_good (p ∷ blobs) = all_good (p ∷ blobs)

-- What `check` has done: the input begins with these frames, each good or bad, and they ended so; each bad one has its
-- line, and behind these stands what ended them and the counts.
pub record ChecksInput (left written_old written_new : Known) (sink_failed : Bool) (status : ℕ) : Type 0 where
  pub blobs : List Judged
  pub ending : Ending
  pub walked : ReadsFrames HasVerdict left sink_failed blobs ending
  pub text : Wrote written_old (lines_from checked_line 0 blobs ++ check_end ending blobs) written_new sink_failed
  pub status_is : status ≡ status_of (is_whole ending && some_good blobs) sink_failed

-- The bytes are blobs, at least one, and all are good; the text has their counts.
pub record Passes (bytes text : List ℕ) : Type 0 where
  pub blobs : List Judged
  pub some : blobs ≢ []
  pub found : AreFound HasVerdict 0 blobs
  pub good : all_good blobs ≡ true
  pub tiled : bytes ≡ joined blobs
  pub counted : text ≡ totals_line (counts_of blobs 0)
