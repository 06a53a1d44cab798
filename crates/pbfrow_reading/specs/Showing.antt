-- What the command `show` prints: a line for each blob, behind it the lines of its header, its elements or its fault, and
-- one for what ended the frames early.
use Rattle.std.specs.Prelude.{◌≡◌, ℕ, ℤ, Bool, ◌&&◌, List, [], ◌++◌, length, codes, Option, Some, None, Ok, Err}
use Rattle.std.specs.List.{flat_map}
use Rattle.std.specs.Fmt.{decimal, signed_decimal}
use Rattle.std.specs.Io.KnownBytes.{Consumes}
use Rattle.osm_value.specs.declared.element.Element.{Element}
use Rattle.osm_value.specs.Escape.{escaped}
use Rattle.osm_value.specs.Line.{line}
use Rattle.osm_value.specs.Sink.{Wrote}
use Rattle.osm_value.specs.Value.{Text}
use Rattle.osm_block.specs.HeaderBlock.{HeaderValue}
use Rattle.osm_block.specs.declared.header.BBox.{BBox}
use Rattle.osm_reading.specs.Framings.{Known}
use Rattle.osm_reading.specs.declared.stream.fault.Stop.TheVariants.{Memory}
use Rattle.pbfrow_reading.specs.Checking.{bad_line}
use Rattle.pbfrow_reading.specs.Listing.{Plain, byte_text}
use Rattle.pbfrow_reading.specs.Verdicts.{Verdict, Judged, HasVerdict, all_good}
use Rattle.pbfrow_reading.specs.Walks.{IsWholeFrame, joined, lines_from, ReadsFrames, is_whole, ending_line, status_of}
use Rattle.pbfrow_reading.specs.declared.input.Ending.{Ending}
use Rattle.pbfrow_reading.specs.declared.input.Ending.TheVariants.{Early}

-- its offset, its type and how many bytes the frame has
abbrev pub blob_line : ℕ → List ℕ → ℕ → List ℕ
blob_line at type len = codes "blob " ++ decimal at ++ codes " " ++ flat_map byte_text type ++ codes " " ++ decimal len ++ codes "\n"

-- ---- the lines of a header, each where its field is there

abbrev pub of_option : {A : Type 0} → (A → List ℕ) → Option A → List ℕ
of_option text None = []
of_option text (Some x) = text x

abbrev pub box_line : BBox → List ℕ
box_line b = codes "bbox " ++ signed_decimal b.left ++ codes " " ++ signed_decimal b.right ++ codes " " ++ signed_decimal b.top ++ codes " " ++ signed_decimal b.bottom ++ codes "\n"

abbrev pub text_line : List ℕ → Text → List ℕ
text_line label text = label ++ escaped text ++ codes "\n"

abbrev pub number_line : List ℕ → ℤ → List ℕ
number_line label number = label ++ signed_decimal number ++ codes "\n"

abbrev pub header_lines : HeaderValue → List ℕ
header_lines h = of_option box_line h.bbox
    ++ flat_map (text_line (codes "required ")) h.required
    ++ flat_map (text_line (codes "optional ")) h.optional
    ++ of_option (text_line (codes "program ")) h.program
    ++ of_option (text_line (codes "source ")) h.source
    ++ of_option (number_line (codes "replication-timestamp ")) h.timestamp
    ++ of_option (number_line (codes "replication-sequence ")) h.sequence
    ++ of_option (text_line (codes "replication-url ")) h.url

-- ---- the lines of a blob

-- those of a header block, or of elements where there is none
abbrev pub content_lines : Option HeaderValue → List Element → List ℕ
content_lines (Some header) elements = header_lines header
content_lines None elements = flat_map line elements

abbrev pub verdict_lines : ℕ → Verdict → List ℕ
verdict_lines at (Ok content) = content_lines content.header content.elements
verdict_lines at (Err fault) = bad_line at (Err fault)

abbrev pub shown_lines : ℕ → Judged → List ℕ
shown_lines at p = blob_line at p.type_name (length p.bytes) ++ verdict_lines at p.found

-- ---- the whole

-- Memory was refused for what is in the next frame, which ended the frames.
abbrev pub IsBegun : ℕ → Known → Ending → Option Plain → Type 0
IsBegun at left ending None = Unit {0}
IsBegun at left ending (Some p) = IsWholeFrame p × ((behind : Known) × Consumes left behind p.bytes) × (ending ≡ Early (record { fault = Memory; at = at }))

abbrev pub begun_line : ℕ → Option Plain → List ℕ
begun_line at begun = of_option (λ p. blob_line at p.type_name (length p.bytes)) begun

-- The input begins with these frames, each good or bad, and they ended so; each has its lines, and one for whose content
-- memory was refused has its first.
pub record ShowsBlobs (left written_old written_new : Known) (sink_failed : Bool) (blobs : List Judged) (begun : Option Plain) (ending : Ending) : Type 0 where
  pub walked : ReadsFrames HasVerdict left sink_failed blobs ending
  pub next : IsBegun (length (joined blobs)) walked.behind ending begun
  pub lines : Wrote written_old (lines_from shown_lines 0 blobs ++ begun_line (length (joined blobs)) begun) written_new sink_failed

-- What `show` has done: each blob with the lines of its header, its elements or its fault, and the line of what ended the frames early.
pub record ShowsInput (left written_old written_new : Known) (sink_failed : Bool) (status : ℕ) : Type 0 where
  pub blobs : List Judged
  pub begun : Option Plain
  pub ending : Ending
  pub walked : ReadsFrames HasVerdict left sink_failed blobs ending
  pub next : IsBegun (length (joined blobs)) walked.behind ending begun
  pub text : Wrote written_old ((lines_from shown_lines 0 blobs ++ begun_line (length (joined blobs)) begun) ++ ending_line ending) written_new sink_failed
  pub status_is : status ≡ status_of (is_whole ending && all_good blobs) sink_failed
