-- The lines of a blob, and what `show` has done.
use Rattle.std.proofs.Common.{◌≡◌, ℕ, ℤ, ◌&&◌, Bool, true, false, List, [], ◌∷◌, ◌++◌, length, Option, Some, None, refl, sym, ap, subst, ◌∙◌, append_assoc, append-nil}
use Rattle.std.specs.Prelude.{codes, is_ok}
use Rattle.std.specs.List.{flat_map}
use Rattle.std.specs.Io.KnownBytes.{Consumes}
use Rattle.osm_value.specs.Sink.{Writes}
use Rattle.osm_value.specs.Value.{Text}
use Rattle.osm_value.proofs.SinkLemmas.{Wrote-text}
use Rattle.osm_block.specs.HeaderBlock.{HeaderValue}
use Rattle.osm_block.specs.declared.header.BBox.{BBox}
use Rattle.osm_reading.specs.Framings.{Known}
use Rattle.osm_reading.specs.FrameReads.{Reading, GivesFrame}
use Rattle.pbfrow_reading.specs.Listing.{Plain}
use Rattle.pbfrow_reading.specs.Showing.{ShowsBlobs, ShowsInput, begun_line, blob_line, box_line, header_lines, number_line, of_option, shown_lines, text_line}
use Rattle.pbfrow_reading.specs.Verdicts.{Judged, HasVerdict, all_good}
use Rattle.pbfrow_reading.specs.Walks.{IsWholeFrame, joined, lines_from, TellsFrames, ending_line, is_whole, status_of}
use Rattle.pbfrow_reading.specs.declared.input.Ending.{Ending}
use Rattle.pbfrow_reading.specs.declared.input.Ending.TheVariants.{Early, Unwritten}
use Rattle.pbfrow_reading.proofs.CommandTexts.{eight}
use Rattle.pbfrow_reading.proofs.Walking.{Going, refused, walks-on, walks-refused}

-- ---- fields that are there or not

pub no_text : {A : Type 0} (text : A → List ℕ) (before : List ℕ) (o : Option A) → o ≡ None → before ≡ before ++ of_option text o
no_text text before o none = sym (append-nil before) ∙ ap (λ x. before ++ of_option text x) (sym none)

pub some_text : {A : Type 0} (text : A → List ℕ) (before written : List ℕ) (o : Option A) (x : A) → o ≡ Some x → written ≡ before ++ text x → written ≡ before ++ of_option text o
some_text text before written o x some is = is ∙ ap (λ y. before ++ of_option text y) (sym some)

pub header_parts : (before : List ℕ) (h : HeaderValue) (box : Option BBox) (required optional : List Text) (program source : Option Text) (timestamp sequence : Option ℤ) (url : Option Text)
    → box ≡ h.bbox → required ≡ h.required → optional ≡ h.optional → program ≡ h.program → source ≡ h.source → timestamp ≡ h.timestamp → sequence ≡ h.sequence → url ≡ h.url
    → (((((((before ++ of_option box_line box) ++ flat_map (text_line (codes "required ")) required) ++ flat_map (text_line (codes "optional ")) optional) ++ of_option (text_line (codes "program ")) program)
    ++ of_option (text_line (codes "source ")) source) ++ of_option (number_line (codes "replication-timestamp ")) timestamp) ++ of_option (number_line (codes "replication-sequence ")) sequence)
    ++ of_option (text_line (codes "replication-url ")) url
    ≡ before ++ header_lines h
header_parts before h box required optional program source timestamp sequence url e1 e2 e3 e4 e5 e6 e7 e8 = rw (e1, e2, e3, e4, e5, e6, e7, e8)
    (eight before (of_option box_line h.bbox) (flat_map (text_line (codes "required ")) h.required) (flat_map (text_line (codes "optional ")) h.optional) (of_option (text_line (codes "program ")) h.program)
    (of_option (text_line (codes "source ")) h.source) (of_option (number_line (codes "replication-timestamp ")) h.timestamp) (of_option (number_line (codes "replication-sequence ")) h.sequence)
    (of_option (text_line (codes "replication-url ")) h.url))

pub shown-parts : (before : List ℕ) (at : ℕ) (type rest : List ℕ) (len n : ℕ) → len ≡ n → (before ++ blob_line at type len) ++ rest ≡ before ++ (blob_line at type n ++ rest)
shown-parts before at type rest len n is = append_assoc before (blob_line at type len) rest ∙ ap (λ k. before ++ (blob_line at type k ++ rest)) is

-- ---- the blobs

pub all-push : (blobs : List Judged) (p : Judged) → all_good (blobs ++ p ∷ []) ≡ (all_good blobs && is_ok p.found)
all-push [] p = go (is_ok p.found)
  where
    go : (b : Bool) → (b && true) ≡ b
    go true = refl
    go false = refl
all-push (q ∷ blobs) p = ap (λ b. is_ok q.found && b) (all-push blobs p) ∙ go (is_ok q.found) (all_good blobs) (is_ok p.found)
  where
    go : (a b c : Bool) → (a && (b && c)) ≡ ((a && b) && c)
    go true b c = refl
    go false b c = refl

-- no frame was begun
pub shows-blobs : (left old written : Known) (failed : Bool) (blobs : List Judged) (ending : Ending) → TellsFrames HasVerdict shown_lines left old written failed blobs ending → ShowsBlobs left old written failed blobs None ending
shows-blobs left old written failed blobs ending told = record {
  walked = told.walked;
  next = tt;
  lines = Wrote-text old (lines_from shown_lines 0 blobs) (lines_from shown_lines 0 blobs ++ []) written failed (sym (append-nil (lines_from shown_lines 0 blobs))) told.lines;
}

-- memory was refused for what is in the next frame
pub shows-refused : (left : Known) (was now : Reading) (at : ℕ) (w : List ℕ) (old mid written : Known) (before failed : Bool) (blobs : List Judged) (p : Plain)
    → Going HasVerdict shown_lines left was old mid before blobs → GivesFrame was now at w → p.bytes ≡ w → IsWholeFrame p → Writes mid before written failed (blob_line at p.type_name (length p.bytes))
    → ShowsBlobs left old written failed blobs (Some p) (Early (refused at))
unfolding walks-refused
shows-refused left was now at w old mid written before failed blobs p so_far gives bytes is writes =
    let here : at ≡ length (joined blobs) = gives.here ∙ so_far.stands in
    record {
      walked = walks-refused HasVerdict shown_lines left was now at w old mid before failed blobs so_far gives;
      next = (is, (now.left, subst (λ (v : List ℕ). Consumes was.left now.left v) (sym bytes) gives.read), ap (λ n. Early (refused n)) here);
      lines = Wrote-text old (lines_from shown_lines 0 blobs ++ blob_line at p.type_name (length p.bytes)) (lines_from shown_lines 0 blobs ++ begun_line (length (joined blobs)) (Some p)) written failed
          (ap (λ n. lines_from shown_lines 0 blobs ++ blob_line n p.type_name (length p.bytes)) here) (writes old (lines_from shown_lines 0 blobs) so_far.lines);
    }

pub shows-input : (left old mid written : Known) (before failed good : Bool) (blobs : List Judged) (begun : Option Plain) (ending : Ending) (status : ℕ) → ShowsBlobs left old mid before blobs begun ending → (ending ≡ Unwritten → failed ≡ before)
    → Writes mid before written failed (ending_line ending) → good ≡ all_good blobs → status ≡ status_of (is_whole ending && good) failed → ShowsInput left old written failed status
unfolding walks-on
shows-input left old mid written before failed good blobs begun ending status h same line is status_is = record {
  blobs = blobs;
  begun = begun;
  ending = ending;
  walked = walks-on HasVerdict left before failed blobs ending same h.walked;
  next = h.next;
  text = line old (lines_from shown_lines 0 blobs ++ begun_line (length (joined blobs)) begun) h.lines;
  status_is = status_is ∙ ap (λ b. status_of (is_whole ending && b) failed) is;
}
