-- From the frames that were told to what `list` has done.
use Rattle.std.proofs.Common.{◌≡◌, ℕ, ◌+◌, ◌&&◌, Bool, true, List, [], ◌∷◌, ◌++◌, length, refl, sym, ap, subst, ◌∙◌, append-nil}
use Rattle.std.specs.Prelude.{IfSome}
use Rattle.std.specs.List.{AllByRecursion}
use Rattle.std.specs.Io.KnownBytes.{Appends}
use Rattle.std.proofs.KnownBytes.{Consumes-whole}
use Rattle.osm_value.specs.Sink.{Wrote, Writes}
use Rattle.osm_value.proofs.SinkLemmas.{whole_text}
use Rattle.osm_reading.specs.Framings.{Known}
use Rattle.pbfrow_reading.specs.Listing.{Plain, HasAny, listed_line, Lists, ListsInput}
use Rattle.pbfrow_reading.specs.Walks.{Part, IsWholeFrame, joined, lines_from, AreFound, ReadsFrames, TellsFrames, is_whole, ending_line, status_of}
use Rattle.pbfrow_reading.specs.declared.input.Ending.{Ending}
use Rattle.pbfrow_reading.specs.declared.input.Ending.TheVariants.{Whole, Unwritten}
use Rattle.pbfrow_reading.proofs.Walking.{walks-on, and-true, status-zero, ended-whole}

pub lists-input : (left old mid written : Known) (before failed : Bool) (frames : List Plain) (ending : Ending) (status : ℕ) → TellsFrames HasAny listed_line left old mid before frames ending → (ending ≡ Unwritten → failed ≡ before)
    → Writes mid before written failed (ending_line ending) → status ≡ status_of (is_whole ending && true) failed → ListsInput left old written failed status
lists-input left old mid written before failed frames ending status told same line is = record {
  frames = frames;
  ending = ending;
  walked = walks-on HasAny left before failed frames ending same told.walked;
  text = line old (lines_from listed_line 0 frames) told.lines;
  status_is = is ∙ ap (λ b. status_of b failed) (and-true (is_whole ending));
}

pub are-parts : {A : Type 0} (Has : ℕ → Part A → Type 0) (at : ℕ) (ps : List (Part A)) → AreFound Has at ps → AllByRecursion IsWholeFrame ps
are-parts Has at [] h = tt
are-parts Has at (p ∷ ps) h = (h.0, are-parts Has (at + length p.bytes) ps h.2)

-- the listing of an input of which all bytes are known
pub lists-whole : (left old written : Known) (failed : Bool) (status : ℕ) → ListsInput left old written failed status → status ≡ 0 → IfSome left (λ bytes. (text : List ℕ) × Lists true bytes text × Appends old written text)
lists-whole left old written failed status l zero =
    let well = status-zero (is_whole l.ending) failed status l.status_is zero in
    let whole : l.ending ≡ Whole = ended-whole l.ending well.0 in
    let walked : ReadsFrames HasAny left failed l.frames Whole = subst (λ (e : Ending). ReadsFrames HasAny left failed l.frames e) whole l.walked in
    let lines = lines_from listed_line 0 l.frames in
    let text : Wrote old (lines ++ []) written failed = subst (λ (e : Ending). Wrote old (lines ++ ending_line e) written failed) whole l.text in
    Consumes-whole left walked.behind (joined l.frames) (λ bytes. (text : List ℕ) × Lists true bytes text × Appends old written text) walked.read walked.ended (
      lines ++ [],
      record { frames = l.frames; rest = []; line = []; are_frames = are-parts HasAny 0 l.frames walked.found; tiled = sym (append-nil (joined l.frames)); ends = (refl, refl); lines = refl },
      whole_text old written (lines ++ []) failed well.1 text,
    )
