-- From what an examination says to a verdict.
use Rattle.std.proofs.Common.{◌≡◌, ℕ, List, [], ◌++◌, Bool, Option, Ok, Err, refl, sym, ap, subst, ◌∙◌, append-nil}
use Rattle.osm_value.specs.declared.element.Element.{Element}
use Rattle.pbf_frame.specs.declared.kind.Kind.{Kind}
use Rattle.pbf_frame.specs.Frame.{Frame, kind_of}
use Rattle.pbf_frame.proofs.FrameLaws.{no_prefix}
use Rattle.osm_block.specs.HeaderBlock.{HeaderValue}
use Rattle.osm_reading.specs.Good.{IsGood, HasHeader}
use Rattle.osm_reading.specs.Bad.{IsBad}
use Rattle.osm_reading.specs.declared.fault.Fault.{Fault}
use Rattle.osm_value.specs.Sink.{Wrote}
use Rattle.osm_value.proofs.SinkLemmas.{Wrote-text}
use Rattle.osm_reading.specs.Framings.{Known}
use Rattle.osm_reading.specs.Faults.{number_of, name_of}
use Rattle.osm_reading.specs.Lines.{fault_line}
use Rattle.pbfrow_reading.specs.Checking.{bad_line}
use Rattle.pbfrow_reading.specs.Verdicts.{Verdict, Judged, IsJudged}

abbrev pub judged : List ℕ → List ℕ → List ℕ → Verdict → Judged
judged type blob w verdict = record { type_name = type; blob = blob; bytes = w; found = verdict }

good-kind : (at : ℕ) (type blob w : List ℕ) (kind : Kind) (es : List Element) → Frame type blob w → IsGood at w kind es → kind ≡ kind_of type
good-kind at type blob w kind es frame good =
    let again : Frame good.type_name good.blob (w ++ []) = subst (λ (v : List ℕ). Frame good.type_name good.blob v) (sym (append-nil w)) good.placed.frame in
    good.kind_is ∙ ap kind_of (sym (no_prefix type blob good.type_name good.blob w [] frame again).types)

pub is-judged-good : (at : ℕ) (type blob w : List ℕ) (kind of_frame : Kind) (es : List Element) (header : Option HeaderValue) → (of_frame ≡ kind_of type) × Frame type blob w → IsGood at w kind es → HasHeader of_frame blob header
    → IsJudged at w (judged type blob w (Ok (record { elements = es; header = header })))
is-judged-good at type blob w kind of_frame es header frame good has = (
  refl,
  frame.1,
  (subst (λ (k : Kind). IsGood at w k es) (good-kind at type blob w kind es frame.1 good) good, subst (λ (k : Kind). HasHeader k blob header) frame.0 has),
)

pub is-judged-bad : (at : ℕ) (type blob w : List ℕ) (fault : Fault) → Frame type blob w → IsBad at w fault → IsJudged at w (judged type blob w (Err fault))
is-judged-bad at type blob w fault frame bad = (refl, frame, bad)

-- the line of its fault
pub wrote-fault : (start : Known) (before : List ℕ) (written : Known) (failed : Bool) (at number : ℕ) (name : List ℕ) (fault : Fault) → number ≡ number_of fault → name ≡ name_of fault
    → Wrote start (before ++ fault_line number name at) written failed → Wrote start (before ++ bad_line at (Err fault)) written failed
wrote-fault start before written failed at number name fault is named h =
    Wrote-text start (before ++ fault_line number name at) (before ++ bad_line at (Err fault)) written failed
    (ap (λ n. before ++ fault_line n name at) is ∙ ap (λ (m : List ℕ). before ++ fault_line (number_of fault) m at) named) h
