-- What the reads of a command leave, and what it told.
use Rattle.std.proofs.Common.{◌≡◌, ℕ, List, ◌++◌, length, Bool, true, false, Option, unwrap_or, refl, sym, ap, subst, ◌∙◌, inl, inr}
use Rattle.std.proofs.lemmas.List.{length-map}
use Rattle.osm_value.specs.Sink.{Wrote}
use Rattle.osm_value.proofs.SinkLemmas.{Wrote-text, whole_text, front_text}
use Rattle.osm_rows.specs.Held.{HeldMap, IsApart}
use Rattle.std.specs.FinMap.{entries}
use Rattle.osm_rows.specs.Keeping.{extent_of, extents_of}
use Rattle.osm_rows.specs.declared.keeper.Extent.{Extent}
use Rattle.osm_reading.specs.Framings.{Known}
use Rattle.osm_import.specs.Exports.{greatest_end, size_of}
use Rattle.osm_import.specs.Gaps.{AreGaps, ranges_between}
use Rattle.osm_import.proofs.GapsLemmas.{gaps-between}
use Rattle.pbfrow_commands.specs.CommandLines.{counts_line, gap_lines}
use Rattle.pbfrow_commands.specs.Status.{IsSurvey, Tells, status_text}
use Rattle.pbfrow_commands.specs.declared.status.Holdings.{Holdings}

-- ---- the text, and the status by the sink

pub tells-whole : (text : List ℕ) (old new : Known) (failed : Bool) → failed ≡ false → Wrote old text new failed → Tells text old new failed 0
tells-whole text old new failed is h = inl (refl, whole_text old new text failed is h)

pub tells-front : (text : List ℕ) (old new : Known) (failed : Bool) → failed ≡ true → Wrote old text new failed → Tells text old new failed 1
tells-front text old new failed is h = inr (refl, is, front_text old new text failed is h)

-- ---- what a map holds, by its extents

pub survey-whole : (held : HeldMap) (size : Option ℕ) (extents : List Extent) (h : Holdings) → IsApart held → extents ≡ extents_of held
    → h.blobs ≡ length extents → h.end ≡ greatest_end extents → h.gaps.items ≡ ranges_between 0 (unwrap_or size h.end) extents → IsSurvey held size h
survey-whole held size extents h apart are blobs end gaps = record {
  blobs = blobs ∙ ap length are ∙ length-map (entries held) extent_of;
  end = end ∙ ap greatest_end are;
  gaps = subst (λ (ranges : List (ℕ × ℕ)). AreGaps held (size_of size (extents_of held)) ranges)
      (sym (gaps ∙ ap (λ n. ranges_between 0 (unwrap_or size n) extents) (end ∙ ap greatest_end are) ∙ ap (λ (es : List Extent). ranges_between 0 (size_of size (extents_of held)) es) are))
      (gaps-between held (size_of size (extents_of held)) apart);
}

-- ---- the whole text of a status

pub status-line : (held : HeldMap) (size : Option ℕ) (h : Holdings) (gaps : List (ℕ × ℕ)) (count : ℕ) (start written : Known) (failed : Bool) → IsSurvey held size h → gaps ≡ h.gaps.items → count ≡ length gaps
    → Wrote start (gap_lines gaps ++ counts_line h.blobs h.end count) written failed → Wrote start (status_text held h.gaps.items) written failed
status-line held size h gaps count start written failed survey are many wrote =
    Wrote-text start _ _ written failed
    (ap (λ (gs : List (ℕ × ℕ)). gap_lines gs ++ counts_line h.blobs h.end count) are
    ∙ ap (λ n. gap_lines h.gaps.items ++ counts_line n h.end count) survey.blobs
    ∙ ap (λ n. gap_lines h.gaps.items ++ counts_line (length (entries held)) n count) survey.end
    ∙ ap (λ n. gap_lines h.gaps.items ++ counts_line (length (entries held)) (greatest_end (extents_of held)) n) (many ∙ ap length are)) wrote
