use Rattle.std.proofs.Common.{◌∙◌, false, List, ℕ, sym, ap, subst, length}
use Rattle.osm_rows.specs.declared.keeper.Extent.{Extent}
use Rattle.osm_import.specs.Gaps.{AreGaps, ranges_between}
use Rattle.osm_import.proofs.GapsLemmas.{gaps-between}
use Rattle.osm_parts.proofs.ReadingLemmas.{read-apart, whole-read}
use Rattle.osm_verify.proofs.together.verdict_of.Goals as goal

pub returns-clause-verdict : goal.returns-clause-verdict
returns-clause-verdict c = λ maps depth known read judged size.
    let it = whole-read maps false c.args.parts.now read in
    let apart = read-apart maps false c.args.parts.now it.0 read it.1 in
    let extents = c.deref.ensures.value ∙ c.in_ok-extents.ensures.whole maps false it.0 read it.1 in
    record {
      size = c.args.size;
      size_is = size;
      whole = it.0;
      union = it.2;
      apart = apart;
      judged = judged;
      blobs = c.len.ensures ∙ sym c.deref.ensures.len ∙ ap length extents;
      gaps = subst (λ (gaps : List (ℕ × ℕ)). AreGaps it.0 c.args.size gaps) (sym (c.in_ok-gaps.ensures ∙ ap (λ (es : List Extent). ranges_between 0 c.args.size es) extents)) (gaps-between it.0 c.args.size apart);
    }

pub returns-clause-covers : goal.returns-clause-covers
returns-clause-covers c = λ maps known read size.
    let it = whole-read maps false c.args.parts.now read in
    let apart = read-apart maps false c.args.parts.now it.0 read it.1 in
    let extents = c.deref.ensures.value ∙ c.in_ok-extents.ensures.whole maps false it.0 read it.1 in
    record {
      size = c.args.size;
      size_is = size;
      whole = it.0;
      union = it.2;
      apart = apart;
      blobs = c.len.ensures ∙ sym c.deref.ensures.len ∙ ap length extents;
      gaps = subst (λ (gaps : List (ℕ × ℕ)). AreGaps it.0 c.args.size gaps) (sym (c.in_ok-gaps.ensures ∙ ap (λ (es : List Extent). ranges_between 0 c.args.size es) extents)) (gaps-between it.0 c.args.size apart);
    }
