use Rattle.std.proofs.Common.{List, ℕ, ◌∙◌, sym, ap, subst}
use Rattle.osm_rows.specs.declared.keeper.Extent.{Extent}
use Rattle.osm_import.specs.Gaps.{AreGaps, ranges_between}
use Rattle.osm_import.proofs.GapsLemmas.{gaps-between}
use Rattle.osm_import.proofs.gap.gaps.Goals as goal

pub returns-clause-gaps : goal.returns-clause-gaps
returns-clause-gaps g c = λ held holds honest.
    subst (λ (gaps : List (ℕ × ℕ)). AreGaps held c.args.size gaps)
    (sym (c.in_ok-gaps.ensures ∙ ap (λ (es : List Extent). ranges_between 0 c.args.size es) (c.deref.ensures.value ∙ c.in_ok-extents.ensures.all held holds honest)))
    (gaps-between held c.args.size (g.met.K.BlobReader.is_apart _ held holds))
