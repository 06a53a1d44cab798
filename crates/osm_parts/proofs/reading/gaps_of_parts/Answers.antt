use Rattle.std.proofs.Common.{ℕ, List, ◌∙◌, sym, ap, subst}
use Rattle.osm_rows.specs.declared.keeper.Extent.{Extent}
use Rattle.osm_import.specs.Gaps.{AreGaps, ranges_between}
use Rattle.osm_import.proofs.GapsLemmas.{gaps-between}
use Rattle.osm_parts.proofs.ReadingLemmas.{read-apart}
use Rattle.osm_parts.proofs.reading.gaps_of_parts.Goals as goal

pub returns : goal.returns
returns c = λ maps asked whole read are.
    subst (λ (gaps : List (ℕ × ℕ)). AreGaps whole c.args.size gaps)
    (sym (c.in_ok-gaps.ensures ∙ ap (λ (es : List Extent). ranges_between 0 c.args.size es) (c.deref.ensures.value ∙ c.in_ok-extents.ensures.whole maps asked whole read are)))
    (gaps-between whole c.args.size (read-apart maps asked c.args.parts.now whole read are))
