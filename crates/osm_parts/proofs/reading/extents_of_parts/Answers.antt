use Rattle.std.proofs.Common.{◌∙◌, ◌++◌, List, take, ap, sym}
use Rattle.std.proofs.lemmas.List.{take_all}
use Rattle.osm_rows.specs.declared.keeper.Extent.{Extent}
use Rattle.osm_parts.specs.Reading.{joined_extents}
use Rattle.osm_parts.proofs.ReadingLemmas.{joined-more, joined-whole}
use Rattle.osm_parts.proofs.reading.extents_of_parts.Goals as goal

pub loop-part-preserved : goal.loop-part-preserved
loop-part-preserved c =
    c.in_ok-extend_from_slice.ensures.items
    ∙ ap (λ (es : List Extent). es ++ c.deref.result.now) c.loop-part.invariant
    ∙ ap (λ (es : List Extent). joined_extents (take c.loop-part.part-index c.args.parts.now) ++ es) c.deref.ensures.value
    ∙ sym (joined-more c.args.parts.now c.loop-part.part-index c.part-item.result c.loop-part-test.true c.part-item.is)

pub returns-clause-whole : goal.returns-clause-whole
returns-clause-whole c = λ maps asked whole read are.
    c.loop-part.invariant ∙ ap joined_extents (take_all c.loop-part.part-index c.args.parts.now c.loop-part-test.false) ∙ joined-whole maps asked c.args.parts.now whole read are
