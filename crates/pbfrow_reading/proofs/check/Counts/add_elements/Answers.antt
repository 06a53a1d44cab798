use Rattle.std.proofs.Common.{List, ◌++◌, take, ap, ◌∙◌}
use Rattle.osm_value.specs.declared.element.Element.{Element}
use Rattle.pbfrow_reading.specs.Checking.{tally}
use Rattle.pbfrow_reading.proofs.CheckLemmas.{element-more}
use Rattle.pbfrow_reading.proofs.check.Counts.add_elements.Goals as goal

pub loop-element-preserved : goal.loop-element-preserved
loop-element-preserved c = λ blobs faults es is.
    c.add_element.ensures blobs faults (es ++ take c.loop-element.element-index c.args.elements.now) (c.loop-element.invariant blobs faults es is)
    ∙ ap (λ (l : List Element). tally blobs l faults) (element-more es c.args.elements.now c.loop-element.element-index c.element-item.result c.loop-element-test.true c.element-item.is)
