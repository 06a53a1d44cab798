use Rattle.std.proofs.Common.{List, subst}
use Rattle.std.proofs.lemmas.List.{take_all}
use Rattle.osm_value.specs.declared.element.Element.{Element}
use Rattle.pbfrow_counts.specs.Counting.{CountsMore}
use Rattle.pbfrow_counts.proofs.CountLemmas.{more-at, no-more}
use Rattle.pbfrow_counts.proofs.elements.ElementCounts.add.Goals as goal

pub loop-element-init : goal.loop-element-init
loop-element-init c = no-more c.args.self.now

pub loop-element-preserved : goal.loop-element-preserved
loop-element-preserved c =
    more-at c.args.self.now c.loop-element.self c.add_one.new.self c.args.elements.now c.loop-element.element-index c.element-item.result c.loop-element-test.true c.element-item.is
    c.loop-element.invariant c.add_one.ensures

pub returns : goal.returns
returns c =
    subst (λ (es : List Element). CountsMore c.args.self.now es c.loop-element.self)
    (take_all c.loop-element.element-index c.args.elements.now c.loop-element-test.false) c.loop-element.invariant
