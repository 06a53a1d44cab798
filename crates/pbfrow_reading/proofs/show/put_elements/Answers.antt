use Rattle.osm_value.specs.Line.{line}
use Rattle.pbfrow_reading.proofs.LineLemmas.{lines-all, lines-more-at, lines-none}
use Rattle.pbfrow_reading.proofs.show.put_elements.Goals as goal

pub loop-element-init : goal.loop-element-init
loop-element-init g c = λ start before h. lines-none start before _ _ h

pub loop-element-preserved : goal.loop-element-preserved
loop-element-preserved g c = λ start before h.
    lines-more-at line start before c.args.elements.now c.loop-element.element-index c.element-item.result _ _ c.loop-element-test.true c.element-item.is (c.write_line-written.ensures.writes start _ (c.loop-element.invariant start before h))

pub returns : goal.returns
returns g c = λ start before h.
    lines-all line start before c.args.elements.now c.loop-element.element-index _ _ c.loop-element-test.false (c.loop-element.invariant start before h)
