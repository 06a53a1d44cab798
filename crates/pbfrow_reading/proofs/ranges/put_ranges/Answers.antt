use Rattle.pbfrow_reading.specs.Ranging.{range_line}
use Rattle.pbfrow_reading.proofs.LineLemmas.{lines-all, lines-more, lines-none}
use Rattle.pbfrow_reading.proofs.ranges.put_ranges.Goals as goal

pub loop-range-init : goal.loop-range-init
loop-range-init g c = λ start before h. lines-none start before _ _ h

pub loop-range-preserved : goal.loop-range-preserved
loop-range-preserved g c = λ start before h.
    lines-more range_line start before c.args.ranges.now c.loop-range.range-index _ _ _ c.loop-range-test.true (c.put_range.ensures start _ (c.loop-range.invariant start before h))

pub returns : goal.returns
returns g c = λ start before h.
    lines-all range_line start before c.args.ranges.now c.loop-range.range-index _ _ c.loop-range-test.false (c.loop-range.invariant start before h)
