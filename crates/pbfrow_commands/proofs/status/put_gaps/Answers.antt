use Rattle.std.proofs.Common.{ℕ}
use Rattle.pbfrow_commands.specs.CommandLines.{gap_line}
use Rattle.pbfrow_reading.proofs.LineLemmas.{lines-all, lines-more, lines-none}
use Rattle.pbfrow_commands.proofs.status.put_gaps.Goals as goal

pub loop-from-init : goal.loop-from-init
loop-from-init g c = λ start before h. lines-none start before _ _ h

pub loop-from-preserved : goal.loop-from-preserved
loop-from-preserved g c = λ start before h.
    let none : ℕ × ℕ = (0, 0) in
    lines-more gap_line start before c.args.gaps.now c.loop-from.from-index none _ _ c.loop-from-test.true (c.put_gap.ensures start _ (c.loop-from.invariant start before h))

pub returns : goal.returns
returns g c = λ start before h.
    lines-all gap_line start before c.args.gaps.now c.loop-from.from-index _ _ c.loop-from-test.false (c.loop-from.invariant start before h)
