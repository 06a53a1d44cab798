use Rattle.pbfrow_commands.specs.CommandLines.{match_line}
use Rattle.pbfrow_reading.proofs.LineLemmas.{lines-all, lines-more-at, lines-none}
use Rattle.pbfrow_commands.proofs.find.put_matches.Goals as goal

pub loop-off-init : goal.loop-off-init
loop-off-init g c = λ start before h. lines-none start before _ _ h

pub loop-off-preserved : goal.loop-off-preserved
loop-off-preserved g c = λ start before h.
    lines-more-at match_line start before c.args.matches.now c.loop-off.off-index c.loop-off-item.result _ _ c.loop-off-test.true c.loop-off-item.is (c.put_match.ensures start _ (c.loop-off.invariant start before h))

pub returns : goal.returns
returns g c = λ start before h.
    lines-all match_line start before c.args.matches.now c.loop-off.off-index _ _ c.loop-off-test.false (c.loop-off.invariant start before h)
