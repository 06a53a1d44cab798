use Rattle.pbfrow_commands.specs.Verifying.{extra_line}
use Rattle.pbfrow_reading.proofs.LineLemmas.{lines-all, lines-more, lines-none}
use Rattle.pbfrow_commands.proofs.verify.put_extras.Goals as goal

pub loop-extent-init : goal.loop-extent-init
loop-extent-init g c = λ start before h. lines-none start before _ _ h

pub loop-extent-preserved : goal.loop-extent-preserved
loop-extent-preserved g c = λ start before h.
    lines-more extra_line start before c.args.extras.now c.loop-extent.extent-index _ _ _ c.loop-extent-test.true (c.put_at.ensures start _ (c.loop-extent.invariant start before h))

pub returns : goal.returns
returns g c = λ start before h.
    lines-all extra_line start before c.args.extras.now c.loop-extent.extent-index _ _ c.loop-extent-test.false (c.loop-extent.invariant start before h)
