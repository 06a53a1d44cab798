use Rattle.pbfrow_commands.proofs.merge.merge_one.Goals as goal

pub returns-clause-copies : goal.returns-clause-copies
returns-clause-copies g c =
    record { copies = c.copy_held-outcome.ensures.copies; crash = c.copy_held-outcome.ensures.crash; kept = c.copy_held-outcome.ensures.kept; whole = c.copy_held-outcome.ensures.whole; list = c.copy_held-outcome.ensures.list; own = c.copy_held-outcome.ensures.own; cause = c.copy_held-outcome.ensures.cause; told = c.copy_held-outcome.ensures.told; each = c.copy_held-outcome.ensures.each; same = c.copy_held-outcome.ensures.same; counted = c.copy_held-outcome.ensures.counted }

pub returns-clause-line : goal.returns-clause-line
returns-clause-line g c = c.put_outcome-status.ensures.line

pub returns-clause-source : goal.returns-clause-source
returns-clause-source g c = c.copy_held-outcome.ensures.source
