use Rattle.pbfrow_commands.proofs.MergingLemmas.{total-more}
use Rattle.pbfrow_commands.proofs.merge.sum_of.Goals as goal

pub returns : goal.returns
returns c = λ so_far is. total-more so_far c.args.total c.args.counts c.saturating_add.result c.saturating_add-2.result is c.saturating_add.ensures c.saturating_add-2.ensures
