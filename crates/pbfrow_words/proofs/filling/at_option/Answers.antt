use Rattle.pbfrow_words.proofs.ArgumentLemmas.{bound_if}
use Rattle.pbfrow_words.proofs.filling.at_option.Goals as goal

pub returns-clause-rule : goal.returns-clause-rule
returns-clause-rule c = bound_if c.offset_option.result c.conflicts_with.result _ _ c.offset_option.ensures.rule c.conflicts_with.ensures
