use Rattle.std.proofs.Common.{◌∙◌}
use Rattle.pbfrow_words.proofs.ArgumentLemmas.{made, ruled}
use Rattle.pbfrow_words.proofs.asking.status_command.Goals as goal

pub returns-clause-shape : goal.returns-clause-shape
returns-clause-shape c =
    made _ c.with_argument-3.ensures.shape
    (ruled (c.in_ok-command-2.ensures.shape ∙ ruled (c.in_ok-command.ensures.shape ∙ ruled c.new_command-command.ensures.shape c.databases.ensures.rule) c.size_option.ensures.rule) c.counts_flag.ensures.rule)
