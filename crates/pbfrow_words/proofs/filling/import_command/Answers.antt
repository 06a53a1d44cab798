use Rattle.std.proofs.Common.{◌∙◌}
use Rattle.pbfrow_words.proofs.ArgumentLemmas.{made, ruled}
use Rattle.pbfrow_words.proofs.filling.import_command.Goals as goal

pub returns-clause-shape : goal.returns-clause-shape
returns-clause-shape c =
    made _ c.with_argument-6.ensures.shape
    (ruled (c.in_ok-command-5.ensures.shape ∙ ruled (c.in_ok-command-4.ensures.shape ∙ ruled (c.in_ok-command-3.ensures.shape ∙ ruled (c.in_ok-command-2.ensures.shape ∙ ruled (c.in_ok-command.ensures.shape ∙ ruled c.new_command-command.ensures.shape c.file.ensures.rule) c.database.ensures.rule) c.offset_option-from.ensures.rule)
    c.in_ok-at_option.ensures.rule) c.offset_option-to.ensures.rule) c.flag-quiet.ensures.rule)
