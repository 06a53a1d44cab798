use Rattle.std.proofs.Common.{◌∙◌, ap}
use Rattle.pbfrow_words.specs.Asking.{with_export_choices}
use Rattle.pbfrow_words.proofs.ArgumentLemmas.{made, ruled}
use Rattle.pbfrow_words.proofs.asking.export_command.Goals as goal

pub returns-clause-shape : goal.returns-clause-shape
returns-clause-shape c =
    made _ c.with_export_choices.ensures.shape (ap with_export_choices
    (c.in_ok-command-2.ensures.shape ∙ ruled (c.in_ok-command.ensures.shape ∙ ruled c.new_command-command.ensures.shape c.databases.ensures.rule) c.size_option.ensures.rule))
