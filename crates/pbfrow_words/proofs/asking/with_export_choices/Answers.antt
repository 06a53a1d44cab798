use Rattle.std.proofs.Common.{◌∙◌, refl}
use Rattle.pbfrow_words.proofs.ArgumentLemmas.{made, ruled}
use Rattle.pbfrow_words.proofs.asking.with_export_choices.Goals as goal

pub returns-clause-shape : goal.returns-clause-shape
returns-clause-shape c =
    made _ c.with_argument-2.ensures.shape
    (ruled (c.in_ok-command.ensures.shape ∙ ruled refl c.flag-partial.ensures.rule) c.form_option.ensures.rule)
