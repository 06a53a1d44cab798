use Rattle.std.proofs.Common.{◌∙◌, refl}
use Rattle.clap.specs.Words.{app_of}
use Rattle.pbfrow_words.proofs.ArgumentLemmas.{gained, made}
use Rattle.pbfrow_words.proofs.filling.with_filling_commands.Goals as goal

pub returns-clause-shape : goal.returns-clause-shape
returns-clause-shape c =
    made _ c.with_command-3.ensures.shape
    (gained (c.in_ok-command-2.ensures.shape ∙ gained (c.in_ok-command.ensures.shape ∙ gained {x = app_of c.args.command} refl c.in_ok-import_command.ensures.shape) c.in_ok-migrate_command.ensures.shape) c.in_ok-merge_command.ensures.shape)
