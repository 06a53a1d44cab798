use Rattle.std.proofs.Common.{◌≡◌, ◌∙◌, ap, rules}
use Rattle.clap.specs.Words.{app_of}
use Rattle.pbfrow_words.specs.Asking.{with_asking_commands}
use Rattle.pbfrow_words.specs.Filling.{with_filling_commands}
use Rattle.pbfrow_words.specs.Ranges.{with_ranges}
use Rattle.pbfrow_words.specs.Reading.{with_reading_commands}
use Rattle.pbfrow_words.specs.Verifying.{with_verify}
use Rattle.pbfrow_words.specs.Words.{plain_program}
use Rattle.pbfrow_words.proofs.ArgumentLemmas.{made}
use Rattle.pbfrow_words.proofs.words.program.Goals as goal

pub returns-clause-shape : goal.returns-clause-shape
returns-clause-shape c =
    let start : app_of c.subcommand_required-program.result ≡ plain_program = search rules in
    made _ c.with_asking_commands.ensures.shape (ap with_asking_commands
    (c.in_ok-program-4.ensures.shape ∙ ap with_verify
    (c.in_ok-program-3.ensures.shape ∙ ap with_filling_commands
    (c.in_ok-program-2.ensures.shape ∙ ap with_ranges (c.in_ok-program.ensures.shape ∙ ap with_reading_commands start)))))
