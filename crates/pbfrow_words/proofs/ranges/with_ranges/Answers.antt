use Rattle.std.proofs.Common.{refl}
use Rattle.clap.specs.Words.{app_of}
use Rattle.pbfrow_words.proofs.ArgumentLemmas.{gained, made}
use Rattle.pbfrow_words.proofs.ranges.with_ranges.Goals as goal

pub returns-clause-shape : goal.returns-clause-shape
returns-clause-shape c =
    made _ c.with_command.ensures.shape (gained {x = app_of c.args.command} refl c.in_ok-ranges.ensures.shape)
