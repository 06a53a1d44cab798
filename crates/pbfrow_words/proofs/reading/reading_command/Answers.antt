use Rattle.pbfrow_words.proofs.ArgumentLemmas.{made, ruled}
use Rattle.pbfrow_words.proofs.reading.reading_command.Goals as goal

pub returns-clause-shape : goal.returns-clause-shape
returns-clause-shape c =
    made _ c.with_argument.ensures.shape (ruled c.new_command.ensures.shape c.optional_argument-file.ensures.rule)
