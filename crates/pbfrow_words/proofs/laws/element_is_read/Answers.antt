use Rattle.pbfrow_words.proofs.ElementLaws.{element_read, element_written}
use Rattle.pbfrow_words.proofs.laws.element_is_read.Goals as goal

pub returns-clause-read : goal.returns-clause-read
returns-clause-read c = element_read

pub returns-clause-named : goal.returns-clause-named
returns-clause-named c = element_written
