use Rattle.pbfrow_words.proofs.ElementLaws.{element_named}
use Rattle.pbfrow_words.proofs.element.read_element.Goals as goal

pub returns-clause-named : goal.returns-clause-named
returns-clause-named c = element_named c.args.text.now c.element_at.result (rw c.as_bytes.ensures.value at c.element_at.ensures)
