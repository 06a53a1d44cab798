use Rattle.osm_block.proofs.HeaderLemmas.{first_is_text}
use Rattle.osm_block.proofs.header.texts.TextsIterator.next.Goals as goal

pub returns-in-Err-clause-steps : goal.returns-in-Err-clause-steps
returns-in-Err-clause-steps c = absurd (first_is_text _ _ _ c.args.self.now.are_utf8 c.in_ok-payload.ensures.steps c.in-Err.ensures.cases.0)
