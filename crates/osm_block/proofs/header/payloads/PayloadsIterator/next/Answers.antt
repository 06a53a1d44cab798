use Rattle.osm_block.proofs.HeaderLemmas.{ends_at_fault}
use Rattle.osm_block.proofs.header.payloads.PayloadsIterator.next.Goals as goal

pub returns-in-Err-clause-steps : goal.returns-in-Err-clause-steps
returns-in-Err-clause-steps c = ends_at_fault _ c.loop-field.self.fields c.next.new.self c.in-Some.field c.in-Err.field-0 c.loop-field.self.number c.loop-field.invariant c.in-Some.ensures.steps c.in-Err.is
