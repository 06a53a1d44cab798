use Rattle.osm_block.proofs.Complete.{no_fault}
use Rattle.osm_block.proofs.laws.elements_or_a_fault.Goals as goal

pub returns : goal.returns
returns c = no_fault
