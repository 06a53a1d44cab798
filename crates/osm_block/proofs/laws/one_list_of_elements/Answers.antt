use Rattle.osm_block.proofs.UniqueDense.{Block-unique}
use Rattle.osm_block.proofs.laws.one_list_of_elements.Goals as goal

pub returns : goal.returns
returns c = Block-unique
