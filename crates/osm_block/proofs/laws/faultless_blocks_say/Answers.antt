use Rattle.osm_block.proofs.Faultless.{block_of}
use Rattle.osm_block.proofs.laws.faultless_blocks_say.Goals as goal

pub returns : goal.returns
returns c = block_of
