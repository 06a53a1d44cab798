use Rattle.osm_write.proofs.BlockRead.{reads_back}
use Rattle.osm_write.proofs.laws.canonical_block_is_read_back.Goals as goal

pub returns : goal.returns
returns c = reads_back
