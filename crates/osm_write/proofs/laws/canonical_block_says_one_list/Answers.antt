use Rattle.osm_block.proofs.UniqueDense.{Block-unique}
use Rattle.osm_write.specs.Canon.{canon}
use Rattle.osm_write.proofs.BlockRead.{reads_back}
use Rattle.osm_write.proofs.laws.canonical_block_says_one_list.Goals as goal

pub returns : goal.returns
returns c = λ es fs ranges few short says. Block-unique fs es (canon es) says (reads_back es ranges few short)
