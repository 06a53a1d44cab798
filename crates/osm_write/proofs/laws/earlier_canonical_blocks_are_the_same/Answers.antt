use Rattle.osm_write.proofs.EarlierBlocks.{canon_is}
use Rattle.osm_write.proofs.laws.earlier_canonical_blocks_are_the_same.Goals as goal

pub returns : goal.returns
returns c = canon_is
