use Rattle.osm_block.proofs.FlaglessLemmas.{block_unseen}
use Rattle.osm_block.proofs.laws.blocks_without_flags_say_none.Goals as goal

pub returns : goal.returns
returns c = block_unseen
