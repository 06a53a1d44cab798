use Rattle.osm_block.proofs.EarlierLemmas.{block_now, block_flagless}
use Rattle.osm_block.proofs.laws.earlier_blocks_say_the_same.Goals as goal

pub returns : goal.returns
returns c = record { same = block_now; flagless = block_flagless }
