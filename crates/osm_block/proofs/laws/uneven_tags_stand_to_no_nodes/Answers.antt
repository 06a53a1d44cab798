use Rattle.osm_block.proofs.TagsStand.{pairs_stand, uneven_stand}
use Rattle.osm_block.proofs.laws.uneven_tags_stand_to_no_nodes.Goals as goal

pub returns : goal.returns
returns c = record { read = pairs_stand; uneven = uneven_stand }
