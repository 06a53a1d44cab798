use Rattle.osm_parts.proofs.ReadingLemmas.{union-is_whole}
use Rattle.osm_parts.proofs.laws.a_union_of_parts_is_their_map.Goals as goal

pub returns : goal.returns
returns c = union-is_whole
