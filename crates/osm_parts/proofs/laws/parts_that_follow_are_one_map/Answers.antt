use Rattle.osm_parts.proofs.WholeLemmas.{whole-exists, whole-is_one}
use Rattle.osm_parts.proofs.Orders.{none-follows}
use Rattle.osm_parts.proofs.laws.parts_that_follow_are_one_map.Goals as goal

pub returns : goal.returns
returns c = record { exists = whole-exists; one = whole-is_one; interleaved = none-follows }
