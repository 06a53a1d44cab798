use Rattle.osm_rows.proofs.MapLemmas.OneMap.{one_map}
use Rattle.osm_rows.proofs.laws.rows_of_one_map.Goals as goal

pub returns : goal.returns
returns c = one_map
