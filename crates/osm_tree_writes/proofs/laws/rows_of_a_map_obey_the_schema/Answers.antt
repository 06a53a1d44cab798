use Rattle.osm_tree_writes.proofs.Obeying.{obey}
use Rattle.osm_tree_writes.proofs.laws.rows_of_a_map_obey_the_schema.Goals as goal

pub returns : goal.returns
returns c = obey
