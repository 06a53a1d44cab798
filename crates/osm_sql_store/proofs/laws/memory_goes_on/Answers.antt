use Rattle.std.proofs.Common.{refl}
use Rattle.sqlite_trees.proofs.Doubt.{no_doubt}
use Rattle.osm_sql_store.proofs.laws.memory_goes_on.Goals as goal

pub returns : goal.returns
returns g c = (no_doubt _ refl, refl)
