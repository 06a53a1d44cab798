use Rattle.std.proofs.Common.{refl}
use Rattle.sqlite_trees.proofs.Doubt.{no_doubt}
use Rattle.osm_trees.proofs.laws.memory_goes_on.Goals as goal

pub returns : goal.returns
returns c = (no_doubt _ refl, (no_doubt _ refl, refl))
