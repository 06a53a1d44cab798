use Rattle.osm_tree_writes.proofs.Obeying.{hold_with}
use Rattle.osm_tree_writes.proofs.laws.a_put_adds_the_blob.Goals as goal

pub returns : goal.returns
returns c held old new off blob can = hold_with held off blob can.0 can.1 can.2 can.3 can.4 old new
