use Rattle.std.proofs.Common.{length}
use Rattle.osm_index_orders.proofs.order.+automatic_from.Given as goal

abbrev pub decreases-automatic_from : goal.decreases-automatic_from
decreases-automatic_from l = length l.keys.now
