use Rattle.std.proofs.Common.{length}
use Rattle.osm_index_orders.proofs.keys.+order_for.Given as goal

abbrev pub decreases-order_for : goal.decreases-order_for
decreases-order_for l = length l.keys.now
