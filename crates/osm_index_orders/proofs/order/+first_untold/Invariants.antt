use Rattle.std.proofs.Common.{length}
use Rattle.osm_index_orders.proofs.order.+first_untold.Given as goal

abbrev pub decreases-first_untold : goal.decreases-first_untold
decreases-first_untold l = length l.rows.now
