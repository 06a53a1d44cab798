use Rattle.std.proofs.Common.{length}
use Rattle.osm_index_orders.proofs.keys.+lacking.Given as goal

abbrev pub decreases-lacking : goal.decreases-lacking
decreases-lacking l = length l.primary.now
