use Rattle.std.proofs.Common.{length}
use Rattle.osm_index_orders.proofs.keys.+followed.Given as goal

abbrev pub decreases-followed : goal.decreases-followed
decreases-followed l = length l.columns.now
