use Rattle.std.proofs.Common.{length}
use Rattle.osm_index_orders.proofs.keys.+has_repeated.Given as goal

abbrev pub decreases-has_repeated : goal.decreases-has_repeated
decreases-has_repeated l = length l.places.now
