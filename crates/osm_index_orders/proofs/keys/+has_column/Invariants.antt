use Rattle.std.proofs.Common.{length}
use Rattle.osm_index_orders.proofs.keys.+has_column.Given as goal

abbrev pub decreases-has_column : goal.decreases-has_column
decreases-has_column l = length l.columns.now
