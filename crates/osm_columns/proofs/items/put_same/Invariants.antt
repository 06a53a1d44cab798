use Rattle.std.proofs.Common.{replicate}
use Rattle.osm_columns.specs.Columns.{Adds}
use Rattle.osm_columns.proofs.items.put_same.Given as goal

abbrev pub invariant-loop-index : goal.invariant-loop-index
invariant-loop-index g l = Adds l.at (replicate l.index l.item) l.fn.array l.array
