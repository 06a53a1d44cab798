use Rattle.std.proofs.Common.{take}
use Rattle.osm_columns.specs.Columns.{Adds}
use Rattle.osm_columns.proofs.dense_numbers.put_uids.Given as goal

abbrev pub invariant-loop-index : goal.invariant-loop-index
invariant-loop-index l = Adds l.at (take l.index l.uids) l.fn.array l.array
