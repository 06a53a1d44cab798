use Rattle.std.proofs.Common.{map, take}
use Rattle.osm_block.specs.Block.{time}
use Rattle.osm_columns.specs.Columns.{Adds}
use Rattle.osm_columns.proofs.dense_numbers.put_times.Given as goal

abbrev pub invariant-loop-index : goal.invariant-loop-index
invariant-loop-index l = Adds l.at (map (time l.date_granularity) (take l.index l.units)) l.fn.array l.array
