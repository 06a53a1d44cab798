use Rattle.std.proofs.Common.{map, take}
use Rattle.osm_block.specs.Block.{coordinate}
use Rattle.osm_columns.specs.Columns.{Adds}
use Rattle.osm_columns.proofs.dense_numbers.put_coordinates.Given as goal

abbrev pub invariant-loop-index : goal.invariant-loop-index
invariant-loop-index l = Adds l.at (map (coordinate l.offset l.granularity) (take l.index l.units)) l.fn.array l.array
