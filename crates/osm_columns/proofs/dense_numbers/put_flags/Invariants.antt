use Rattle.std.proofs.Common.{map, take, Some}
use Rattle.osm_columns.specs.Values.{number_of_flag}
use Rattle.osm_columns.specs.Columns.{Adds}
use Rattle.osm_columns.proofs.dense_numbers.put_flags.Given as goal

abbrev pub invariant-loop-index : goal.invariant-loop-index
invariant-loop-index l = Adds l.at (map (λ f. number_of_flag (Some f)) (take l.index l.flags)) l.fn.array l.array
