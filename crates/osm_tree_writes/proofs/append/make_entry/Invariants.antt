use Rattle.std.proofs.Common.{◌≡◌, ◌++◌, ◌-◌, map}
use Rattle.sqlite_value.specs.Order.{column}
use Rattle.osm_tree_writes.specs.Appending.{columns_of, places}
use Rattle.osm_tree_writes.proofs.append.make_entry.Given as goal

abbrev pub invariant-loop-at : goal.invariant-loop-at
invariant-loop-at l = l.entry ++ map (column l.row) (places l.at (l.end - l.at)) ≡ map (column l.row) (columns_of l.fn.index)
