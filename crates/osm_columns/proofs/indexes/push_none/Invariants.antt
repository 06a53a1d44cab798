use Rattle.std.proofs.Common.{◌≡◌, ◌++◌, replicate, negsuc}
use Rattle.osm_columns.proofs.indexes.push_none.Given as goal

abbrev pub invariant-loop-index : goal.invariant-loop-index
invariant-loop-index l = l.indexes.items ≡ l.fn.indexes.items ++ replicate l._index (negsuc 0)
