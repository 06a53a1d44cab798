use Rattle.std.proofs.Common.{◌≡◌, ◌++◌, map, take}
use Rattle.osm_columns.specs.Indexes.{index_in}
use Rattle.osm_columns.proofs.dense_texts.push_places.Given as goal

abbrev pub invariant-loop-index : goal.invariant-loop-index
invariant-loop-index l = l.indexes.items ≡ l.fn.indexes.items ++ map (index_in l.table) (take l.index l.places)
