use Rattle.std.proofs.Common.{◌≡◌, ◌+◌, map, take}
use Rattle.osm_columns.specs.Columns.{Adds}
use Rattle.osm_columns.proofs.element_column.put_listed.Given as goal

abbrev pub invariant-loop-element : goal.invariant-loop-element
invariant-loop-element g l = record {
  place : l.place ≡ l.at + l.element-index;
  column : Adds l.at (map g.C.ElementColumn.item (take l.element-index l.elements)) l.fn.array l.array;
}
