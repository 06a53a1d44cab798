use Rattle.std.proofs.Common.{◌≡◌, ◌+◌, length, map, take}
use Rattle.osm_columns.specs.Lists.{joined}
use Rattle.osm_columns.specs.Columns.{Adds}
use Rattle.osm_columns.proofs.list_column.put_listed.Given as goal

abbrev pub invariant-loop-element : goal.invariant-loop-element
invariant-loop-element g l = record {
  end : l.end ≡ l.at + length (joined (map g.L.ListColumn.items (take l.element-index l.elements)));
  column : Adds l.at (joined (map g.L.ListColumn.items (take l.element-index l.elements))) l.fn.array l.array;
}
