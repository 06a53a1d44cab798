use Rattle.std.proofs.Common.{◌≡◌, ◌+◌, map, take, sum}
use Rattle.osm_columns.specs.Lists.{sums_from}
use Rattle.osm_columns.specs.Columns.{Adds}
use Rattle.osm_columns.proofs.end_column.put_listed.Given as goal

abbrev pub invariant-loop-element : goal.invariant-loop-element
invariant-loop-element g l = record {
  place : l.place ≡ l.at + l.element-index;
  last : l.last ≡ l.end + sum (map g.E.EndColumn.count (take l.element-index l.elements));
  column : Adds l.at (sums_from l.end (map g.E.EndColumn.count (take l.element-index l.elements))) l.fn.ends l.ends;
}
