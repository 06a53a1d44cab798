use Rattle.std.proofs.Common.{◌≡◌, List, length, map, take, sum}
use Rattle.osm_value.specs.declared.element.Element.{Element}
use Rattle.osm_block.specs.Block.{Joins}
use Rattle.osm_block.specs.Fields.{context_of}
use Rattle.osm_block.specs.Groups.{GroupHolds}
use Rattle.osm_columns.specs.Lists.{sums_from}
use Rattle.osm_columns.specs.Columns.{Adds}
use Rattle.osm_columns.proofs.end_column.put_end_column.Given as goal

abbrev pub invariant-loop-group : goal.invariant-loop-group
invariant-loop-group g l = record {
  count : (es : List Element) → Joins (GroupHolds (context_of l.groups.scale)) es (take l.group-index l.groups.groups.items) → length es ≡ l.at;
  end : (es : List Element) → Joins (GroupHolds (context_of l.groups.scale)) es (take l.group-index l.groups.groups.items) → sum (map g.E.EndColumn.count es) ≡ l.end;
  column : (es : List Element) → Joins (GroupHolds (context_of l.groups.scale)) es (take l.group-index l.groups.groups.items) → Adds 0 (sums_from 0 (map g.E.EndColumn.count es)) l.fn.ends l.ends;
}
