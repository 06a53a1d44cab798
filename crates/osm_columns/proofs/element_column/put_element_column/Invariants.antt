use Rattle.std.proofs.Common.{◌≡◌, List, length, map, take}
use Rattle.osm_value.specs.declared.element.Element.{Element}
use Rattle.osm_block.specs.Block.{Joins}
use Rattle.osm_block.specs.Fields.{context_of}
use Rattle.osm_block.specs.Groups.{GroupHolds}
use Rattle.osm_columns.specs.Columns.{Adds}
use Rattle.osm_columns.proofs.element_column.put_element_column.Given as goal

abbrev pub invariant-loop-group : goal.invariant-loop-group
invariant-loop-group g l = record {
  count : (es : List Element) → Joins (GroupHolds (context_of l.groups.scale)) es (take l.group-index l.groups.groups.items) → length es ≡ l.at;
  column : (es : List Element) → Joins (GroupHolds (context_of l.groups.scale)) es (take l.group-index l.groups.groups.items) → Adds 0 (map g.C.ElementColumn.item es) l.fn.array l.array;
}
