use Rattle.std.proofs.Common.{◌≡◌, List, map, take, All}
use Rattle.std.specs.List.{AllByRecursion}
use Rattle.osm_value.specs.Ranges.{IsMember}
use Rattle.osm_value.specs.Value.{MemberValue}
use Rattle.osm_rows.specs.TableRows.{Part, link_row}
use Rattle.osm_rows.specs.Load.TableElements.{IsMemberPart, item_of}
use Rattle.osm_rows.proofs.load.tables.elements.members_of.Given as goal

abbrev pub invariant-loop-row : goal.invariant-loop-row
invariant-loop-row l = record {
  so_far : (parts : List (Part MemberValue)) → All IsMemberPart parts → l.rows ≡ map link_row parts → l.members.items ≡ map item_of (take l.row-index parts);
  in_range : AllByRecursion IsMember l.members.items;
}
