use Rattle.std.proofs.Common.{◌≡◌, ◌+◌, map, take}
use Rattle.osm_columns.specs.Columns.{Adds}
use Rattle.osm_columns.proofs.lists.MemberIdsListColumn.put_of.Given as goal

abbrev pub invariant-loop-member : goal.invariant-loop-member
invariant-loop-member l = record {
  place : l.place ≡ l.at + l.member-index;
  column : Adds l.at (map (λ m. m.id) (take l.member-index l.member-items)) l.fn.array l.array;
}
