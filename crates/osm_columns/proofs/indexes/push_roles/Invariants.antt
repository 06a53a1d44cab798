use Rattle.std.proofs.Common.{map, take, Some}
use Rattle.osm_columns.specs.Indexes.{NamesMore}
use Rattle.osm_columns.proofs.indexes.push_roles.Given as goal

abbrev pub invariant-loop-member : goal.invariant-loop-member
invariant-loop-member l = NamesMore (map (λ m. Some m.role) (take l.member-index l.members)) l.fn.dictionary l.dictionary l.fn.indexes.items l.indexes.items
