use Rattle.std.proofs.Common.{map, take, Some}
use Rattle.osm_columns.specs.Indexes.{NamesMore}
use Rattle.osm_columns.proofs.indexes.push_values.Given as goal

abbrev pub invariant-loop-tag : goal.invariant-loop-tag
invariant-loop-tag l = NamesMore (map (λ t. Some t.1.now) (take l.tag-index l.tags)) l.fn.dictionary l.dictionary l.fn.indexes.items l.indexes.items
