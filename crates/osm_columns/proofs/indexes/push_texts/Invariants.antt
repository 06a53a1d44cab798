use Rattle.std.proofs.Common.{map, take, Some}
use Rattle.osm_columns.specs.Indexes.{NamesMore}
use Rattle.osm_columns.proofs.indexes.push_texts.Given as goal

abbrev pub invariant-loop-text : goal.invariant-loop-text
invariant-loop-text l = NamesMore (map (λ t. Some t.now) (take l.text-index l.texts)) l.fn.dictionary l.dictionary l.fn.indexes.items l.indexes.items
