use Rattle.std.proofs.Common.{◌≡◌, length, map, take}
use Rattle.osm_columns.specs.Lists.{joined}
use Rattle.osm_columns.proofs.counts.text_bytes_of.Given as goal

abbrev pub invariant-loop-text : goal.invariant-loop-text
invariant-loop-text l = l.count ≡ length (joined (map (λ t. t.now) (take l.text-index l.texts)))
