use Rattle.std.proofs.Common.{◌≡◌, ◌++◌, map, drop}
use Rattle.std.specs.List.{flat_map}
use Rattle.osm_write.specs.Canon.{number, tag_indexes}
use Rattle.osm_write.specs.Scale.{view}
use Rattle.osm_write.proofs.dense.write_tags.Given as goal

abbrev pub invariant-loop-tag : goal.invariant-loop-tag
invariant-loop-tag l = l.array.items ++ flat_map number (tag_indexes (view l.scale) (map (λ t. (t.0.now, t.1.now)) (drop l.tag-index l.tags))) ≡ l.fn.array.items ++ flat_map number (tag_indexes (view l.scale) (map (λ t. (t.0.now, t.1.now)) l.tags))
