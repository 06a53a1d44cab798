use Rattle.std.proofs.Common.{take, map}
use Rattle.pbf_wire.specs.Readings.{uint32}
use Rattle.osm_block.specs.Block.{TagsAt}
use Rattle.osm_block.proofs.tag_list.tags_of.Given as goal

abbrev pub invariant-loop-at : goal.invariant-loop-at
invariant-loop-at l = TagsAt (map (λ t. t.now) l.table) (map (λ t. (t.0.now, t.1.now)) l.tags.items) (map uint32 (take l.at l.keys)) (map uint32 (take l.at l.vals))
