use Rattle.std.proofs.Common.{◌-◌, length, map}
use Rattle.osm_block.proofs.NodeTagsLemmas.{PairsLeft}
use Rattle.osm_block.proofs.dense.tags.some_tags.Given as goal

abbrev pub invariant-loop-index : goal.invariant-loop-index
invariant-loop-index l = PairsLeft (map (λ t. t.now) l.table) l.keys_vals l.at l.index (map (λ t. (t.0.now, t.1.now)) l.tags.items)

abbrev pub decreases-loop-index : goal.decreases-loop-index
decreases-loop-index l = length l.keys_vals - l.index
