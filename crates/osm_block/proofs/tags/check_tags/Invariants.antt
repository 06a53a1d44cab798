use Rattle.std.proofs.Common.{◌≡◌, length, drop, ◌-◌}
use Rattle.osm_block.specs.DenseTags.{pairs_of}
use Rattle.osm_block.specs.Phases.{first, tags_phases}
use Rattle.osm_block.proofs.TagsLemmas.{stands}
use Rattle.osm_block.proofs.tags.check_tags.Given as goal

-- what stands of the rest stands of the whole
abbrev pub invariant-loop-at : goal.invariant-loop-at
invariant-loop-at l = stands l.all_in_table l.texts (pairs_of l.left (drop l.at l.keys_vals)) ≡ first (tags_phases l.nodes l.texts l.keys_vals)

abbrev pub decreases-loop-at : goal.decreases-loop-at
decreases-loop-at l = length l.keys_vals - l.at
