use Rattle.std.proofs.Common.{◌≡◌, map, drop, take}
use Rattle.std.specs.List.{flat_map}
use Rattle.osm_block.specs.Block.{GroupOf}
use Rattle.osm_block.specs.Fields.{context_of}
use Rattle.osm_block.specs.Phases.{first, group_phases}
use Rattle.osm_block.proofs.LoopLemmas.{SoFar}
use Rattle.osm_block.proofs.group.read_groups.Given as goal

abbrev pub invariant-loop-group : goal.invariant-loop-group
invariant-loop-group l = record {
  so_far : SoFar (GroupOf (context_of l.scale)) (λ g. g) (λ p. p.now) l.fn.out.items l.out.items (take l.group-index l.groups);
  phases : first (flat_map (group_phases (context_of l.scale)) (map (λ g. g) (map (λ p. p.now) (drop l.group-index l.groups)))) ≡ first (flat_map (group_phases (context_of l.scale)) (map (λ p. p.now) l.groups));
}
