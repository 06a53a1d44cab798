use Rattle.std.proofs.Common.{◌≡◌, map, drop, take}
use Rattle.std.specs.List.{flat_map}
use Rattle.osm_block.specs.Fields.{context_of}
use Rattle.osm_block.specs.GroupsRead.{GroupsRead}
use Rattle.osm_block.specs.Phases.{first, group_phases}
use Rattle.osm_block.proofs.groups.read_each_group.Given as goal

abbrev pub invariant-loop-group : goal.invariant-loop-group
invariant-loop-group l = record {
  so_far : GroupsRead (context_of l.scale) l.out.items (map (λ p. p.now) (take l.group-index l.groups));
  phases : first (flat_map (group_phases (context_of l.scale)) (map (λ g. g) (map (λ p. p.now) (drop l.group-index l.groups)))) ≡ first (flat_map (group_phases (context_of l.scale)) (map (λ p. p.now) l.groups));
}
