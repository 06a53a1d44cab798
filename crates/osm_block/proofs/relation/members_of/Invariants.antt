use Rattle.std.proofs.Common.{◌≡◌, take, map, true}
use Rattle.std.specs.Prelude.{is_some}
use Rattle.std.specs.List.{list_all}
use Rattle.pbf_wire.specs.Readings.{int32}
use Rattle.osm_block.specs.Block.{kind}
use Rattle.osm_block.specs.Members.{MembersAt}
use Rattle.osm_block.proofs.relation.members_of.Given as goal

abbrev pub invariant-loop-at : goal.invariant-loop-at
invariant-loop-at l = record {
  built : MembersAt (map (λ t. t.now) l.table) l.members.items (take l.at l.memids) (map int32 (take l.at l.roles)) (map int32 (take l.at l.types));
  kinds : list_all (λ t. is_some (kind t)) (map int32 (take l.at l.types)) ≡ true;
}
