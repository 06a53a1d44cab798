use Rattle.std.proofs.Common.{◌≡◌, ◌++◌, map}
use Rattle.pbf_wire.specs.Walk.{items_left}
use Rattle.pbf_wire.specs.Readings.{front, first_fault, fields, wire, each}
use Rattle.osm_block.specs.declared.fields.TheConstants.{GROUP_DENSE, GROUP_NODES, GROUP_RELATIONS, GROUP_WAYS}
use Rattle.osm_block.proofs.group.read_group_payloads.Given as goal

abbrev pub invariant-loop-field : goal.invariant-loop-field
invariant-loop-field l = record {
  can : (goal.iterator-loop-field).can_next l.field-iterator;
  ends : (goal.iterator-loop-field).is_finite l.field-iterator;
  fault : first_fault (items_left l.field-iterator) ≡ wire l.group;
  nodes : map (λ p. p.now) l.payloads.nodes.items ++ each (front (items_left l.field-iterator)) GROUP_NODES ≡ each (fields l.group) GROUP_NODES;
  dense : map (λ p. p.now) l.payloads.dense.items ++ each (front (items_left l.field-iterator)) GROUP_DENSE ≡ each (fields l.group) GROUP_DENSE;
  ways : map (λ p. p.now) l.payloads.ways.items ++ each (front (items_left l.field-iterator)) GROUP_WAYS ≡ each (fields l.group) GROUP_WAYS;
  relations : map (λ p. p.now) l.payloads.relations.items ++ each (front (items_left l.field-iterator)) GROUP_RELATIONS ≡ each (fields l.group) GROUP_RELATIONS;
}
