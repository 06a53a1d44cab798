use Rattle.std.proofs.Common.{◌≡◌}
use Rattle.pbf_wire.specs.Walk.{items_left}
use Rattle.pbf_wire.specs.Readings.{front, first_fault, fields, wire}
use Rattle.osm_block.proofs.element_message.read_message.Given as goal

abbrev pub invariant-loop-field : goal.invariant-loop-field
invariant-loop-field g l = record {
  can : (goal.iterator-loop-field g).can_next l.field-iterator;
  ends : (goal.iterator-loop-field g).is_finite l.field-iterator;
  fault : first_fault (items_left l.field-iterator) ≡ wire l.payload;
  so_far : g.M.ElementMessage.left l.message (front (items_left l.field-iterator)) (fields l.payload);
}
