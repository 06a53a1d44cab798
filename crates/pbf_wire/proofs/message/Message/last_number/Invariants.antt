use Rattle.std.proofs.Common.{◌≡◌, None}
use Rattle.pbf_wire.specs.FieldList.{last_or}
use Rattle.pbf_wire.specs.Readings.{first_fault, front, fields, fitting, number_of, last}
use Rattle.pbf_wire.specs.Walk.{items_left}
use Rattle.pbf_wire.proofs.message.Message.last_number.Given as goal

abbrev pub invariant-loop-field : goal.invariant-loop-field
invariant-loop-field l = record {
  can : (goal.iterator-loop-field).can_next l.field-iterator;
  ends : (goal.iterator-loop-field).is_finite l.field-iterator;
  sound : first_fault (items_left l.field-iterator) ≡ None;
  so_far : last_or l.last (fitting number_of l.number (front (items_left l.field-iterator))) ≡ last (fields l.self.bytes.now) l.number;
}
