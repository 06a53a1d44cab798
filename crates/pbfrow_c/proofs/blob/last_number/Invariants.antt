use Rattle.std.proofs.Common.{◌≡◌}
use Rattle.pbf_wire.specs.FieldList.{last_or}
use Rattle.pbf_wire.specs.Readings.{fields, fitting, front, last, number_of}
use Rattle.pbf_wire.specs.Walk.{items_left}
use Rattle.pbfrow_c.proofs.blob.last_number.Given as goal

abbrev pub invariant-loop-field : goal.invariant-loop-field
invariant-loop-field l = record {
  can : (goal.iterator-loop-field).can_next l.field-iterator;
  ends : (goal.iterator-loop-field).is_finite l.field-iterator;
  so_far : last_or l.last (fitting number_of l.number (front (items_left l.field-iterator))) ≡ last (fields l.message) l.number;
}
