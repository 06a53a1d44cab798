use Rattle.std.proofs.Common.{◌≡◌, ◌++◌, map}
use Rattle.std.specs.Option.{option_or}
use Rattle.pbf_wire.specs.Walk.{items_left}
use Rattle.pbf_wire.specs.Readings.{front, fields, packed, each, nums}
use Rattle.osm_block.specs.FieldsLeft.{first_there}
use Rattle.osm_block.proofs.dense.fields.take_fields.Given as goal

abbrev pub invariant-loop-field : goal.invariant-loop-field
invariant-loop-field l = record {
  can : (goal.iterator-loop-field).can_next l.field-iterator;
  ends : (goal.iterator-loop-field).is_finite l.field-iterator;
  numbers : l.array.numbers.items ++ nums (front (items_left l.field-iterator)) l.number ≡ l.initial.array.numbers.items ++ nums (fields l.payload) l.number;
  fault : option_or l.array.fault (first_there (map packed (each (front (items_left l.field-iterator)) l.number))) ≡ option_or l.initial.array.fault (first_there (map packed (each (fields l.payload) l.number)));
}
