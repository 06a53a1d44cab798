use Rattle.std.proofs.Common.{◌≡◌, Ok}
use Rattle.std.specs.Option.{option_map}
use Rattle.pbf_wire.specs.Fault.{◌>>=◌}
use Rattle.pbf_wire.specs.FieldList.{all_ok, last_or}
use Rattle.pbf_wire.specs.Readings.{fitting, number_of, bytes_of}
use Rattle.pbf_wire.specs.Walk.{items_left}
use Rattle.pbf_frame.specs.Frame.{values_at}
use Rattle.pbf_frame.proofs.header.last_values.Given as goal

abbrev pub invariant-loop-field : goal.invariant-loop-field
invariant-loop-field l = record {
  can : (goal.iterator-loop-field).can_next l.field-iterator;
  ends : (goal.iterator-loop-field).is_finite l.field-iterator;
  so_far : (all_ok (items_left l.field-iterator) >>= λ fs. Ok (last_or (option_map (λ y. y.now) l.type_name) (fitting bytes_of 1 fs), last_or l.size (fitting number_of 3 fs))) ≡ values_at l.header;
}
