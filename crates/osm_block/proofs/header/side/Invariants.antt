use Rattle.std.proofs.Common.{◌≡◌}
use Rattle.std.specs.List.{flat_map}
use Rattle.pbf_wire.specs.FieldList.{last_or}
use Rattle.pbf_wire.specs.Readings.{fields, sub, last, fitting, number_of}
use Rattle.osm_block.specs.declared.fields.TheConstants.{HEADER_BBOX}
use Rattle.osm_block.specs.HeaderPayloads.{payloads_left}
use Rattle.osm_block.proofs.header.side.Given as goal

abbrev pub invariant-loop-payload : goal.invariant-loop-payload
invariant-loop-payload l = record {
  can : (goal.iterator-loop-payload).can_next l.payload-iterator;
  ends : (goal.iterator-loop-payload).is_finite l.payload-iterator;
  so_far : last_or l.last (fitting number_of l.number (flat_map fields (payloads_left l.payload-iterator))) ≡ last (sub (fields l.bytes) HEADER_BBOX) l.number;
}
