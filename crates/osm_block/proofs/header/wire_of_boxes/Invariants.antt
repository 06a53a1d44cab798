use Rattle.std.proofs.Common.{◌≡◌, map}
use Rattle.pbf_wire.specs.Readings.{fields, each}
use Rattle.osm_block.specs.declared.fields.TheConstants.{HEADER_BBOX}
use Rattle.osm_block.specs.HeaderBlock.{first, wire_phase}
use Rattle.osm_block.specs.HeaderPayloads.{payloads_left}
use Rattle.osm_block.proofs.header.wire_of_boxes.Given as goal

abbrev pub invariant-loop-payload : goal.invariant-loop-payload
invariant-loop-payload l = record {
  can : (goal.iterator-loop-payload).can_next l.payload-iterator;
  ends : (goal.iterator-loop-payload).is_finite l.payload-iterator;
  so_far : first (map wire_phase (payloads_left l.payload-iterator)) ≡ first (map wire_phase (each (fields l.bytes) HEADER_BBOX));
}
