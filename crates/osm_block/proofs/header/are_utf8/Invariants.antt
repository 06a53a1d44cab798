use Rattle.std.proofs.Common.{◌≡◌}
use Rattle.std.specs.List.{list_all}
use Rattle.std.specs.Str.{is_utf8}
use Rattle.pbf_wire.specs.Readings.{fields, each}
use Rattle.osm_block.specs.HeaderPayloads.{payloads_left}
use Rattle.osm_block.proofs.header.are_utf8.Given as goal

abbrev pub invariant-loop-payload : goal.invariant-loop-payload
invariant-loop-payload l = record {
  can : (goal.iterator-loop-payload).can_next l.payload-iterator;
  ends : (goal.iterator-loop-payload).is_finite l.payload-iterator;
  so_far : list_all is_utf8 (payloads_left l.payload-iterator) ≡ list_all is_utf8 (each (fields l.bytes) l.number);
}
