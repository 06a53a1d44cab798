use Rattle.std.proofs.Common.{◌≡◌, ◌++◌, map}
use Rattle.pbf_wire.specs.Walk.{items_left}
use Rattle.pbf_wire.specs.Readings.{front, fields}
use Rattle.pbf_wire.specs.Readings.{each}
use Rattle.osm_block.proofs.payloads.each.Given as goal

abbrev pub invariant-loop-field : goal.invariant-loop-field
invariant-loop-field l = record {
  can : (goal.iterator-loop-field).can_next l.field-iterator;
  ends : (goal.iterator-loop-field).is_finite l.field-iterator;
  so_far : map (λ p. p.now) l.out.items ++ each (front (items_left l.field-iterator)) l.number ≡ map (λ p. p.now) l.fn.out.items ++ each (fields l.payload) l.number;
}
