use Rattle.std.proofs.Common.{◌≡◌, length}
use Rattle.pbf_wire.specs.Walk.{items_left}
use Rattle.osm_block.specs.HeaderPayloads.{payloads_left}
use Rattle.osm_block.proofs.header.payloads.PayloadsIterator.next.Given as goal

abbrev pub invariant-loop-field : goal.invariant-loop-field
invariant-loop-field l = payloads_left l.fn.self ≡ payloads_left l.self

abbrev pub decreases-loop-field : goal.decreases-loop-field
decreases-loop-field l = length (items_left l.self.fields)
