-- What an iterator over the payloads of one field number has left.
use Rattle.std.specs.Prelude.{List}
use Rattle.osm_value.specs.Value.{Text}
use Rattle.pbf_wire.specs.Walk.{items_left}
use Rattle.pbf_wire.specs.Readings.{front, each}
use Rattle.osm_block.specs.declared.header.payloads.Payloads.{Payloads}

abbrev pub payloads_left : Payloads → List Text
payloads_left p = each (front (items_left p.fields)) p.number
