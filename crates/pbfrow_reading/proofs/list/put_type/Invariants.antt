use Rattle.std.proofs.Common.{take}
use Rattle.std.specs.List.{flat_map}
use Rattle.osm_value.specs.Sink.{Writes}
use Rattle.pbfrow_reading.specs.Listing.{byte_text}
use Rattle.pbfrow_reading.proofs.list.put_type.Given as goal

abbrev pub invariant-loop-byte : goal.invariant-loop-byte
invariant-loop-byte g l = Writes (g.S.Sink.written l.fn.out) (g.S.Sink.has_failed l.fn.out) (g.S.Sink.written l.out) (g.S.Sink.has_failed l.out) (flat_map byte_text (take l.byte-index l.type_name))
