use Rattle.std.proofs.Common.{take}
use Rattle.std.specs.List.{flat_map}
use Rattle.osm_value.specs.Line.{line}
use Rattle.osm_value.specs.Sink.{Writes}
use Rattle.pbfrow_reading.proofs.show.put_elements.Given as goal

abbrev pub invariant-loop-element : goal.invariant-loop-element
invariant-loop-element g l = Writes (g.S.Sink.written l.fn.out) (g.S.Sink.has_failed l.fn.out) (g.S.Sink.written l.out) (g.S.Sink.has_failed l.out) (flat_map line (take l.element-index l.elements))
