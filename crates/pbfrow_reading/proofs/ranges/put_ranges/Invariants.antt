use Rattle.std.proofs.Common.{take}
use Rattle.osm_value.specs.Sink.{Writes}
use Rattle.pbfrow_reading.specs.Ranging.{range_lines}
use Rattle.pbfrow_reading.proofs.ranges.put_ranges.Given as goal

abbrev pub invariant-loop-range : goal.invariant-loop-range
invariant-loop-range g l = Writes (g.S.Sink.written l.fn.out) (g.S.Sink.has_failed l.fn.out) (g.S.Sink.written l.out) (g.S.Sink.has_failed l.out) (range_lines (take l.range-index l.ranges))
