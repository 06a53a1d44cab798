use Rattle.std.proofs.Common.{take}
use Rattle.osm_value.specs.Sink.{Writes}
use Rattle.pbfrow_commands.specs.CommandLines.{gap_lines}
use Rattle.pbfrow_commands.proofs.status.put_gaps.Given as goal

abbrev pub invariant-loop-from : goal.invariant-loop-from
invariant-loop-from g l = Writes (g.S.Sink.written l.fn.out) (g.S.Sink.has_failed l.fn.out) (g.S.Sink.written l.out) (g.S.Sink.has_failed l.out) (gap_lines (take l.from-index l.gaps))
