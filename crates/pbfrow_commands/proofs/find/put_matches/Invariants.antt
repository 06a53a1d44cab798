use Rattle.std.proofs.Common.{take}
use Rattle.osm_value.specs.Sink.{Writes}
use Rattle.pbfrow_commands.specs.CommandLines.{match_lines}
use Rattle.pbfrow_commands.proofs.find.put_matches.Given as goal

abbrev pub invariant-loop-off : goal.invariant-loop-off
invariant-loop-off g l = Writes (g.S.Sink.written l.fn.out) (g.S.Sink.has_failed l.fn.out) (g.S.Sink.written l.out) (g.S.Sink.has_failed l.out) (match_lines (take l.off-index l.matches))
