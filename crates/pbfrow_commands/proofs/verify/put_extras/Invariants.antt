use Rattle.std.proofs.Common.{take}
use Rattle.osm_value.specs.Sink.{Writes}
use Rattle.pbfrow_commands.specs.Verifying.{extra_lines}
use Rattle.pbfrow_commands.proofs.verify.put_extras.Given as goal

abbrev pub invariant-loop-extent : goal.invariant-loop-extent
invariant-loop-extent g l = Writes (g.S.Sink.written l.fn.out) (g.S.Sink.has_failed l.fn.out) (g.S.Sink.written l.out) (g.S.Sink.has_failed l.out) (extra_lines (take l.extent-index l.extras))
