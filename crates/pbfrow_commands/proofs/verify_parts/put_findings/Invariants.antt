use Rattle.std.proofs.Common.{take}
use Rattle.osm_value.specs.Sink.{Writes}
use Rattle.pbfrow_commands.specs.VerifyingParts.{finding_lines}
use Rattle.pbfrow_commands.proofs.verify_parts.put_findings.Given as goal

abbrev pub invariant-loop-finding : goal.invariant-loop-finding
invariant-loop-finding g l = Writes (g.S.Sink.written l.fn.out) (g.S.Sink.has_failed l.fn.out) (g.S.Sink.written l.out) (g.S.Sink.has_failed l.out) (finding_lines (take l.finding-index l.findings))
