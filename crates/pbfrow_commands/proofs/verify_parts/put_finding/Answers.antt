use Rattle.std.proofs.Common.{sym, subst}
use Rattle.osm_value.specs.Sink.{Writes}
use Rattle.osm_verify.specs.declared.part_audit.Finding.{Finding}
use Rattle.pbfrow_commands.specs.VerifyingParts.{finding_line}
use Rattle.pbfrow_commands.proofs.verify_parts.put_finding.Goals as goal

pub returns-in-Differs : goal.returns-in-Differs
returns-in-Differs g c =
    let new = c.put_at.new.out in
    subst (λ (finding : Finding). Writes (g.S.Sink.written c.args.out.now) (g.S.Sink.has_failed c.args.out.now) (g.S.Sink.written new) (g.S.Sink.has_failed new) (finding_line finding))
    (sym c.in-Differs.is) c.put_at.ensures

pub returns-in-Extra : goal.returns-in-Extra
returns-in-Extra g c =
    let new = c.put_at-in-Extra.new.out in
    subst (λ (finding : Finding). Writes (g.S.Sink.written c.args.out.now) (g.S.Sink.has_failed c.args.out.now) (g.S.Sink.written new) (g.S.Sink.has_failed new) (finding_line finding))
    (sym c.in-Extra.is) c.put_at-in-Extra.ensures
