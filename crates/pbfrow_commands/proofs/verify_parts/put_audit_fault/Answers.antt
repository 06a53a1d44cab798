use Rattle.std.proofs.Common.{sym, subst}
use Rattle.osm_value.specs.Sink.{Writes}
use Rattle.osm_verify.specs.declared.fault.AuditFault.{AuditFault}
use Rattle.pbfrow_commands.specs.VerifyingParts.{audit_fault_line}
use Rattle.pbfrow_commands.proofs.verify_parts.put_audit_fault.Goals as goal

pub returns-in-Unread : goal.returns-in-Unread
returns-in-Unread g c =
    let new = c.put_stop.new.out in
    subst (λ (fault : AuditFault). Writes (g.S.Sink.written c.args.out.now) (g.S.Sink.has_failed c.args.out.now) (g.S.Sink.written new) (g.S.Sink.has_failed new) (audit_fault_line fault))
    (sym c.in-Unread.is) c.put_stop.ensures

pub returns-in-Parts : goal.returns-in-Parts
returns-in-Parts g c =
    let new = c.put_parts_fault.new.out in
    subst (λ (fault : AuditFault). Writes (g.S.Sink.written c.args.out.now) (g.S.Sink.has_failed c.args.out.now) (g.S.Sink.written new) (g.S.Sink.has_failed new) (audit_fault_line fault))
    (sym c.in-Parts.is) c.put_parts_fault.ensures
