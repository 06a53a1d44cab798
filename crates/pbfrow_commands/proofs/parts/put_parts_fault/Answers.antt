use Rattle.std.proofs.Common.{List, ℕ, sym, subst}
use Rattle.osm_value.specs.Sink.{Writes}
use Rattle.osm_parts.specs.declared.fault.PartsFault.{PartsFault}
use Rattle.pbfrow_commands.specs.InParts.{parts_fault_line}
use Rattle.pbfrow_commands.proofs.PartsLines.{interleaved-line, refused-line}
use Rattle.pbfrow_commands.proofs.parts.put_parts_fault.Goals as goal

pub returns-in-Interleaved : goal.returns-in-Interleaved
returns-in-Interleaved g c =
    let new = c.put_fault_at.new.out in
    subst (λ (text : List ℕ). Writes (g.S.Sink.written c.args.out.now) (g.S.Sink.has_failed c.args.out.now) (g.S.Sink.written new) (g.S.Sink.has_failed new) text)
    (interleaved-line c.args.fault c.in-Interleaved.off _ _ c.in-Interleaved.is c.number.ensures c.name.ensures) c.put_fault_at.ensures

pub returns-in-Refused : goal.returns-in-Refused
returns-in-Refused g c =
    let new = c.put_fault_at-in-Refused.new.out in
    subst (λ (text : List ℕ). Writes (g.S.Sink.written c.args.out.now) (g.S.Sink.has_failed c.args.out.now) (g.S.Sink.written new) (g.S.Sink.has_failed new) text)
    (refused-line c.args.fault _ c.in-Refused.off _ _ c.in-Refused.is c.number-in-Refused.ensures c.name-in-Refused.ensures) c.put_fault_at-in-Refused.ensures

pub returns-in-Store : goal.returns-in-Store
returns-in-Store g c =
    let new = c.put_store_fault.new.out in
    subst (λ (fault : PartsFault). Writes (g.S.Sink.written c.args.out.now) (g.S.Sink.has_failed c.args.out.now) (g.S.Sink.written new) (g.S.Sink.has_failed new) (parts_fault_line fault))
    (sym c.in-Store.is) c.put_store_fault.ensures
