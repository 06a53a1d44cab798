use Rattle.std.proofs.Common.{List, ℕ, [], Err, refl, sym, subst}
use Rattle.osm_value.specs.Sink.{Wrote}
use Rattle.osm_value.proofs.SinkLemmas.{started}
use Rattle.osm_import.specs.declared.export.fault.ExportFault.{ExportFault}
use Rattle.osm_import.specs.declared.export.fault.ExportFault.TheVariants.{Miscounted}
use Rattle.osm_reading.specs.Lines.{plain_fault_line, fault_line}
use Rattle.osm_import.specs.ExportFaults.{export_name_of}
use Rattle.pbfrow_commands.specs.Exporting.{EndsExport}
use Rattle.pbfrow_commands.proofs.ExportLemmas.{ends-export}
use Rattle.pbfrow_commands.proofs.export.put_export_fault.Goals as goal

pub returns-in-WriteFailed-clause-ends : goal.returns-in-WriteFailed-clause-ends
returns-in-WriteFailed-clause-ends g c =
    let written = g.S.Sink.written c.args.out.now in
    subst (λ (fault : ExportFault). EndsExport written written (g.S.Sink.has_failed c.args.out.now) 1 (Err fault)) (sym c.in-WriteFailed.is) (refl, refl)

pub returns-in-Miscounted-clause-ends : goal.returns-in-Miscounted-clause-ends
returns-in-Miscounted-clause-ends g c =
    let start = g.S.Sink.written c.args.out.now in
    let written = g.S.Sink.written c.put_fault_at.new.out in
    let failed = g.S.Sink.has_failed c.put_fault_at.new.out in
    let off = c.in-Miscounted.off in
    subst (λ (fault : ExportFault). EndsExport start written failed 1 (Err fault)) (sym c.in-Miscounted.is) (
      refl,
      subst (λ n. Wrote start (fault_line n (export_name_of (Miscounted off)) off) written failed) c.number.ensures
          (subst (λ (name : List ℕ). Wrote start (fault_line c.number.result name off) written failed) c.name.ensures (c.put_fault_at.ensures start [] (started _ _))),
    )

pub returns-in_default-clause-ends : goal.returns-in_default-clause-ends
returns-in_default-clause-ends g c =
    let start = g.S.Sink.written c.args.out.now in
    let written = g.S.Sink.written c.put_plain_fault.new.out in
    let failed = g.S.Sink.has_failed c.put_plain_fault.new.out in
    ends-export start written failed c.args.fault c.in_default.not-WriteFailed c.in_default.not-Miscounted
    (subst (λ n. Wrote start (plain_fault_line n (export_name_of c.args.fault)) written failed) c.number-in_default.ensures
    (subst (λ (name : List ℕ). Wrote start (plain_fault_line c.number-in_default.result name) written failed) c.name-in_default.ensures (c.put_plain_fault.ensures start [] (started _ _))))
