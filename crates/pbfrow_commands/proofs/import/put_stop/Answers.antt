use Rattle.std.proofs.Common.{List, ℕ, [], refl, sym, subst}
use Rattle.osm_value.specs.Sink.{Wrote}
use Rattle.osm_value.proofs.SinkLemmas.{started}
use Rattle.osm_import.specs.ImportFaults.{import_name_of}
use Rattle.osm_import.specs.declared.stream.fault.ImportFault.{ImportFault}
use Rattle.osm_reading.specs.Lines.{fault_line}
use Rattle.pbfrow_commands.specs.Importing.{EndsStop}
use Rattle.pbfrow_commands.proofs.ImportLemmas.{ends-stop}
use Rattle.pbfrow_commands.proofs.import.put_stop.Goals as goal

pub returns-in-WriteFailed-clause-line : goal.returns-in-WriteFailed-clause-line
returns-in-WriteFailed-clause-line g c =
    let written = g.S.Sink.written c.args.out.now in
    subst (λ (fault : ImportFault). EndsStop written written (g.S.Sink.has_failed c.args.out.now) c.args.stop.at fault) (sym c.in-WriteFailed.is) refl

pub returns-in_default-clause-line : goal.returns-in_default-clause-line
returns-in_default-clause-line g c =
    let start = g.S.Sink.written c.args.out.now in
    let written = g.S.Sink.written c.put_fault_at.new.out in
    let failed = g.S.Sink.has_failed c.put_fault_at.new.out in
    let fault = c.args.stop.fault in
    ends-stop start written failed c.args.stop.at fault c.in_default.not-WriteFailed
    (subst (λ n. Wrote start (fault_line n (import_name_of fault) c.args.stop.at) written failed) c.number.ensures
    (subst (λ (name : List ℕ). Wrote start (fault_line c.number.result name c.args.stop.at) written failed) c.name.ensures (c.put_fault_at.ensures start [] (started _ _))))
