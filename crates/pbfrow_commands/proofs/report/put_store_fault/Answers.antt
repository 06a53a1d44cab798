use Rattle.std.proofs.Common.{◌++◌, List, ℕ, subst}
use Rattle.osm_value.specs.Sink.{Wrote}
use Rattle.osm_rows.specs.Faults.{name_of}
use Rattle.osm_reading.specs.Lines.{plain_fault_line}
use Rattle.pbfrow_commands.proofs.report.put_store_fault.Goals as goal

pub returns : goal.returns
returns g c = λ start before h.
    subst (λ n. Wrote start (before ++ plain_fault_line n (name_of c.args.fault)) (g.S.Sink.written c.put_plain_fault.new.out) (g.S.Sink.has_failed c.put_plain_fault.new.out)) c.number.ensures
    (subst (λ (name : List ℕ). Wrote start (before ++ plain_fault_line c.number.result name) (g.S.Sink.written c.put_plain_fault.new.out) (g.S.Sink.has_failed c.put_plain_fault.new.out)) c.name.ensures (c.put_plain_fault.ensures start before h))
