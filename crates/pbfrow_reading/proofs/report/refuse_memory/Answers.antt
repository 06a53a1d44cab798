use Rattle.std.proofs.Common.{◌++◌, List, ℕ, Option, subst, sym}
use Rattle.osm_value.specs.Sink.{Wrote}
use Rattle.osm_reading.specs.Lines.{fault_line, plain_fault_line}
use Rattle.osm_reading.specs.StopFaults.{stop_name_of}
use Rattle.osm_reading.specs.declared.stream.fault.Stop.TheVariants.{Memory}
use Rattle.pbfrow_reading.specs.CommandLines.{memory_line}
use Rattle.pbfrow_reading.proofs.report.refuse_memory.Goals as goal

pub returns-in-Some-clause-line : goal.returns-in-Some-clause-line
returns-in-Some-clause-line g c = λ start before h.
    let out = c.put_fault_at.new.out in
    subst (λ (at : Option ℕ). Wrote start (before ++ memory_line at) (g.S.Sink.written out) (g.S.Sink.has_failed out)) (sym c.in-Some.is)
    (subst (λ n. Wrote start (before ++ fault_line n (stop_name_of Memory) c.in-Some.off) (g.S.Sink.written out) (g.S.Sink.has_failed out)) c.number.ensures
    (subst (λ (name : List ℕ). Wrote start (before ++ fault_line c.number.result name c.in-Some.off) (g.S.Sink.written out) (g.S.Sink.has_failed out)) c.name.ensures (c.put_fault_at.ensures start before h)))

pub returns-in-None-clause-line : goal.returns-in-None-clause-line
returns-in-None-clause-line g c = λ start before h.
    let out = c.put_plain_fault.new.out in
    subst (λ (at : Option ℕ). Wrote start (before ++ memory_line at) (g.S.Sink.written out) (g.S.Sink.has_failed out)) (sym c.in-None.is)
    (subst (λ n. Wrote start (before ++ plain_fault_line n (stop_name_of Memory)) (g.S.Sink.written out) (g.S.Sink.has_failed out)) c.number-in-None.ensures
    (subst (λ (name : List ℕ). Wrote start (before ++ plain_fault_line c.number-in-None.result name) (g.S.Sink.written out) (g.S.Sink.has_failed out)) c.name-in-None.ensures (c.put_plain_fault.ensures start before h)))
