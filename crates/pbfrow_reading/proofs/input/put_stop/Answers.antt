use Rattle.std.proofs.Common.{List, ℕ, ◌++◌, subst}
use Rattle.osm_value.specs.Sink.{Wrote}
use Rattle.osm_reading.specs.Lines.{fault_line}
use Rattle.osm_reading.specs.StopFaults.{stop_name_of}
use Rattle.pbfrow_reading.proofs.input.put_stop.Goals as goal

pub returns : goal.returns
returns g c = λ start before h.
    let written = g.S.Sink.written c.put_fault_at.new.out in
    let failed = g.S.Sink.has_failed c.put_fault_at.new.out in
    subst (λ n. Wrote start (before ++ fault_line n (stop_name_of c.args.stop.fault) c.args.stop.at) written failed) c.number.ensures
    (subst (λ (name : List ℕ). Wrote start (before ++ fault_line c.number.result name c.args.stop.at) written failed) c.name.ensures (c.put_fault_at.ensures start before h))
