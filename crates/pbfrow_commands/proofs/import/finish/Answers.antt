use Rattle.std.proofs.Common.{[], Result, sym, subst}
use Rattle.osm_value.proofs.SinkLemmas.{started}
use Rattle.osm_import.specs.declared.stream.summary.Summary.{Summary}
use Rattle.osm_import.specs.declared.stream.fault.ImportStop.{ImportStop}
use Rattle.pbfrow_commands.specs.Importing.{EndsLine}
use Rattle.pbfrow_commands.proofs.import.finish.Goals as goal

pub returns-then-not-failed-clause-line : goal.returns-then-not-failed-clause-line
returns-then-not-failed-clause-line g c =
    let new = c.put_summary.new.out in
    subst (λ (o : Result Summary ImportStop). EndsLine (g.S.Sink.written c.args.out.now) (g.S.Sink.written new) (g.S.Sink.has_failed new) o) (sym c.in-Ok.is) (c.put_summary.ensures _ [] (started _ _))

pub returns-else-summary-eq0-clause-line : goal.returns-else-summary-eq0-clause-line
returns-else-summary-eq0-clause-line g c =
    let new = c.put_summary.new.out in
    subst (λ (o : Result Summary ImportStop). EndsLine (g.S.Sink.written c.args.out.now) (g.S.Sink.written new) (g.S.Sink.has_failed new) o) (sym c.in-Ok.is) (c.put_summary.ensures _ [] (started _ _))
