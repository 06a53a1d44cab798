use Rattle.std.proofs.Common.{List, ℕ, Result, sym, subst}
use Rattle.osm_value.specs.Sink.{Writes}
use Rattle.osm_import.specs.CopyFaults.{copy_name_of}
use Rattle.osm_reading.specs.Lines.{fault_line}
use Rattle.osm_import.specs.declared.copy.CopyCounts.{CopyCounts}
use Rattle.osm_import.specs.declared.copy.CopyStop.{CopyStop}
use Rattle.pbfrow_commands.specs.Copying.{outcome_line}
use Rattle.pbfrow_commands.proofs.migrate.put_outcome.Goals as goal

pub returns-then-failed-clause-line : goal.returns-then-failed-clause-line
returns-then-failed-clause-line g c =
    let old = c.args.out.now in
    let new = c.put_copied.new.out in
    subst (λ (o : Result CopyCounts CopyStop). Writes (g.S.Sink.written old) (g.S.Sink.has_failed old) (g.S.Sink.written new) (g.S.Sink.has_failed new) (outcome_line o)) (sym c.in-Ok.is) c.put_copied.ensures

pub returns-else-failed-clause-line : goal.returns-else-failed-clause-line
returns-else-failed-clause-line g c =
    let old = c.args.out.now in
    let new = c.put_copied.new.out in
    subst (λ (o : Result CopyCounts CopyStop). Writes (g.S.Sink.written old) (g.S.Sink.has_failed old) (g.S.Sink.written new) (g.S.Sink.has_failed new) (outcome_line o)) (sym c.in-Ok.is) c.put_copied.ensures

pub returns-in-Err-clause-line : goal.returns-in-Err-clause-line
returns-in-Err-clause-line g c =
    let old = c.args.out.now in
    let new = c.put_fault_at.new.out in
    let stop = c.in-Err.stop in
    let Told : List ℕ → Type 0 = λ text. Writes (g.S.Sink.written old) (g.S.Sink.has_failed old) (g.S.Sink.written new) (g.S.Sink.has_failed new) text in
    subst (λ (o : Result CopyCounts CopyStop). Told (outcome_line o)) (sym c.in-Err.is)
    (subst (λ n. Told (fault_line n (copy_name_of stop.fault) stop.off)) c.number.ensures
    (subst (λ (name : List ℕ). Told (fault_line c.number.result name stop.off)) c.name.ensures c.put_fault_at.ensures))
