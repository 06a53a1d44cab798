use Rattle.std.proofs.Common.{[], sym, ◌∙◌}
use Rattle.osm_value.proofs.SinkLemmas.{started}
use Rattle.pbfrow_commands.proofs.StatusLemmas.{status-line, tells-front, tells-whole}
use Rattle.pbfrow_commands.proofs.status.put_holdings.Goals as goal

pub returns-then-failed-clause-told : goal.returns-then-failed-clause-told
returns-then-failed-clause-told g c = λ held size survey.
    tells-front _ (g.S.Sink.written c.args.out.now) (g.S.Sink.written c.put_counts.new.out) (g.S.Sink.has_failed c.put_counts.new.out) (sym c.if-failed.ensures)
    (status-line held size c.args.holdings.now c.deref.result.now c.len.result (g.S.Sink.written c.args.out.now) (g.S.Sink.written c.put_counts.new.out) (g.S.Sink.has_failed c.put_counts.new.out) survey c.deref.ensures.value (c.len.ensures ∙ sym c.deref.ensures.len)
    (c.put_counts.ensures _ _ (c.put_gaps.ensures _ [] (started _ _))))

pub returns-else-failed-clause-told : goal.returns-else-failed-clause-told
returns-else-failed-clause-told g c = λ held size survey.
    tells-whole _ (g.S.Sink.written c.args.out.now) (g.S.Sink.written c.put_counts.new.out) (g.S.Sink.has_failed c.put_counts.new.out) (sym c.if-failed.ensures)
    (status-line held size c.args.holdings.now c.deref.result.now c.len.result (g.S.Sink.written c.args.out.now) (g.S.Sink.written c.put_counts.new.out) (g.S.Sink.has_failed c.put_counts.new.out) survey c.deref.ensures.value (c.len.ensures ∙ sym c.deref.ensures.len)
    (c.put_counts.ensures _ _ (c.put_gaps.ensures _ [] (started _ _))))
