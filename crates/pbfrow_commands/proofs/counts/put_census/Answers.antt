use Rattle.std.proofs.Common.{[], sym, ◌∙◌}
use Rattle.osm_value.proofs.SinkLemmas.{started}
use Rattle.pbfrow_commands.proofs.CensusLemmas.{census-line}
use Rattle.pbfrow_commands.proofs.StatusLemmas.{tells-front, tells-whole}
use Rattle.pbfrow_commands.proofs.counts.put_census.Goals as goal

pub returns-then-failed-clause-told : goal.returns-then-failed-clause-told
returns-then-failed-clause-told g c = λ held size census.
    let old = g.S.Sink.written c.args.out.now in
    let last = c.put_element_counts.new.out in
    tells-front _ old (g.S.Sink.written last) (g.S.Sink.has_failed last) (sym c.if-failed.ensures)
    (census-line held size c.args.census.now c.deref.result.now c.len.result old (g.S.Sink.written c.put_counts.new.out) (g.S.Sink.written last) (g.S.Sink.has_failed c.put_counts.new.out) (g.S.Sink.has_failed last) census
    c.deref.ensures.value (c.len.ensures ∙ sym c.deref.ensures.len) (c.put_counts.ensures _ _ (c.put_gaps.ensures _ [] (started _ _))) (c.put_element_counts.ensures old))

pub returns-else-failed-clause-told : goal.returns-else-failed-clause-told
returns-else-failed-clause-told g c = λ held size census.
    let old = g.S.Sink.written c.args.out.now in
    let last = c.put_element_counts.new.out in
    tells-whole _ old (g.S.Sink.written last) (g.S.Sink.has_failed last) (sym c.if-failed.ensures)
    (census-line held size c.args.census.now c.deref.result.now c.len.result old (g.S.Sink.written c.put_counts.new.out) (g.S.Sink.written last) (g.S.Sink.has_failed c.put_counts.new.out) (g.S.Sink.has_failed last) census
    c.deref.ensures.value (c.len.ensures ∙ sym c.deref.ensures.len) (c.put_counts.ensures _ _ (c.put_gaps.ensures _ [] (started _ _))) (c.put_element_counts.ensures old))
