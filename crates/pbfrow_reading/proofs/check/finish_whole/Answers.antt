use Rattle.std.proofs.Common.{length, List, ℕ, ◌+◌, ◌++◌, sym, ap, ◌∙◌}
use Rattle.osm_value.proofs.SinkLemmas.{Wrote-text}
use Rattle.pbfrow_reading.specs.Walks.{status_of}
use Rattle.pbfrow_reading.proofs.CheckLemmas.{all_in, bad_in, empty-end, no-fault, one-more, some-there}
use Rattle.pbfrow_reading.proofs.check.finish_whole.Goals as goal

pub returns-then-counts-eq0-clause-line : goal.returns-then-counts-eq0-clause-line
returns-then-counts-eq0-clause-line g c = λ blobs is start before h.
    let counts = c.add_fault.new.self in
    Wrote-text start _ _ _ _
    (empty-end before blobs c.args.counts.now counts is c.if-counts-eq0.true (one-more blobs counts (c.add_fault.ensures (length blobs) (bad_in blobs + 0) (all_in blobs) is)))
    (c.put_totals.ensures start _ (c.put_stop.ensures start before h))

pub returns-clause-line : goal.returns-clause-line
returns-clause-line g c = λ blobs is start before h.
    Wrote-text start _ _ _ _ (ap (λ (t : List ℕ). before ++ t) (sym (some-there blobs c.args.counts.now is c.if-counts-eq0.false))) (c.put_totals-2.ensures start before h)

pub returns-clause-status : goal.returns-clause-status
returns-clause-status g c = λ blobs is. c.status.ensures.is ∙ ap (λ b. status_of b (g.S.Sink.has_failed c.put_totals-2.new.out)) (no-fault blobs c.args.counts.now is c.if-counts-eq0.false)
