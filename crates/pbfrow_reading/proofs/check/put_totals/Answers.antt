use Rattle.osm_value.proofs.SinkLemmas.{Wrote-text}
use Rattle.pbfrow_reading.proofs.CommandTexts.{totals_parts}
use Rattle.pbfrow_reading.proofs.check.put_totals.Goals as goal

pub returns : goal.returns
returns g c = λ start before h.
    Wrote-text start _ _ _ _ (totals_parts before c.args.counts.now)
    (c.put.ensures start _
    (c.put_total-5.ensures start _ (c.put_total-4.ensures start _ (c.put_total-3.ensures start _ (c.put_total-2.ensures start _ (c.put_total.ensures start before h))))))
