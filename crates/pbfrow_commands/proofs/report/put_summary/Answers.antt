use Rattle.osm_value.proofs.SinkLemmas.{Wrote-text}
use Rattle.pbfrow_commands.proofs.CommandTexts.{summary_parts}
use Rattle.pbfrow_commands.proofs.report.put_summary.Goals as goal

pub returns : goal.returns
returns g c = λ start before h.
    Wrote-text start _ _ _ _ (summary_parts before c.args.summary.now)
    (c.put.ensures start _ (c.put_total-4.ensures start _ (c.put_total-3.ensures start _ (c.put_total-2.ensures start _ (c.put_total.ensures start before h)))))
