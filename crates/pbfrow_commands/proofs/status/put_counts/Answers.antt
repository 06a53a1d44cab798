use Rattle.osm_value.proofs.SinkLemmas.{Wrote-text}
use Rattle.pbfrow_commands.proofs.CommandTexts.{counts_parts}
use Rattle.pbfrow_commands.proofs.status.put_counts.Goals as goal

pub returns : goal.returns
returns g c = λ start before h.
    Wrote-text start _ _ _ _ (counts_parts before c.args.blobs c.args.end c.args.gaps)
    (c.put.ensures start _ (c.put_total-3.ensures start _ (c.put_total-2.ensures start _ (c.put_total.ensures start before h))))
