use Rattle.osm_value.proofs.SinkLemmas.{Wrote-text}
use Rattle.pbfrow_commands.proofs.VerdictLines.{line_parts}
use Rattle.pbfrow_commands.proofs.verify_parts.put_counts.Goals as goal

pub returns : goal.returns
returns g c = λ start before h.
    Wrote-text start _ _ _ _ (line_parts before c.args.blobs c.args.gaps c.args.others c.args.extra)
    (c.put.ensures start _ (c.put_total-4.ensures start _ (c.put_total-3.ensures start _ (c.put_total-2.ensures start _ (c.put_total.ensures start before h)))))
