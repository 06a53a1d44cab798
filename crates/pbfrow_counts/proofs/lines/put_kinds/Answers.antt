use Rattle.osm_value.proofs.SinkLemmas.{Wrote-text}
use Rattle.pbfrow_counts.proofs.TextLemmas.{kinds_parts}
use Rattle.pbfrow_counts.proofs.lines.put_kinds.Goals as goal

pub returns : goal.returns
returns g c = λ start before h.
    Wrote-text start _ _ _ _ (kinds_parts before c.args.counts.now)
    (c.put.ensures start _ (c.put_total-3.ensures start _ (c.put_total-2.ensures start _ (c.put_total.ensures start before h))))
