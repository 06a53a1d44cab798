use Rattle.osm_value.proofs.SinkLemmas.{Wrote-text}
use Rattle.pbfrow_counts.proofs.TextLemmas.{links_parts}
use Rattle.pbfrow_counts.proofs.lines.put_links.Goals as goal

pub returns : goal.returns
returns g c = λ start before h.
    Wrote-text start _ _ _ _ (links_parts before c.args.counts.now)
    (c.put.ensures start _ (c.put_total-2.ensures start _ (c.put_total.ensures start before h)))
