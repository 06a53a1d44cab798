use Rattle.osm_value.proofs.SinkLemmas.{Wrote-text}
use Rattle.pbfrow_counts.proofs.TextLemmas.{counts_parts}
use Rattle.pbfrow_counts.proofs.lines.put_element_counts.Goals as goal

pub returns : goal.returns
returns g c = λ start before h.
    Wrote-text start _ _ _ _ (counts_parts before c.args.counts.now)
    (c.put_times.ensures start _ (c.put_links.ensures start _ (c.put_kinds.ensures start before h)))
