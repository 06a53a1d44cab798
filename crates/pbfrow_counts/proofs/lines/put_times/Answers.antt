use Rattle.osm_value.proofs.SinkLemmas.{Wrote-text}
use Rattle.pbfrow_counts.proofs.TextLemmas.{times_parts}
use Rattle.pbfrow_counts.proofs.lines.put_times.Goals as goal

pub returns : goal.returns
returns g c = λ start before h.
    Wrote-text start _ _ _ _ (times_parts before c.args.counts.now)
    (c.put.ensures start _ (c.put_time-2.ensures start _ (c.put_time.ensures start before h)))
