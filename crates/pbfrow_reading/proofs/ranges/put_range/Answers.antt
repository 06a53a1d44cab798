use Rattle.osm_value.proofs.SinkLemmas.{Wrote-text}
use Rattle.pbfrow_reading.proofs.CommandTexts.{range_parts}
use Rattle.pbfrow_reading.proofs.ranges.put_range.Goals as goal

pub returns : goal.returns
returns g c = λ start before h.
    Wrote-text start _ _ _ _ (range_parts before c.args.range)
    (c.put-2.ensures start _ (c.put_digits-2.ensures start _ (c.put.ensures start _ (c.put_digits.ensures start before h))))
