use Rattle.osm_value.proofs.SinkLemmas.{Wrote-text}
use Rattle.pbfrow_reading.proofs.CommandTexts.{frame_parts}
use Rattle.pbfrow_reading.proofs.list.put_frame.Goals as goal

pub returns : goal.returns
returns g c = λ start before h.
    Wrote-text start _ _ _ _ (frame_parts before c.args.at c.args.frame.now.type_name.now c.args.frame.now.blob.now)
    (c.put-3.ensures start _ (c.put_digits-2.ensures start _ (c.put-2.ensures start _ (c.put_type.ensures start _ (c.put.ensures start _ (c.put_digits.ensures start before h))))))
