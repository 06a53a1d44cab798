use Rattle.osm_value.proofs.SinkLemmas.{Wrote-text}
use Rattle.pbfrow_reading.proofs.CommandTexts.{text_parts}
use Rattle.pbfrow_reading.proofs.show.put_text.Goals as goal

pub returns : goal.returns
returns g c = λ start before h.
    Wrote-text start _ _ _ _ (text_parts before c.args.label.now c.args.text.now) (c.put-2.ensures start _ (c.put_escaped.ensures start _ (c.put.ensures start before h)))
