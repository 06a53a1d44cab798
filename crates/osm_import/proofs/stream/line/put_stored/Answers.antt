use Rattle.osm_value.proofs.SinkLemmas.{Wrote-text}
use Rattle.osm_import.proofs.AnswerLines.{stored_parts}
use Rattle.osm_import.proofs.stream.line.put_stored.Goals as goal

pub returns : goal.returns
returns g c = λ start before h.
    Wrote-text start _ _ _ _ (stored_parts before c.args.off c.args.count)
    (c.put-2.ensures start _ (c.put_digits-2.ensures start _ (c.put.ensures start _ (c.put_digits.ensures start before h))))
