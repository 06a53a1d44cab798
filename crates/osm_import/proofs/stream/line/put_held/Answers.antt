use Rattle.osm_value.proofs.SinkLemmas.{Wrote-text}
use Rattle.osm_import.proofs.AnswerLines.{held_parts}
use Rattle.osm_import.proofs.stream.line.put_held.Goals as goal

pub returns : goal.returns
returns g c = λ start before h. Wrote-text start _ _ _ _ (held_parts before c.args.off) (c.put.ensures start _ (c.put_digits.ensures start before h))
