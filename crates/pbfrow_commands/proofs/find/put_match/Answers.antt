use Rattle.osm_value.proofs.SinkLemmas.{Wrote-text}
use Rattle.pbfrow_commands.proofs.CommandTexts.{match_parts}
use Rattle.pbfrow_commands.proofs.find.put_match.Goals as goal

pub returns : goal.returns
returns g c = λ start before h.
    Wrote-text start _ _ _ _ (match_parts before c.args.off c.args.position c.args.element.now)
    (c.write_line-written.ensures.writes start _ (c.put-2.ensures start _ (c.put_digits-2.ensures start _ (c.put.ensures start _ (c.put_digits.ensures start before h)))))
