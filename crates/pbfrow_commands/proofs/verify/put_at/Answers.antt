use Rattle.osm_value.proofs.SinkLemmas.{Wrote-text}
use Rattle.pbfrow_commands.proofs.VerifyLemmas.{at_parts}
use Rattle.pbfrow_commands.proofs.verify.put_at.Goals as goal

pub returns : goal.returns
returns g c = λ start before h.
    Wrote-text start _ _ _ _ (at_parts before c.args.label.now c.args.off) (c.put-2.ensures start _ (c.put_digits.ensures start _ (c.put.ensures start before h)))
