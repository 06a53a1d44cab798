use Rattle.osm_value.proofs.SinkLemmas.{Wrote-text}
use Rattle.pbfrow_commands.proofs.CommandTexts.{copied_parts}
use Rattle.pbfrow_commands.proofs.migrate.put_copied.Goals as goal

pub returns : goal.returns
returns g c = λ start before h.
    Wrote-text start _ _ _ _ (copied_parts before c.args.counts)
    (c.put.ensures start _ (c.put_total-2.ensures start _ (c.put_total.ensures start before h)))
