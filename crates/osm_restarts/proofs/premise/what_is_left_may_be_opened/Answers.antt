use Rattle.osm_restarts.proofs.PremiseLemmas.{left_may_be_opened}
use Rattle.osm_restarts.proofs.premise.what_is_left_may_be_opened.Goals as goal

pub returns : goal.returns
returns g c lists image crashed = left_may_be_opened c.args.store.now crashed.plain lists image crashed.left
