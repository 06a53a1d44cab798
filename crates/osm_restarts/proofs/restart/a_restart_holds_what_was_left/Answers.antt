use Rattle.osm_restarts.proofs.Held.{reopened_holds}
use Rattle.osm_restarts.proofs.restart.a_restart_holds_what_was_left.Goals as goal

pub returns : goal.returns
returns g c leaves again = reopened_holds c.args.before.now c.args.after.now leaves again
