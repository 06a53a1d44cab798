use Rattle.osm_restarts.proofs.Events.{life_goes_on}
use Rattle.osm_restarts.proofs.history.a_life_is_one_history.Goals as goal

pub returns : goal.returns
returns g c frames events restarts before restarted =
    let comes_of = before.comes_of in
    life_goes_on {D = g.row.D.Denot} {g = g.D.Disk} g.met.D.Disk.seen_may_stay frames comes_of.whole restarts events before.held c.args.first.now c.args.last.now comes_of.of_file comes_of.history before.holds restarted
