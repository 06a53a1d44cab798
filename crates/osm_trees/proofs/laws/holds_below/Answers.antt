use Rattle.osm_trees.proofs.Bridge as bridge
use Rattle.osm_trees.proofs.laws.holds_below.Goals as goal

pub returns : goal.returns
returns g c layout held holds unbroken = bridge.holds_below g.S.Store c.args.connection.now layout held holds unbroken
