use Rattle.osm_trees.specs.Reading.{lists_always}
use Rattle.osm_trees.proofs.laws.a_crash_leaves_the_list.Goals as goal

pub returns : goal.returns
returns g c held holds =
    let store = c.args.store.now.store in
    lists_always (g.S.Store.view store) (g.S.Store.recovers store) holds.unbroken holds.settled (λ db up left. g.met.S.Store.settled store db up left) (g.met.S.Store.broken_if_shut store)
