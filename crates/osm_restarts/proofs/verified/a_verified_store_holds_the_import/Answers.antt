use Rattle.std.proofs.Common.{subst}
use Rattle.sqlite_trees.specs.Tree.{Trees}
use Rattle.osm_tree_audits.specs.Looks.{IsLook}
use Rattle.osm_restarts.proofs.VerifiedLemmas.{verified_holds}
use Rattle.osm_restarts.proofs.verified.a_verified_store_holds_the_import.Goals as goal

pub returns-clause-imported : goal.returns-clause-imported
returns-clause-imported g c frames looked keep =
    let store = c.args.store.now in
    let holds = verified_holds (g.S.Store.view store.trees.store) (λ up. g.met.S.Store.ordered store.trees.store up) looked.clean looked.checked looked.listed frames keep in
    let seen = subst (λ (db : Trees). IsLook db store.look) looked.checked.indexed.settled looked.look in
    (holds.0, holds.1, (holds.2, seen))

pub returns-clause-trees : goal.returns-clause-trees
returns-clause-trees g c held holds = holds.0
