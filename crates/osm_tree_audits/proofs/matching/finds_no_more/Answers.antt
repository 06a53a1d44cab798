use Rattle.std.proofs.Common.{[], refl}
use Rattle.osm_tree_audits.specs.Walking.{reached_by}
use Rattle.osm_tree_audits.proofs.Reaching.{none_left}
use Rattle.osm_tree_audits.proofs.matching.finds_no_more.Goals as goal

pub returns-clause-told : goal.returns-clause-told
returns-clause-told g c clean walk =
    let now = reached_by c.args.way (g.S.Store.view c.args.store.now) c.args.of c.args.key.now in
    none_left c.in_ok-more.more now [] now _ c.next_by.new.row refl (c.in_ok-more.ensures.told clean walk)
