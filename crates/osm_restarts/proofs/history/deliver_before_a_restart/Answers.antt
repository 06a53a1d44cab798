use Rattle.std.proofs.Common.{◌≡◌, sym, subst, inl}
use Rattle.sqlite_trees.specs.Objects.{catalog_tree}
use Rattle.sqlite_trees.specs.View.{IsClean}
use Rattle.sqlite_store.specs.FileStore.{view, recovers}
use Rattle.osm_trees.specs.Below.{MayLeave, LeavesAMap, ListsAlways}
use Rattle.osm_import.specs.Deliveries.{DeliveryValue}
use Rattle.osm_import.specs.Histories.{LeavesEvents, answered, broken}
use Rattle.osm_openings.specs.Asked.{IsFoundAgain}
use Rattle.osm_restarts.specs.Further.{LeavesDelivery}
use Rattle.osm_restarts.proofs.Events.{one_event}
use Rattle.osm_restarts.proofs.ListLemmas.{lists_still}
use Rattle.osm_restarts.proofs.history.deliver_before_a_restart.Goals as goal

pub returns-clause-list : goal.returns-clause-list
returns-clause-list g c held holds clean =
    let same : c.into_store-store.result ≡ c.deliver-answer.new.keeper.store = c.into_store-store.ensures in
    let honest : IsClean (view c.deliver-answer.new.keeper.store) = subst (λ s. IsClean (view s)) same clean in
    let rows = (view c.args.keeper.store).trees catalog_tree in
    subst (λ s. ListsAlways (view s) (recovers s) rows) (sym same)
    (c.deliver-answer.ensures.list held holds honest rows (lists_still g.met.D.Disk.seen_may_stay c.args.keeper.store held holds))

pub returns-clause-opens : goal.returns-clause-opens
returns-clause-opens g c held holds found clean image crashed =
    let listed = returns-clause-list g c held holds clean in
    c.what_is_left_may_be_opened.ensures (λ db left. inl (subst IsFoundAgain (sym (listed.left db left)) found)) image crashed

pub returns-clause-leaves : goal.returns-clause-leaves
returns-clause-leaves g c clean = λ held holds.
    let same : c.into_store-store.result ≡ c.deliver-answer.new.keeper.store = c.into_store-store.ensures in
    let delivery : DeliveryValue = record { off = c.args.off; bytes = c.args.bytes.now } in
    let honest : IsClean (view c.deliver-answer.new.keeper.store) = subst (λ s. IsClean (view s)) same clean in
    let leaves = subst (λ s. LeavesEvents (MayLeave (recovers s)) held delivery c.deliver-answer.result) (sym same) (c.deliver-answer.ensures.events held holds honest) in
    let whole = subst (λ s. LeavesAMap (recovers s)) (sym same) (c.deliver-answer.ensures.whole held holds honest) in
    record { whole = whole; history = λ left it. one_event held (broken delivery) left (leaves.of_broken left it) }

pub returns-clause-leaves_answered : goal.returns-clause-leaves_answered
returns-clause-leaves_answered g c clean sound = λ held holds.
    let same : c.into_store-store.result ≡ c.deliver-answer.new.keeper.store = c.into_store-store.ensures in
    let delivery : DeliveryValue = record { off = c.args.off; bytes = c.args.bytes.now } in
    let honest : IsClean (view c.deliver-answer.new.keeper.store) = subst (λ s. IsClean (view s)) same clean in
    let leaves = subst (λ s. LeavesEvents (MayLeave (recovers s)) held delivery c.deliver-answer.result) (sym same) (c.deliver-answer.ensures.events held holds honest) in
    let whole = subst (λ s. LeavesAMap (recovers s)) (sym same) (c.deliver-answer.ensures.whole held holds honest) in
    record { whole = whole; history = λ left it. one_event held (answered delivery c.deliver-answer.result) left (leaves.of_answered sound left it) }

pub returns-clause-goes_on : goal.returns-clause-goes_on
returns-clause-goes_on g c frames of clean events before again =
    let same : c.into_store-store.result ≡ c.deliver-answer.new.keeper.store = c.into_store-store.ensures in
    let delivery : DeliveryValue = record { off = c.args.off; bytes = c.args.bytes.now } in
    let honest : IsClean (view c.deliver-answer.new.keeper.store) = subst (λ s. IsClean (view s)) same clean in
    let leaves = subst (λ s. LeavesEvents (MayLeave (recovers s)) before.held delivery c.deliver-answer.result) (sym same) (c.deliver-answer.ensures.events before.held before.holds honest) in
    let whole = subst (λ s. LeavesAMap (recovers s)) (sym same) (c.deliver-answer.ensures.whole before.held before.holds honest) in
    let behind : LeavesDelivery frames events delivery c.deliver-answer.result (recovers c.into_store-store.result)
    = record { held = before.held; comes_of = before.comes_of; of_file = of; whole = whole; leaves = leaves } in
    c.a_restart_goes_on.ensures.broken frames events delivery c.deliver-answer.result behind again

pub returns-clause-answered : goal.returns-clause-answered
returns-clause-answered g c frames of clean sound events before again =
    let same : c.into_store-store.result ≡ c.deliver-answer.new.keeper.store = c.into_store-store.ensures in
    let delivery : DeliveryValue = record { off = c.args.off; bytes = c.args.bytes.now } in
    let honest : IsClean (view c.deliver-answer.new.keeper.store) = subst (λ s. IsClean (view s)) same clean in
    let leaves = subst (λ s. LeavesEvents (MayLeave (recovers s)) before.held delivery c.deliver-answer.result) (sym same) (c.deliver-answer.ensures.events before.held before.holds honest) in
    let whole = subst (λ s. LeavesAMap (recovers s)) (sym same) (c.deliver-answer.ensures.whole before.held before.holds honest) in
    let behind : LeavesDelivery frames events delivery c.deliver-answer.result (recovers c.into_store-store.result)
    = record { held = before.held; comes_of = before.comes_of; of_file = of; whole = whole; leaves = leaves } in
    c.a_restart_goes_on.ensures.answered frames events delivery c.deliver-answer.result behind sound again
