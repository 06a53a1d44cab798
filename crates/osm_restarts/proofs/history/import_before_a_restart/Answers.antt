use Rattle.std.proofs.Common.{◌≡◌, sym, subst, inl}
use Rattle.sqlite_trees.specs.Objects.{catalog_tree}
use Rattle.sqlite_trees.specs.View.{IsClean}
use Rattle.sqlite_store.specs.FileStore.{view, recovers}
use Rattle.osm_trees.specs.Below.{MayLeave, LeavesAMap, ListsAlways}
use Rattle.osm_import.specs.FileHistories.{events_of}
use Rattle.osm_import.specs.Streams.{answers_of, deliveries_at}
use Rattle.osm_import.proofs.StreamHistory.{leaves-history, stream-all, stream-of_file, stream-took}
use Rattle.osm_openings.specs.Asked.{IsFoundAgain}
use Rattle.osm_restarts.specs.Further.{CrashesAfterStream, StreamGoesOn}
use Rattle.osm_restarts.proofs.ListLemmas.{lists_still}
use Rattle.osm_restarts.proofs.history.import_before_a_restart.Goals as goal

pub returns-clause-list : goal.returns-clause-list
returns-clause-list g c held holds clean =
    let same : c.into_store-store.result ≡ c.import_stream-outcome.new.keeper.store = c.into_store-store.ensures in
    let honest : IsClean (view c.import_stream-outcome.new.keeper.store) = subst (λ s. IsClean (view s)) same clean in
    let rows = (view c.args.keeper.store).trees catalog_tree in
    let before = lists_still g.met.D.Disk.seen_may_stay c.args.keeper.store held holds in
    subst (λ s. ListsAlways (view s) (recovers s) rows) (sym same)
    (stream-all _ _ _ _ _ (ListsAlways (view c.import_stream-outcome.new.keeper.store) (recovers c.import_stream-outcome.new.keeper.store) rows) _ c.import_stream-outcome.ensures.streams
    (λ ds rs took. took.list held holds honest rows before))

pub returns-clause-opens : goal.returns-clause-opens
returns-clause-opens g c held holds found clean image crashed =
    let listed = returns-clause-list g c held holds clean in
    c.what_is_left_may_be_opened.ensures (λ db left. inl (subst IsFoundAgain (sym (listed.left db left)) found)) image crashed

pub returns-clause-leaves : goal.returns-clause-leaves
returns-clause-leaves g c frames part clean =
    let same : c.into_store-store.result ≡ c.import_stream-outcome.new.keeper.store = c.into_store-store.ensures in
    let honest : IsClean (view c.import_stream-outcome.new.keeper.store) = subst (λ s. IsClean (view s)) same clean in
    stream-took _ _ _ _ _ (CrashesAfterStream frames c.args.keeper.store c.into_store-store.result) _ part.piece c.import_stream-outcome.ensures.streams part.given
    (λ rs x whole front took. (
      stream-of_file frames c.args.from part.piece rs x part.whole part.stands whole front,
      λ held holds. record {
        whole = subst (λ s. LeavesAMap (recovers s)) (sym same) (took.whole held holds honest);
        history = λ left it. leaves-history _ held (deliveries_at c.args.from rs) (answers_of rs) (took.crash held holds honest) left (subst (λ s. MayLeave (recovers s) left) same it);
      },
    ))

pub returns-clause-goes_on : goal.returns-clause-goes_on
returns-clause-goes_on g c frames part clean =
    stream-took _ _ _ _ _ (StreamGoesOn frames c.args.keeper.store c.into_store-store.result c.args.after.now) _ part.piece (returns-clause-leaves g c frames part clean) part.given
    (λ rs x whole front leaves. λ events before again. c.a_restart_goes_on.ensures.events frames events (events_of (deliveries_at c.args.from rs) (answers_of rs))
    (record { held = before.held; comes_of = before.comes_of; of_file = leaves.0; leaves = leaves.1 before.held before.holds }) again)
