use Rattle.std.proofs.Common.{◌≡◌, ◌⊎◌, ℕ, Result, Ok, Err, sym, subst, inl, inr}
use Rattle.sqlite_trees.specs.Objects.{catalog_tree}
use Rattle.sqlite_trees.specs.View.{IsClean}
use Rattle.sqlite_store.specs.FileStore.{view, recovers}
use Rattle.osm_rows.specs.Held.{HeldMap}
use Rattle.osm_trees.specs.Below.{MayLeave, LeavesAMap, ListsAlways}
use Rattle.osm_import.specs.Copies.{CrashLeavesSome, IsUnited, IsUnitedBelow}
use Rattle.osm_import.specs.declared.copy.CopyCounts.{CopyCounts}
use Rattle.osm_import.specs.declared.copy.CopyStop.{CopyStop}
use Rattle.osm_openings.specs.Asked.{IsFoundAgain}
use Rattle.osm_restarts.specs.Copied.{IsCopied}
use Rattle.osm_restarts.proofs.Events.{can_crash}
use Rattle.osm_restarts.proofs.ListLemmas.{lists_still}
use Rattle.osm_restarts.proofs.Resumed.{refused_again, united_again}
use Rattle.osm_restarts.proofs.copying.copy_before_a_restart.Goals as goal

pub returns-clause-list : goal.returns-clause-list
returns-clause-list g c held holds clean =
    let same : c.into_store-store.result ≡ c.copy_held-outcome.new.to.store = c.into_store-store.ensures in
    let honest : IsClean (view c.copy_held-outcome.new.to.store) = subst (λ s. IsClean (view s)) same clean in
    let rows = (view c.args.to.store).trees catalog_tree in
    subst (λ s. ListsAlways (view s) (recovers s) rows) (sym same)
    (c.copy_held-outcome.ensures.list held holds honest rows (lists_still g.met.D.Disk.seen_may_stay c.args.to.store held holds))

pub returns-clause-opens : goal.returns-clause-opens
returns-clause-opens g c held holds found clean image crashed =
    let listed = returns-clause-list g c held holds clean in
    c.what_is_left_may_be_opened.ensures (λ db left. inl (subst IsFoundAgain (sym (listed.left db left)) found)) image crashed

some_of : (leaves : HeldMap → Type 0) (source held left : HeldMap) (outcome : Result CopyCounts CopyStop) → CrashLeavesSome leaves source held outcome → leaves left
    → (IsUnited source held left ⊎ ((place : ℕ) × IsUnitedBelow place source held left)) × IsCopied outcome source held left
some_of leaves source held left (Ok counts) crash it = (inl (crash left it), crash left it)
some_of leaves source held left (Err stop) crash it = (inr (crash left it), crash left it)

pub returns-clause-goes_on : goal.returns-clause-goes_on
returns-clause-goes_on g c source held reads given holds clean again =
    let same : c.into_store-store.result ≡ c.copy_held-outcome.new.to.store = c.into_store-store.ensures in
    let honest : IsClean (view c.copy_held-outcome.new.to.store) = subst (λ s. IsClean (view s)) same clean in
    let whole = subst (λ s. LeavesAMap (recovers s)) (sym same) (c.copy_held-outcome.ensures.whole held holds honest) in
    let found = c.a_restart_holds_what_was_left.ensures whole again in
    let left = found.0 in
    let crash = subst (λ s. CrashLeavesSome (MayLeave (recovers s)) source held c.copy_held-outcome.result) (sym same) (c.copy_held-outcome.ensures.crash source held reads given holds honest) in
    let some = some_of (MayLeave (recovers c.into_store-store.result)) source held left c.copy_held-outcome.result crash found.1 in (
      left,
      record {
        holds = found.2;
        copied = some.0;
        again = united_again source held left some.0;
        refused = refused_again source held left some.0;
        crash = can_crash g.met.E.Disk.seen_may_stay c.args.after.now left found.2;
      },
      some.1,
    )
