use Rattle.std.proofs.Common.{sym, subst}
use Rattle.sqlite_trees.specs.View.{IsClean}
use Rattle.osm_databases.specs.Checked.{IsOfVersion}
use Rattle.osm_databases.specs.declared.reason.Refusal.{Refusal}
use Rattle.osm_databases.proofs.Told.{told_of}
use Rattle.osm_databases.proofs.databases.open_checked.Goals as goal

pub returns-clause-checked : goal.returns-clause-checked
returns-clause-checked g c = λ clean.
    let known = rw c.in-Some.is at c.in_ok-found.ensures.version in
    let version = subst (λ (s : g.row.D-Trees.Denot). IsClean (g.D.Trees.Store.view s) → IsOfVersion (g.D.Trees.Store.view s)) (sym c.in_ok-kept.ensures.same) known in
    told_of (λ (refusal : Refusal). refusal.fault) _ _ _ _ c.tell_refusal.ensures c.in_ok-store.was c.check_store.ensures.checked clean version c.in_ok-kept.ensures.store

pub returns-clause-added : goal.returns-clause-added
returns-clause-added g c = λ clean. told_of (λ (refusal : Refusal). refusal.fault) _ _ _ _ c.tell_refusal.ensures c.in_ok-store.was c.check_store.ensures.added clean

pub returns-clause-look : goal.returns-clause-look
returns-clause-look g c = λ clean. told_of (λ (refusal : Refusal). refusal.fault) _ _ _ _ c.tell_refusal.ensures c.in_ok-store.was c.check_store.ensures.look clean

pub returns-clause-found : goal.returns-clause-found
returns-clause-found g c =
    let given = rw c.in-Some.is at c.in_ok-found.ensures.given in
    let version = rw c.in-Some.is at c.in_ok-found.ensures.version in
    record {
      first = c.in_ok-kept.kept;
      found = record {
        given = subst (λ (s : g.row.D-Trees.Denot). g.D.Databases.gives c.args.databases.now c.args.name.now s) (sym c.in_ok-kept.ensures.same) given;
        version = subst (λ (s : g.row.D-Trees.Denot). IsClean (g.D.Trees.Store.view s) → IsOfVersion (g.D.Trees.Store.view s)) (sym c.in_ok-kept.ensures.same) version;
      };
      reads = λ clean. told_of (λ (refusal : Refusal). refusal.fault) _ _ _ _ c.tell_refusal.ensures c.in_ok-store.was c.check_store.ensures.reads clean;
    }
