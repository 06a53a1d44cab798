use Rattle.std.proofs.Common.{inl, inr}
use Rattle.sqlite_store.specs.FileStore.{state, view, recovers}
use Rattle.sqlite_store.specs.Laws.{not_broken}
use Rattle.osm_restarts.proofs.BesideLemmas.{kept_by_put, stands_still}
use Rattle.osm_restarts.proofs.beside.put_beside_others.Goals as goal

pub returns-clause-stands : goal.returns-clause-stands
returns-clause-stands g c stands clean =
    let old = c.args.store.now in
    let new = c.put_blob-answer.new.store in
    let e = c.put_blob-answer.ensures in
    stands_still (recovers old) (recovers new) (view old) (view new)
    (kept_by_put (recovers old) (recovers new) _ _ (view old) (view new) c.put_blob-answer.result (λ db puts. puts.catalog) (λ unbroken. (not_broken old.has_failed (state old).is_open unbroken).1)
    e.added e.committed e.unchanged e.clean e.crash) stands clean

pub returns-clause-opens : goal.returns-clause-opens
returns-clause-opens g c stands clean image crashed =
    let now = returns-clause-stands g c stands clean in
    c.what_is_left_may_be_opened.ensures (λ db left. inl (inr (now.left db left))) image crashed
