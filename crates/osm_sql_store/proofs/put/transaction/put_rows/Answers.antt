use Rattle.std.proofs.Common.{◌≡◌, IsTrue, OnErr, sym, subst, rules, arith}
use Rattle.sqlite.specs.State.{HasCleanDisk, Survives}
use Rattle.sqlite.specs.Held.{state}
use Rattle.osm_sql_store.specs.Put.Steps.{MayPut, KeepsAll}
use Rattle.osm_sql_store.proofs.PutLemmas.RowSteps.{put_survives, put_undone}
use Rattle.osm_sql_store.proofs.put.transaction.put_rows.Goals as goal

pub returns-clause-crash : goal.returns-clause-crash
returns-clause-crash g c =
    let old = c.args.connection.now in
    let begun = c.transaction-transaction.ensures.begun in
    let whole = put_survives g.S.Store old c.write_rows.new.transaction.conn.now c.commit.new.self.0 g.L.StoreLayout.LAYOUT c.args.extent.now c.args.elements.now
    (rw begun at c.write_rows.ensures.step.goes_on.survives) (λ clean. rw begun at c.in_ok-write_rows.ensures.written clean) c.in_ok-write_rows.ensures.can_store c.commit.ensures.survives in
    let same : c.commit.new.self.0 ≡ c.connection-2-1.given.0 = search rules in
    subst (λ h. Survives (state g.S.Store old) (state g.S.Store h) (MayPut g.L.StoreLayout.LAYOUT (state g.S.Store old) c.args.extent.now c.args.elements.now)) same whole

pub returns-in_err-commit-clause-crash : goal.returns-in_err-commit-clause-crash
returns-in_err-commit-clause-crash g c =
    let old = c.args.connection.now in
    let begun = c.transaction-transaction.ensures.begun in
    let whole = put_survives g.S.Store old c.write_rows.new.transaction.conn.now c.commit.new.self.0 g.L.StoreLayout.LAYOUT c.args.extent.now c.args.elements.now
    (rw begun at c.write_rows.ensures.step.goes_on.survives) (λ clean. rw begun at c.in_ok-write_rows.ensures.written clean) c.in_ok-write_rows.ensures.can_store c.commit.ensures.survives in
    let same : c.commit.new.self.0 ≡ c.connection-2-1.given.0 = search rules in
    subst (λ h. Survives (state g.S.Store old) (state g.S.Store h) (MayPut g.L.StoreLayout.LAYOUT (state g.S.Store old) c.args.extent.now c.args.elements.now)) same whole

pub returns-in_err-commit-clause-unchanged : goal.returns-in_err-commit-clause-unchanged
returns-in_err-commit-clause-unchanged g c clean there =
    let old = c.args.connection.now in
    let begun = c.transaction-transaction.ensures.begun in
    let same : c.connection-2-1.given.0 ≡ c.commit.new.self.0 = search rules in
    let end = c.commit.new.self.0 in
    let ended : HasCleanDisk (state g.S.Store end) = subst (λ h. HasCleanDisk (state g.S.Store h)) same clean in
    let opened : IsTrue (state g.S.Store end).is_open = subst (λ h. IsTrue (state g.S.Store h).is_open) same there in
    let early : HasCleanDisk (state g.S.Store c.write_rows.new.transaction.conn.now) = omega (arith, c.commit.ensures.survives.clean, ended) in
    let kept = rw begun at c.write_rows.ensures.step.goes_on.kept early in
    let inside = (c.in_ok-write_rows.ensures.written early).inside in
    let undone = put_undone g.S.Store old c.write_rows.new.transaction.conn.now end g.L.StoreLayout.LAYOUT c.args.extent.now c.args.elements.now ended opened (c.is_autocommit-settled.ensures.settled (search rules)) kept inside _ (c.in_err-commit.ensures.err ended) in
    subst (λ h. OnErr c.from_residual-in_err-commit.result (KeepsAll (state g.S.Store old) (state g.S.Store h))) (sym same) (search (rules, undone))
