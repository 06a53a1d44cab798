use Rattle.std.proofs.Common.{◌≡◌, ◌+◌, ℕ, List, length, sym, subst}
use Rattle.std.proofs.lemmas.Result.{IfOk-weaker}
use Rattle.osm_parts.proofs.OpeningLemmas.{if-err}
use Rattle.osm_verify.specs.Faults.{AuditHasCause}
use Rattle.osm_verify.specs.InFile.{IsIn}
use Rattle.osm_verify.proofs.JudgingLemmas.{found-judged, read-seen}
use Rattle.osm_verify.proofs.part_audit.audit_extent.Goals as goal

pub returns-in_err-bytes-clause-cause : goal.returns-in_err-bytes-clause-cause
returns-in_err-bytes-clause-cause g c =
    let now = g.K.BlobReader.failures c.args.store.now in
    if-err c.from_residual.result c.in_err-bytes.field-0.0 (AuditHasCause now now) c.from_residual.ensures.1 (c.in_err-bytes.ensures.cause now now)

pub returns-in-Some-clause-found : goal.returns-in-Some-clause-found
returns-in-Some-clause-found g c = λ held holds honest.
    let known = g.F.FileBytes.bytes c.args.file.now in
    let extent = c.args.extent.now in
    let read : IsIn known extent.off c.in-Some.bytes.items × (extent.fin ≡ extent.off + length c.in-Some.bytes.items) = rw c.in-Some.is at c.in_ok-bytes.ensures.some in
    let same = sym c.deref.ensures.value in
    let within : IsIn known extent.off c.deref.result.now = subst (λ (w : List ℕ). IsIn known extent.off w) same read.0 in
    let fin : extent.fin ≡ extent.off + length c.deref.result.now = subst (λ (w : List ℕ). extent.fin ≡ extent.off + length w) same read.1 in
    IfOk-weaker c.judge.result _ _ (λ found is. found-judged c.args.depth held known extent c.deref.result.now found within fin is) (c.judge.ensures.found held holds honest)

pub returns-in-Some-clause-seen : goal.returns-in-Some-clause-seen
returns-in-Some-clause-seen g c =
    let K = g.K.BlobReader in
    let A = g.K.Audited in
    let known = g.F.FileBytes.bytes c.args.file.now in
    let extent = c.args.extent.now in
    let read : IsIn known extent.off c.in-Some.bytes.items × (extent.fin ≡ extent.off + length c.in-Some.bytes.items) = rw c.in-Some.is at c.in_ok-bytes.ensures.some in
    let same = sym c.deref.ensures.value in
    let within : IsIn known extent.off c.deref.result.now = subst (λ (w : List ℕ). IsIn known extent.off w) same read.0 in
    let fin : extent.fin ≡ extent.off + length c.deref.result.now = subst (λ (w : List ℕ). extent.fin ≡ extent.off + length w) same read.1 in
    read-seen K c.args.store.now c.judge.new.store (A.has_tables c.args.store.now) (A.has_rows (A.trees c.args.store.now)) c.judge.result c.args.depth c.args.rows.now c.judge.new.rows known extent c.deref.result.now
    within fin c.judge.ensures.seen c.judge.ensures.found
