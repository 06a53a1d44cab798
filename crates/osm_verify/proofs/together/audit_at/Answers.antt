use Rattle.std.proofs.Common.{subst}
use Rattle.std.proofs.lemmas.Result.{IfOk-weaker}
use Rattle.osm_rows.specs.Held.{HeldMap}
use Rattle.osm_parts.specs.declared.fault.PartsFault.TheVariants.{Store}
use Rattle.osm_parts.proofs.OpeningLemmas.{if-err, opened-closed, same-held}
use Rattle.osm_verify.specs.Faults.{IsOwnFault}
use Rattle.osm_verify.specs.declared.fault.AuditFault.TheVariants.{Parts}
use Rattle.osm_verify.proofs.TogetherLemmas.{audit-closed, failed-call}
use Rattle.osm_verify.proofs.together.audit_at.Goals as goal

pub returns-clause-audited : goal.returns-clause-audited
returns-clause-audited g c = λ maps holds honest held at.
    let both = c.close.ensures.honest honest in
    let it = c.in_ok-store.ensures.lent maps holds both.0 (c.audit_part-answer.ensures.rereads.stays.honest both.1) in
    let same = same-held maps c.args.place it.held held it.at at in
    c.audit_part-answer.ensures.audited held (subst (λ (m : HeldMap). g.K.BlobReader.holds c.in_ok-store.store m) same it.store) both.1

pub returns-in_err-store-clause-fault : goal.returns-in_err-store-clause-fault
returns-in_err-store-clause-fault g c = λ maps holds honest.
    let failed = c.in_err-store.ensures in
    let fault = c.in_err-store.field-0.0 in
    let old = g.O.Openings.failures c.args.openings.now in
    let now = g.O.Openings.failures c.open.new.self in
    if-err c.from_residual.result (Parts (Store fault)) (IsOwnFault old now) c.from_residual.ensures.1 (record { own = failed.own maps holds honest; cause = failed-call old now fault failed.counted })

pub returns-clause-fault : goal.returns-clause-fault
returns-clause-fault g c = λ maps holds honest.
    let both = c.close.ensures.honest honest in
    let it = c.in_ok-store.ensures.lent maps holds both.0 (c.audit_part-answer.ensures.rereads.stays.honest both.1) in
    audit-closed _ _ _ _ _ c.audit_part-answer.result c.in_ok-store.ensures.counted c.close.ensures.counted (c.audit_part-answer.ensures.fault it.held it.store both.1)

pub returns-clause-opens : goal.returns-clause-opens
returns-clause-opens g c =
    let O = g.O.Openings in
    let opened = c.in_ok-store.ensures in
    let closed = c.close.ensures in
    opened-closed O.holds O.lends O.is_honest O.is_open g.K.BlobReader c.args.openings.now c.open.new.self c.close.new.self c.in_ok-store.store c.audit_part-answer.new.store c.args.place c.audit_part-answer.result
    opened.lent opened.honest opened.open_if c.audit_part-answer.ensures.rereads closed.back closed.honest closed.open_if

pub returns-clause-shown : goal.returns-clause-shown
returns-clause-shown g c = λ honest deep tables.
    let both = c.close.ensures.honest honest in
    let first = c.audit_part-answer.ensures.rereads.stays.honest both.1 in
    let store = c.in_ok-store.store in
    let there = c.in_ok-store.ensures.given.0 in
    IfOk-weaker c.audit_part-answer.result _ _ (λ audit shown none. record { store = store; there = there; shown = shown none }) (c.audit_part-answer.ensures.shown both.1 (tables store there first) deep)
