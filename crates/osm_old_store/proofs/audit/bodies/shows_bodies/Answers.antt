use Rattle.std.proofs.Common.{refl}
use Rattle.sqlite.specs.Held.{state}
use Rattle.sqlite_tied.specs.Compute.{everything}
use Rattle.osm_rows.proofs.AuditLemmas.Telling.{iff_then, asked, ok_told}
use Rattle.osm_old_store.proofs.AuditLemmas.BodyAudits.{bodies_told}
use Rattle.osm_old_store.proofs.audit.bodies.shows_bodies.Goals as goal

pub answer-requires : goal.answer-requires
unfolding everything
answer-requires g c = refl

pub returns-clause-told : goal.returns-clause-told
returns-clause-told g c clean has =
    let old = state g.S.Store c.args.connection.now in
    let new = state g.S.Store c.answer.new.connection in
    let answered = rw c.number.ensures at c.in_ok-rows.ensures.rows clean in
    ok_told c.are_bodies.result (λ b told. iff_then (asked _ _ _ c.deref.ensures.value told) (bodies_told old new _ c.args.off c.args.elements.now has answered)) c.are_bodies.ensures.told

pub returns-clause-opened : goal.returns-clause-opened
returns-clause-opened g c clean = ok_told c.are_bodies.result (λ b told. (c.in_ok-rows.ensures.rows clean).is_open) c.are_bodies.ensures.told
