use Rattle.std.proofs.Common.{refl, ◌∙◌}
use Rattle.sqlite.specs.Held.{state}
use Rattle.sqlite_tied.specs.Compute.{everything}
use Rattle.osm_old_store.proofs.AuditLemmas.BodyAudits.{bodies_counted}
use Rattle.osm_old_store.proofs.audit.counts.has_body_count.Goals as goal

pub answer-requires : goal.answer-requires
unfolding everything
answer-requires g c = refl

pub returns-clause-told : goal.returns-clause-told
returns-clause-told g c clean has =
    let old = state g.S.Store c.args.connection.now in
    let answered = c.in_ok-rows.ensures.rows clean in
    c.is_count.ensures _ (c.deref.ensures.value ∙ bodies_counted old (state g.S.Store c.answer.new.connection) _ has answered)

pub returns-clause-opened : goal.returns-clause-opened
returns-clause-opened g c clean = (c.in_ok-rows.ensures.rows clean).is_open
