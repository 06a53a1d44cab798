use Rattle.std.proofs.Common.{◌∙◌}
use Rattle.sqlite.specs.Held.{state}
use Rattle.osm_sql_store.proofs.AuditLemmas.CountReads.{count_selects, counts_rows}
use Rattle.osm_sql_store.proofs.audit.counts.has_count.Goals as goal

pub answer-requires : goal.answer-requires
answer-requires g c = rw c.count_statement.ensures (count_selects c.args.table)

pub returns-clause-told : goal.returns-clause-told
returns-clause-told g c clean has =
    let old = state g.S.Store c.args.connection.now in
    let answered = rw c.count_statement.ensures at c.in_ok-rows.ensures.rows clean in
    c.is_count.ensures _ (c.deref.ensures.value ∙ counts_rows c.args.table old (state g.S.Store c.answer.new.connection) _ has answered)

pub returns-clause-opened : goal.returns-clause-opened
returns-clause-opened g c clean = (c.in_ok-rows.ensures.rows clean).is_open
