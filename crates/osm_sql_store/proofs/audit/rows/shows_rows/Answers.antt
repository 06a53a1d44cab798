use Rattle.sqlite.specs.Held.{state}
use Rattle.osm_rows.proofs.AuditLemmas.Telling.{iff_then, asked, ok_told}
use Rattle.osm_sql_store.proofs.AuditLemmas.BlobReads.{selects_rows, rows_told}
use Rattle.osm_sql_store.proofs.audit.rows.shows_rows.Goals as goal

pub answer-requires : goal.answer-requires
answer-requires g c = rw c.select_statement.ensures (selects_rows c.args.table)

pub returns-clause-told : goal.returns-clause-told
returns-clause-told g c clean has =
    let old = state g.S.Store c.args.connection.now in
    let new = state g.S.Store c.answer.new.connection in
    let answered = rw (c.select_statement.ensures, c.number.ensures) at c.in_ok-rows.ensures.rows clean in
    ok_told c.are_rows_of.result (λ b told. iff_then (asked _ _ _ c.deref.ensures.value told) (rows_told c.args.table old new _ c.args.extent.now c.args.elements.now has answered)) c.are_rows_of.ensures.told

pub returns-clause-opened : goal.returns-clause-opened
returns-clause-opened g c clean = ok_told c.are_rows_of.result (λ b told. (c.in_ok-rows.ensures.rows clean).is_open) c.are_rows_of.ensures.told
