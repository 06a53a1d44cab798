use Rattle.std.proofs.Common.{rules}
use Rattle.sqlite.specs.Held.{state}
use Rattle.osm_rows.specs.Rows.{placed}
use Rattle.osm_sql_store.proofs.PutLemmas.RowSteps.{written}
use Rattle.osm_sql_store.proofs.StepLemmas.{clean_at, step_then}
use Rattle.osm_sql_store.proofs.put.transaction.write_rows.Goals as goal

pub returns-clause-written : goal.returns-clause-written
returns-clause-written g c clean =
    let old = state g.S.Store c.args.transaction.now.conn.now in
    let middle = c.add_extent.new.transaction.conn in
    let end = c.write_elements.new.transaction.conn in
    let step = c.write_elements.ensures.step in
    let early = clean_at g.S.Store middle end step.goes_on clean in
    let begun = c.in_ok-add_extent.ensures.step.inside early c.requires.inside in
    written g.L.StoreLayout.LAYOUT old (state g.S.Store middle.now) (state g.S.Store end.now) c.args.extent.now (placed c.args.extent.now.off 0 c.args.elements.now) c.write_elements.result (c.in_ok-add_extent.ensures.opened early) c.requires.inside
    (c.in_ok-add_extent.ensures.added early g.L.StoreLayout.LAYOUT) (step.inside clean begun) (c.write_elements.ensures.added clean)

pub returns-in_err-add_extent-clause-step : goal.returns-in_err-add_extent-clause-step
returns-in_err-add_extent-clause-step g c = record { goes_on = c.add_extent.ensures.step.goes_on; inside = search rules; ours = search (rules, c.add_extent.ensures.step.ours) }

pub returns-clause-step : goal.returns-clause-step
returns-clause-step g c = step_then g.S.Store c.args.transaction.now.conn c.add_extent.new.transaction.conn c.write_elements.new.transaction.conn _ c.write_elements.result c.in_ok-add_extent.ensures.step c.write_elements.ensures.step
