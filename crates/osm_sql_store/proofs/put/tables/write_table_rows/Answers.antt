use Rattle.std.proofs.Common.{rules}
use Rattle.osm_sql_store.proofs.StepLemmas.{goes_on_then, step_then}
use Rattle.osm_sql_store.proofs.put.tables.write_table_rows.Goals as goal

pub returns-in_err-add_rows-clause-step : goal.returns-in_err-add_rows-clause-step
returns-in_err-add_rows-clause-step g c = record { goes_on = c.add_rows.ensures.step.goes_on; inside = search rules; ours = search (rules, c.add_rows.ensures.step.ours) }

pub returns-in_err-add_rows-2-clause-step : goal.returns-in_err-add_rows-2-clause-step
returns-in_err-add_rows-2-clause-step g c = record {
  goes_on = goes_on_then g.S.Store c.args.transaction.now.conn c.add_rows.new.transaction.conn c.add_rows-2.new.transaction.conn c.add_rows.ensures.step.goes_on c.add_rows-2.ensures.step.goes_on;
  inside = search rules;
  ours = search (rules, c.add_rows-2.ensures.step.ours);
}

pub returns-clause-step : goal.returns-clause-step
returns-clause-step g c =
    let old = c.args.transaction.now.conn in
    let one = c.add_rows.new.transaction.conn in
    let two = c.add_rows-2.new.transaction.conn in
    step_then g.S.Store old two c.add_rows-3.new.transaction.conn _ c.add_rows-3.result (step_then g.S.Store old one two _ _ c.in_ok-add_rows.ensures.step c.in_ok-add_rows-2.ensures.step) c.add_rows-3.ensures.step
