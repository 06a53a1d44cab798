use Rattle.std.proofs.Common.{rules}
use Rattle.osm_sql_store.proofs.StepLemmas.{runs_on}
use Rattle.osm_sql_store.proofs.put.statement.execute.Goals as goal

pub returns-clause-ran : goal.returns-clause-ran
returns-clause-ran g c clean inside = (c.in_ok-execute.field-0, c.in_ok-execute.ensures.runs clean inside)

pub returns-clause-step : goal.returns-clause-step
returns-clause-step g c = record {
  goes_on = runs_on g.S.Store c.args.transaction.now.conn c.execute.new.self.conn _ _ _ _ c.execute.ensures.same_reference c.execute.ensures.ended c.execute.ensures.runs c.execute.ensures.survives;
  inside = search rules;
  ours = search rules;
}

pub returns-in_err-execute-clause-step : goal.returns-in_err-execute-clause-step
returns-in_err-execute-clause-step g c = record {
  goes_on = runs_on g.S.Store c.args.transaction.now.conn c.execute.new.self.conn _ _ _ _ c.execute.ensures.same_reference c.execute.ensures.ended c.execute.ensures.runs c.execute.ensures.survives;
  inside = search rules;
  ours = search rules;
}
