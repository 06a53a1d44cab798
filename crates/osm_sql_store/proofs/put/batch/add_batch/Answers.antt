use Rattle.std.proofs.Common.{rules}
use Rattle.osm_sql_store.proofs.StepLemmas.{stays}
use Rattle.osm_sql_store.proofs.put.batch.add_batch.Goals as goal

pub returns-in_err-push_values-clause-step : goal.returns-in_err-push_values-clause-step
returns-in_err-push_values-clause-step g c = record { goes_on = stays g.S.Store c.args.transaction.now.conn; inside = search rules; ours = search rules }

pub returns-clause-step : goal.returns-clause-step
returns-clause-step g c = record { goes_on = stays g.S.Store c.args.transaction.now.conn; inside = λ clean inside. inside; ours = search rules }
