use Rattle.std.proofs.Common.{rules}
use Rattle.osm_sql_store.proofs.StepLemmas.{stays}
use Rattle.osm_old_store.proofs.put.bodies.add_element.Goals as goal

pub returns-in_err-block-clause-step : goal.returns-in_err-block-clause-step
returns-in_err-block-clause-step g c = record { goes_on = stays g.S.Store c.args.transaction.now.conn; inside = search rules; ours = search rules }
