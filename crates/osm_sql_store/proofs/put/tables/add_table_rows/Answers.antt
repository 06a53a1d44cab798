use Rattle.std.proofs.Common.{rules}
use Rattle.osm_sql_store.proofs.StepLemmas.{stays}
use Rattle.osm_sql_store.proofs.put.tables.add_table_rows.Goals as goal

pub returns-in_err-element_rows-clause-step : goal.returns-in_err-element_rows-clause-step
returns-in_err-element_rows-clause-step g c = record { goes_on = stays g.S.Store c.args.transaction.now.conn; inside = search rules; ours = search rules }

pub returns-in_err-tag_rows-clause-step : goal.returns-in_err-tag_rows-clause-step
returns-in_err-tag_rows-clause-step g c = record { goes_on = stays g.S.Store c.args.transaction.now.conn; inside = search rules; ours = search rules }

pub returns-in_err-link_rows-clause-step : goal.returns-in_err-link_rows-clause-step
returns-in_err-link_rows-clause-step g c = record { goes_on = stays g.S.Store c.args.transaction.now.conn; inside = search rules; ours = search rules }
