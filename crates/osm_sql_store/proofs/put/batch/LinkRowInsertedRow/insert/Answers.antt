use Rattle.sqlite.specs.Held.{state}
use Rattle.osm_sql_store.proofs.PutLemmas.InsertSteps.{inserts_link, ran_adds}
use Rattle.osm_sql_store.proofs.put.batch.LinkRowInsertedRow.insert.Goals as goal

pub returns-clause-added : goal.returns-clause-added
returns-clause-added g c clean over =
    ran_adds (inserts_link c.args.batch) c.statement.ensures _ (state g.S.Store c.args.transaction.now.conn.now) (state g.S.Store c.execute.new.transaction.conn.now) over c.execute.result (c.execute.ensures.ran clean over.inside)
