use Rattle.std.proofs.Common.{◌≡◌, ◌++◌, List, map, length, IsTrue}
use Rattle.sqlite.specs.Order.{Row}
use Rattle.sqlite.specs.State.{HasCleanDisk}
use Rattle.sqlite.specs.Held.{state}
use Rattle.osm_sql_store.specs.Inside.{GoesOn}
use Rattle.osm_rows.specs.declared.schema.layout.Layout.TheVariants.{Tables}
use Rattle.osm_sql_store.specs.Schema.Over.{IsWriting}
use Rattle.osm_sql_store.specs.Put.Steps.{AddsRows}
use Rattle.osm_sql_store.proofs.put.batch.add_rows.Given as goal

abbrev pub invariant-loop-rest : goal.invariant-loop-rest
invariant-loop-rest g l =
    let old = state g.S.Store l.fn.transaction.conn.now in
    let now = state g.S.Store l.transaction.conn.now in
    (done : List Row) × record {
      whole : map g.R.TableRow.columns l.rows ≡ done ++ map g.R.TableRow.columns l.rest;
      goes_on : GoesOn g.S.Store l.fn.transaction.conn l.transaction.conn;
      inside : HasCleanDisk now → IsTrue old.in_transaction → IsTrue now.in_transaction;
      added : HasCleanDisk now → IsWriting Tables old → AddsRows Tables g.R.InsertedRow.tree old now done;
    }

abbrev pub decreases-loop-rest : goal.decreases-loop-rest
decreases-loop-rest g l = length l.rest
