use Rattle.std.proofs.Common.{map, take, IsTrue}
use Rattle.std.specs.List.{AllByRecursion}
use Rattle.sqlite.specs.State.{HasCleanDisk}
use Rattle.sqlite.specs.Held.{state}
use Rattle.osm_sql_store.specs.Inside.{GoesOn}
use Rattle.osm_rows.specs.Rows.{HasBlock, body_row, placed}
use Rattle.osm_rows.specs.declared.schema.layout.Layout.TheVariants.{Bodies}
use Rattle.osm_sql_store.specs.Schema.Over.{IsWriting}
use Rattle.osm_sql_store.specs.Put.Steps.{AddsRows}
use Rattle.osm_old_store.proofs.put.bodies.add_bodies.Given as goal

abbrev pub invariant-loop-position : goal.invariant-loop-position
invariant-loop-position g l =
    let old = state g.S.Store l.fn.transaction.conn.now in
    let now = state g.S.Store l.transaction.conn.now in
    record {
      goes_on : GoesOn g.S.Store l.fn.transaction.conn l.transaction.conn;
      inside : HasCleanDisk now → IsTrue old.in_transaction → IsTrue now.in_transaction;
      have_blocks : AllByRecursion HasBlock (take l.position l.elements);
      added : HasCleanDisk now → IsWriting Bodies old → AddsRows Bodies 2 old now (map body_row (placed l.off 0 (take l.position l.elements)));
    }
