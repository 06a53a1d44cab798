use Rattle.std.proofs.Common.{map, take}
use Rattle.sqlite_trees.specs.View.{IsClean, IsQuiet, KeepsSchema}
use Rattle.osm_tree_writes.specs.Appending.{Appends, IsAfter}
use Rattle.osm_tree_writes.proofs.append.append_rows.Given as goal

abbrev pub invariant-loop-written : goal.invariant-loop-written
invariant-loop-written g l =
    let old = g.S.Store.view l.fn.store in
    let now = g.S.Store.view l.store in
    record {
      appended : IsClean now → Appends l.table l.more (map g.R.TableRow.columns (take l.written-index l.rows)) old now × IsAfter l.rowid (now.trees l.table.tree);
      schema : KeepsSchema old now;
      quiet : IsQuiet g.S.Store.view g.S.Store.faults g.S.Store.recovers g.S.Store.is_shielded l.fn.store l.store;
    }
