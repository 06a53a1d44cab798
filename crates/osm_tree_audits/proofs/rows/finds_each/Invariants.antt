use Rattle.std.proofs.Common.{◌≡◌, ◌++◌, false, List, length, IsSome}
use Rattle.sqlite_trees.specs.View.{IsClean, IsQuiet}
use Rattle.sqlite_exec.specs.Calls.{OnlyReads}
use Rattle.osm_value.specs.declared.element.Element.{Element}
use Rattle.osm_rows.specs.Rows.{placed}
use Rattle.osm_tree_audits.specs.ElementTables.{rows_in}
use Rattle.osm_tree_audits.specs.Walking.{IsWalkBy, reached_by}
use Rattle.osm_tree_audits.proofs.rows.finds_each.Given as goal

abbrev pub invariant-loop-rest : goal.invariant-loop-rest
invariant-loop-rest g l =
    let old = g.S.Store.view l.fn.store in
    let now = g.S.Store.view l.store in
    (done : List Element) × record {
      whole : l.elements ≡ done ++ l.rest;
      entries : IsSome (now.cursors 0);
      rows : IsSome (now.cursors 1);
      reads : IsClean now → OnlyReads old now × (now.is_broken ≡ false);
      quiet : IsQuiet g.S.Store.view g.S.Store.faults g.S.Store.recovers g.S.Store.is_shielded l.fn.store l.store;
      found : IsClean now → IsWalkBy l.way old l.of
          → IsWalkBy l.way now l.of × (reached_by l.way old l.of l.key ≡ rows_in l.of (placed l.off 0 done) ++ reached_by l.way now l.of l.key);
    }

abbrev pub decreases-loop-rest : goal.decreases-loop-rest
decreases-loop-rest g l = length l.rest
