use Rattle.std.proofs.Common.{◌≡◌, ◌++◌, List, length}
use Rattle.sqlite_trees.specs.View.{IsClean, IsQuiet, KeepsSchema}
use Rattle.osm_value.specs.declared.element.Element.{Element}
use Rattle.osm_rows.specs.Rows.{placed}
use Rattle.osm_tree_writes.specs.Putting.{WritesElements}
use Rattle.osm_tree_writes.proofs.put.append_elements.Given as goal

abbrev pub invariant-loop-rest : goal.invariant-loop-rest
invariant-loop-rest g l =
    let old = g.S.Store.view l.fn.store in
    let now = g.S.Store.view l.store in
    (done : List Element) × record {
      whole : l.elements ≡ done ++ l.rest;
      written : IsClean now → WritesElements l.more old now (placed l.off 0 done);
      schema : KeepsSchema old now;
      quiet : IsQuiet g.S.Store.view g.S.Store.faults g.S.Store.recovers g.S.Store.is_shielded l.fn.store l.store;
    }

abbrev pub decreases-loop-rest : goal.decreases-loop-rest
decreases-loop-rest g l = length l.rest
