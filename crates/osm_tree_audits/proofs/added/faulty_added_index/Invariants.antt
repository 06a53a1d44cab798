use Rattle.std.proofs.Common.{◌≡◌, false, drop}
use Rattle.sqlite_trees.specs.View.{IsClean, IsQuiet}
use Rattle.sqlite_exec.specs.Calls.{OnlyReads}
use Rattle.osm_tree_audits.specs.Indexes.{AreWhole}
use Rattle.osm_tree_audits.proofs.added.faulty_added_index.Given as goal

abbrev pub invariant-loop-at : goal.invariant-loop-at
invariant-loop-at g l =
    let old = g.S.Store.view l.fn.store in
    let now = g.S.Store.view l.store in
    (IsClean now → OnlyReads old now × (now.is_broken ≡ false))
    × IsQuiet g.S.Store.view g.S.Store.faults g.S.Store.recovers g.S.Store.is_shielded l.fn.store l.store
    × (IsClean now → AreWhole old.trees (drop l.at l.indexes) → AreWhole old.trees l.indexes)
