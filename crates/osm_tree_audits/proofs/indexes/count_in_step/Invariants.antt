use Rattle.std.proofs.Common.{◌≡◌, ◌++◌, false, List, length, map, IsSome}
use Rattle.sqlite_value.specs.Order.{Row}
use Rattle.sqlite_trees.specs.View.{IsClean, IsQuiet}
use Rattle.sqlite_sql.specs.Catalog.{entry_of}
use Rattle.sqlite_exec.specs.Calls.{OnlyReads}
use Rattle.sqlite_exec.specs.Loops.{left_of}
use Rattle.osm_tree_audits.proofs.indexes.count_in_step.Given as goal

abbrev pub invariant-rows : goal.invariant-rows
invariant-rows g l =
    let old = g.S.Store.view l.fn.store in
    let now = g.S.Store.view l.store in
    IsSome (now.cursors 0) × IsSome (now.cursors 1) × (IsClean now → OnlyReads old now × (now.is_broken ≡ false))
    × IsQuiet g.S.Store.view g.S.Store.faults g.S.Store.recovers g.S.Store.is_shielded l.fn.store l.store
    × (IsClean now → (done : List Row) × (old.trees l.table ≡ done ++ left_of now 0) × (l.count ≡ length done) × (map (entry_of l.columns) done ++ left_of now 1 ≡ old.trees l.tree))
