use Rattle.std.proofs.Common.{◌≡◌, ◌++◌, false, List, All, IsSome, IfSome}
use Rattle.sqlite_value.specs.Order.{Row}
use Rattle.sqlite_trees.specs.View.{IsClean, IsQuiet}
use Rattle.sqlite_exec.specs.Calls.{OnlyReads}
use Rattle.sqlite_exec.specs.Loops.{left_of}
use Rattle.osm_tree_audits.specs.ElementTables.{table_of}
use Rattle.osm_tree_audits.specs.Strays.{HasBlob, LacksBlob}
use Rattle.osm_tree_audits.proofs.strays.stray_in.Given as goal

abbrev pub invariant-rows : goal.invariant-rows
invariant-rows g l =
    let old = g.S.Store.view l.fn.store in
    let now = g.S.Store.view l.store in
    IsSome (now.cursors 0) × (IsClean now → OnlyReads old now × (now.is_broken ≡ false))
    × IsQuiet g.S.Store.view g.S.Store.faults g.S.Store.recovers g.S.Store.is_shielded l.fn.store l.store
    × (IsClean now → IfSome l.held (λ off. ¬ (LacksBlob old.trees off)))
    × (IsClean now → (done : List Row) × (old.trees (table_of l.of) ≡ done ++ left_of now 0) × All (HasBlob old.trees) done)
