use Rattle.std.proofs.Common.{◌≡◌, ◌++◌, false, map, take, IsSome}
use Rattle.sqlite_trees.specs.View.{IsClean, IsQuiet}
use Rattle.sqlite_exec.specs.Calls.{OnlyReads}
use Rattle.osm_tree_audits.specs.Walking.{IsWalkBy, reached_by}
use Rattle.osm_tree_audits.proofs.matching.finds_next.Given as goal

abbrev pub invariant-loop-at : goal.invariant-loop-at
invariant-loop-at g l =
    let old = g.S.Store.view l.fn.store in
    let now = g.S.Store.view l.store in
    IsSome (now.cursors 0) × IsSome (now.cursors 1) × (IsClean now → OnlyReads old now × (now.is_broken ≡ false))
    × IsQuiet g.S.Store.view g.S.Store.faults g.S.Store.recovers g.S.Store.is_shielded l.fn.store l.store
    × (IsClean now → IsWalkBy l.way old l.of → IsWalkBy l.way now l.of × (reached_by l.way old l.of l.key ≡ map g.R.TableRow.columns (take l.at l.expected) ++ reached_by l.way now l.of l.key))
