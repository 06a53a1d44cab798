use Rattle.std.proofs.Common.{◌≡◌, ◌++◌, false, map, drop, filter, flat_map, IsSome}
use Rattle.sqlite_trees.specs.View.{IsClean, IsQuiet}
use Rattle.sqlite_exec.specs.Calls.{OnlyReads}
use Rattle.sqlite_exec.specs.Plan.{resolved}
use Rattle.osm_tree_audits.specs.Finding.{starts}
use Rattle.osm_tree_audits.specs.Walking.{IsWalk, reached}
use Rattle.osm_tree_audits.proofs.keyed.rows_with.Given as goal

abbrev pub invariant-rows : goal.invariant-rows
invariant-rows g l =
    let old = g.S.Store.view l.fn.store in
    let now = g.S.Store.view l.store in
    let gives = g.R.FromRow.from_row_gives in
    IsSome (now.cursors 0) × IsSome (now.cursors 1) × (IsClean now → OnlyReads old now × (now.is_broken ≡ false))
    × IsQuiet g.S.Store.view g.S.Store.faults g.S.Store.recovers g.S.Store.is_shielded l.fn.store l.store
    × (IsClean now → IsWalk now l.table
    × (l.rows.items ++ map gives (reached now l.table l.width l.key) ≡ map gives (map (drop 1) (flat_map (resolved (old.trees l.table) l.width) (filter (starts l.key) (old.trees l.index))))))
