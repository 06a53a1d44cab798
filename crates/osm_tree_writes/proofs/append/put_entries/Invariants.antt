use Rattle.std.proofs.Common.{◌≡◌, drop}
use Rattle.sqlite_trees.specs.View.{IsClean, KeepsSchema, IsQuiet}
use Rattle.osm_tree_writes.specs.Appending.{with_entries}
use Rattle.osm_tree_writes.proofs.append.put_entries.Given as goal

abbrev pub invariant-loop-index : goal.invariant-loop-index
invariant-loop-index g l =
    let old = g.S.Store.view l.fn.store in
    let now = g.S.Store.view l.store in
    (IsClean now → with_entries l.table l.row (drop l.index-index l.more) now.trees ≡ with_entries l.table l.row l.more old.trees)
    × (IsClean now → now ≡ record old { trees = now.trees; cursors = now.cursors })
    × IsQuiet g.S.Store.view g.S.Store.faults g.S.Store.recovers g.S.Store.is_shielded l.fn.store l.store
    × KeepsSchema old now
