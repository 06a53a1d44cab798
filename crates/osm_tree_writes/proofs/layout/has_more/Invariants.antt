use Rattle.std.proofs.Common.{drop, ◌↔◌}
use Rattle.osm_tree_writes.specs.Appending.{RiseFrom}
use Rattle.osm_tree_writes.proofs.layout.has_more.Given as goal

abbrev pub invariant-loop-index : goal.invariant-loop-index
invariant-loop-index g l =
    let shapes = (g.S.Store.view l.store).shape in
    RiseFrom shapes l.low (drop l.index-index l.more) ↔ RiseFrom shapes 9 l.more
