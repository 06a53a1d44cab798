use Rattle.std.proofs.Common.{◌≡◌, false, List, map, All, IsSome}
use Rattle.sqlite_trees.specs.View.{IsClean, IsQuiet}
use Rattle.sqlite_exec.specs.Calls.{OnlyReads}
use Rattle.sqlite_exec.specs.Loops.{left_of}
use Rattle.osm_rows.specs.declared.keeper.Extent.{Extent as Held}
use Rattle.osm_rows.specs.Keeping.{IsRange}
use Rattle.osm_rows.specs.LayoutHolding.{IsKeptExtent}
use Rattle.osm_rows.specs.Rows.{extent_row}
use Rattle.osm_trees.proofs.Rest.{IsRest}
use Rattle.osm_trees.proofs.extents.read_extents.Given as goal

abbrev pub invariant-rows : goal.invariant-rows
invariant-rows g l =
    let old = g.S.Store.view l.fn.store in
    let now = g.S.Store.view l.store in
    IsSome (now.cursors 0) × (IsClean now → OnlyReads old now × (now.is_broken ≡ false))
    × IsQuiet g.S.Store.view g.S.Store.faults g.S.Store.recovers g.S.Store.is_shielded l.fn.store l.store
    × (IsClean now → (extents : List Held) → All IsKeptExtent extents → old.trees 1 ≡ map extent_row extents → IsRest IsKeptExtent extent_row extents l.extents.items (left_of now 0))
    × All IsRange l.extents.items
