use Rattle.std.proofs.Common.{◌≡◌, List, map, take, All}
use Rattle.osm_rows.specs.declared.keeper.Extent.{Extent}
use Rattle.osm_rows.specs.Keeping.{IsRange}
use Rattle.osm_rows.specs.LayoutHolding.{IsKeptExtent}
use Rattle.osm_rows.specs.Rows.{extent_columns}
use Rattle.osm_rows.proofs.load.extents.read_extents.Given as goal

abbrev pub invariant-loop-row : goal.invariant-loop-row
invariant-loop-row l = record {
  exact : (held : List Extent) → All IsKeptExtent held → l.rows ≡ map extent_columns held → l.extents.items ≡ take l.row-index held;
  ranges : All IsRange l.extents.items;
}
