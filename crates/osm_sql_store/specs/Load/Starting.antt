-- Where a search for the extents that reach past an offset may start.
use Rattle.std.specs.Prelude.{◌≡◌, ℕ, ℤ, pos, ◌<◌, ◌≤◌, List}
use Rattle.std.specs.List.{AllByRecursion}
use Rattle.osm_rows.specs.declared.keeper.Extent.{Extent}

-- the extents that end past `from` start here or later
pub record IsStart (from : ℕ) (extents : List Extent) (start : ℤ) : Type 0 where
  pub off : ℕ
  pub is : start ≡ pos off
  pub later : AllByRecursion (λ (e : Extent). from < e.fin → off ≤ e.off) extents
