-- Stores that are opened by names, one after the other.
use Rattle.std.specs.Prelude.{◌≡◌, ℕ, Bool, true, false, List, Some, Result, Ok, Err, length, slice_get}
use Rattle.osm_rows.specs.Held.{HeldMap}
use Rattle.osm_rows.specs.declared.fault.StoreFault.{StoreFault}
use Rattle.osm_rows.specs.declared.fault.StoreFault.TheVariants.{NotThisStore}

-- There are as many maps as names; and each store that lies at a name, if its disk returns what was written, holds the map at
-- the place of the name.
pub record HoldInTurn {N K : Type 0} (lies : N → K → Type 0) (is_honest : K → Type 0) (holds : K → HeldMap → Type 0) (names : List N) (maps : List HeldMap) : Type 0 where
  pub long : length maps ≡ length names
  pub each : (place : ℕ) (name : N) (held : HeldMap) (store : K) → slice_get names place ≡ Some name → slice_get maps place ≡ Some held → lies name store → is_honest store → holds store held

-- what lies at a name is found to be another's than a store of pbfrow's
abbrev pub is_refused : {T : Type 0} → Result T StoreFault → Bool
is_refused (Ok store) = false
is_refused (Err (NotThisStore found)) = true
is_refused (Err _) = false
