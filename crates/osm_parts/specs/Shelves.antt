-- Stores in slots, of which one may be given out.
use Rattle.std.specs.Prelude.{◌≡◌, ◌≢◌, ℕ, List, Option, Some, None, length, slice_get}
use Rattle.osm_rows.specs.Held.{HeldMap}

-- there is a store in each slot, which holds the map of that place
pub record HoldsEach {K : Type 0} (holds : K → HeldMap → Type 0) (slots : List (Option K)) (maps : List HeldMap) : Type 0 where
  pub long : length slots ≡ length maps
  pub each : (place : ℕ) (held : HeldMap) → slice_get maps place ≡ Some held → (store : K) × (slice_get slots place ≡ Some (Some store)) × holds store held

-- the slot at this place is free, whose store holds this map, and there is a store in each of the others
pub record LendsOne {K : Type 0} (holds : K → HeldMap → Type 0) (slots : List (Option K)) (taken : Option ℕ) (maps : List HeldMap) (lent : HeldMap) : Type 0 where
  pub long : length slots ≡ length maps
  pub place : ℕ
  pub taken_at : taken ≡ Some place
  pub at : slice_get maps place ≡ Some lent
  pub free : slice_get slots place ≡ Some None
  pub others : (other : ℕ) (held : HeldMap) → other ≢ place → slice_get maps other ≡ Some held → (store : K) × (slice_get slots other ≡ Some (Some store)) × holds store held

-- so it is with each store that is there
abbrev pub AllAreIn : {K : Type 0} → (K → Type 0) → List (Option K) → Type 0
AllAreIn {K} Is slots = (place : ℕ) (store : K) → slice_get slots place ≡ Some (Some store) → Is store
