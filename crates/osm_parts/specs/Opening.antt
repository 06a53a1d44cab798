-- What is opened and closed again.
use Rattle.std.specs.Prelude.{◌≡◌, ◌⊎◌, ℕ, ◌+◌, ◌-◌, ◌^◌, ◌≤◌, List, Some, Result, OnOk, slice_get}
use Rattle.osm_rows.specs.Held.{HeldMap}

-- the store of one of the maps, that at this place, is given out
pub record IsLent (lends : List HeldMap → HeldMap → Type 0) (holds : HeldMap → Type 0) (maps : List HeldMap) (place : ℕ) : Type 0 where
  pub held : HeldMap
  pub at : slice_get maps place ≡ Some held
  pub store : holds held
  pub lent : lends maps held

-- the stores keep what they hold, if they can go on
pub record KeepsMaps {S : Type 0} (holds : S → List HeldMap → Type 0) (is_honest is_open : S → Type 0) (old new : S) : Type 0 where
  pub honest : is_honest new → is_honest old
  pub open_if : is_open new → is_open old
  pub kept : is_honest new → is_open new → (maps : List HeldMap) → holds old maps → holds new maps

-- each store that was opened was only read and closed again; at Ok all can go on
pub record OnlyOpens {S T E : Type 0} (holds : S → List HeldMap → Type 0) (is_honest is_open : S → Type 0) (old : S) (result : Result T E) (new : S) : Type 0 where
  pub keeps : KeepsMaps holds is_honest is_open old new
  pub ok : OnOk result (is_honest new → (maps : List HeldMap) → holds old maps → holds new maps)

-- a count with so many more, which stays at 2 ^ 64 - 1
abbrev pub AddsUp : ℕ → ℕ → ℕ → Type 0
AddsUp before more after = (before ≤ after) × ((after ≡ before + more) ⊎ (2 ^ 64 - 1 ≤ after))
