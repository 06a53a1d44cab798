-- What a look at trees leaves of them.
use Rattle.std.specs.Prelude.{◌≡◌, ◌≢◌, ℕ, false, Result, OnOk}
use Rattle.sqlite_trees.specs.declared.store.Shape.TheVariants.{Table}
use Rattle.sqlite_trees.specs.declared.store.Store.{Ghosts}
use Rattle.sqlite_trees.specs.View.{View, IsClean, IsQuiet, StayLive}
use Rattle.sqlite_exec.specs.Calls.{OnlyReads}

-- only cursors have moved, if the store isn't broken, and a crash leaves nothing new
pub record Looks {S : Type 0} (g : Ghosts S) (old new : S) : Type 0 where
  pub reads : IsClean (g.view new) → (g.view new).is_broken ≡ false → OnlyReads (g.view old) (g.view new)
  pub quiet : IsQuiet g.view g.faults g.recovers g.is_shielded old new

-- After a step that went well each cursor that could be used still can, and the store isn't broken.
pub record Steps (old new : View) : Type 0 where
  pub stay : StayLive old new
  pub sound : IsClean new → new.is_broken ≡ false

-- the trees, as far as they were read soundly, have a table of this number
abbrev pub HasTable : {S : Type 0} → Ghosts S → S → ℕ → Type 0
HasTable g old table = IsClean (g.view old) → (g.view old).shape table ≡ Table

-- the store isn't broken, over a disk that has returned what was written
abbrev pub IsSound : {S : Type 0} → Ghosts S → S → Type 0
IsSound g now = IsClean (g.view now) → (g.view now).is_broken ≡ false

-- a call that went well has left this cursor where it was
abbrev pub KeepsCursor : {S T E : Type 0} → Ghosts S → ℕ → S → Result T E → S → Type 0
KeepsCursor g cursor old result new = OnOk result (IsClean (g.view new) → (g.view new).cursors cursor ≡ (g.view old).cursors cursor)

-- and this one leaves each other
abbrev pub KeepsOtherCursors : {S T E : Type 0} → Ghosts S → ℕ → S → Result T E → S → Type 0
KeepsOtherCursors g cursor old result new = OnOk result (IsClean (g.view new) → (c : ℕ) → c ≢ cursor → (g.view new).cursors c ≡ (g.view old).cursors c)
