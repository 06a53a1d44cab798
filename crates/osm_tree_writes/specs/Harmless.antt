-- What each step of an open transaction leaves, whatever it answers.
use Rattle.std.specs.Prelude.{ℕ, Result, OnErr, IfErr}
use Rattle.sqlite_trees.specs.Tree.{Trees}
use Rattle.sqlite_trees.specs.View.{View, IsClean, IsQuiet, KeepsSchema, KeepsCommitted}
use Rattle.osm_rows.specs.declared.fault.StoreFault.{StoreFault}
use Rattle.osm_rows.specs.Keeping.{IsForeign}

-- A failure keeps what the last commit left, the trees have the shapes that they had, a fault isn't that of another store's
-- tables, and none of the disk's is forgotten.
pub record IsHarmless {S T : Type 0} (view : S → View) (faults : S → ℕ) (recovers : S → Trees → Type 0) (is_shielded : S → Type 0) (old : S) (result : Result T StoreFault) (new : S) : Type 0 where
  pub kept : IsClean (view new) → OnErr result (KeepsCommitted (view old) (view new))
  pub schema : KeepsSchema (view old) (view new)
  pub ours : IfErr result (λ fault. ¬ (IsForeign fault))
  pub quiet : IsQuiet view faults recovers is_shielded old new
