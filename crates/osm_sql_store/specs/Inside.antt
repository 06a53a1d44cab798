-- What each step of an open transaction leaves, whatever it answers.
use Rattle.std.specs.Prelude.{◌≡◌, IsTrue, Result, OnOk, IfErr}
use Rattle.std.specs.Borrow.{MutBor}
use Rattle.sqlite.specs.Store.{Ghosts}
use Rattle.sqlite.specs.Held.{Held, state}
use Rattle.sqlite.specs.State.{HasCleanDisk, KeepsCommit, Survives}
use Rattle.osm_rows.specs.declared.fault.StoreFault.{StoreFault}
use Rattle.osm_rows.specs.Keeping.{IsForeign}

-- the transaction is that of the same connection, nothing is committed, and a crash leaves nothing new
pub record GoesOn {S : Type 0} (g : Ghosts S) (old new : MutBor (Held S)) : Type 0 where
  pub same_reference : new.ghost_name ≡ old.ghost_name
  pub kept : HasCleanDisk (state g new.now) → KeepsCommit (state g old.now) (state g new.now)
  pub survives : Survives (state g old.now) (state g new.now) (λ _. ⊥)

-- the transaction goes on: at Ok it is open if it was, and a fault isn't that of another store's tables
pub record WorksInside {S T : Type 0} (g : Ghosts S) (old : MutBor (Held S)) (result : Result T StoreFault) (new : MutBor (Held S)) : Type 0 where
  pub goes_on : GoesOn g old new
  pub inside : HasCleanDisk (state g new.now) → IsTrue (state g old.now).in_transaction → OnOk result (IsTrue (state g new.now).in_transaction)
  pub ours : IfErr result (λ fault. ¬ (IsForeign fault))
