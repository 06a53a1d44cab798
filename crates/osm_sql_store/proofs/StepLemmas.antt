-- What one step of a transaction leaves, and several in turn.
use Rattle.std.proofs.Common.{◌≡◌, ℕ, List, false, IsTrue, Result, Ok, refl, ◌∙◌, arith}
use Rattle.std.specs.Borrow.{MutBor}
use Rattle.sqlite.specs.Order.{Row}
use Rattle.sqlite.specs.Store.{Ghosts}
use Rattle.sqlite.specs.Held.{Held, state}
use Rattle.sqlite.specs.declared.error.Error.{Error}
use Rattle.sqlite.specs.State.{HasCleanDisk, Survives, ExecutesInside}
use Rattle.sqlite.proofs.StateLemmas.{survives_then}
use Rattle.sqlite.proofs.InsideLemmas.{keeps_then}
use Rattle.osm_rows.specs.declared.fault.StoreFault.{StoreFault}
use Rattle.osm_sql_store.specs.Inside.{GoesOn, WorksInside}
use Rattle.osm_sql_store.proofs.PutLemmas.RowSteps.{keeps, survives_nothing}

module _ {S : Type 0} (g : Ghosts S) where
  pub clean_at : (mid new : MutBor (Held S)) → GoesOn g mid new → HasCleanDisk (state g new.now) → HasCleanDisk (state g mid.now)
  clean_at mid new last clean = omega (arith, last.survives.clean, clean)

  -- nothing is done
  pub stays : (here : MutBor (Held S)) → GoesOn g here here
  stays here = record { same_reference = refl; kept = λ clean. record { was_open = λ h. h; committed = λ _. refl }; survives = survives_nothing (state g here.now) }

  -- one part after another
  pub goes_on_then : (old mid new : MutBor (Held S)) → GoesOn g old mid → GoesOn g mid new → GoesOn g old new
  goes_on_then old mid new first last = record {
    same_reference = last.same_reference ∙ first.same_reference;
    kept = λ clean. keeps_then (state g old.now) (state g mid.now) (state g new.now) (first.kept (clean_at mid new last clean)) (last.kept clean);
    survives = survives_then (state g old.now) (state g mid.now) (state g new.now) (λ _. ⊥) (λ _. ⊥) (λ _. ⊥) (λ _ db none. none) (λ _ db none. none) first.survives last.survives;
  }

  -- one statement
  pub runs_on : (old new : MutBor (Held S)) (sql : List ℕ) (params : Row) (r : Result ℕ Error) (Ended : Type 0) → new.ghost_name ≡ old.ghost_name → ((state g old.now).in_transaction ≡ false → Ended × (new.now ≡ old.now))
      → (HasCleanDisk (state g new.now) → IsTrue (state g old.now).in_transaction → ExecutesInside 0 sql params (state g old.now) (state g new.now) r) → Survives (state g old.now) (state g new.now) (λ _. ⊥) → GoesOn g old new
  runs_on old new sql params r Ended same ended runs survives = record { same_reference = same; kept = λ clean. keeps g old.now new.now sql params r Ended ended (runs clean); survives = survives }

  -- a step after one that was Ok
  pub step_then : {T U : Type 0} (old mid new : MutBor (Held S)) (x : T) (last : Result U StoreFault) → WorksInside g old (Ok x) mid → WorksInside g mid last new → WorksInside g old last new
  step_then old mid new x last first next = record {
    goes_on = goes_on_then old mid new first.goes_on next.goes_on;
    inside = λ clean inside. next.inside clean (first.inside (clean_at mid new next.goes_on clean) inside);
    ours = next.ours;
  }
