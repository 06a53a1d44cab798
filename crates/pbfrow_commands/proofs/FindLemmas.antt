-- Why a search in a store fails.
use Rattle.std.proofs.Common.{◌≡◌, ℕ, ◌+◌, ◌-◌, ◌^◌, ◌==◌, Bool, true, false, cond, Err, refl, inl, inr, arith}
use Rattle.std.proofs.lemmas.Bool.Decides.{nat_tests}
use Rattle.osm_rows.specs.Keeping.{failures_after}
use Rattle.osm_rows.specs.declared.fault.StoreFault.{StoreFault}
use Rattle.osm_import.specs.Step.{HasCause}

-- the failure was counted, or the count is full
pub find-cause : (before now : ℕ) (fault : StoreFault) → now ≡ failures_after {T = Unit {0}} (Err fault) before → HasCause before now fault
find-cause before now fault is = by_test (before == 2 ^ 64 - 1) refl is
  where
    by_test : (b : Bool) → (before == 2 ^ 64 - 1) ≡ b → now ≡ cond b before (before + 1) → HasCause before now fault
    by_test true full is = inr (inr (grind (arith, nat_tests)))
    by_test false full is = inr (inl (omega arith))
