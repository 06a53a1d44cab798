-- The map at the place of a name.
use Rattle.std.proofs.Common.{◌≡◌, ℕ, zero, suc, List, [], ◌∷◌, length, Some, slice_get, Result, Ok, Err, refl, arith}
use Rattle.std.specs.Prelude.{IfOk}
use Rattle.osm_rows.specs.Held.{HeldMap}
use Rattle.osm_parts.specs.Opening.{IsLent}
use Rattle.osm_parts.specs.Turns.{HoldInTurn}

at-both : {N : Type 0} (names : List N) (maps : List HeldMap) (place : ℕ) (name : N) → length maps ≡ length names → slice_get names place ≡ Some name → (held : HeldMap) × (slice_get maps place ≡ Some held)
at-both [] maps place name long at = absurd (cc)
at-both (first ∷ names) [] place name long at = absurd (omega (arith, long))
at-both (first ∷ names) (map ∷ maps) zero name long at = (map, refl)
at-both (first ∷ names) (map ∷ maps) (suc place) name long at = at-both names maps place name (omega (arith, long)) at

lent-in_turn : {N K : Type 0} (lies : N → K → Type 0) (is_honest : K → Type 0) (holds : K → HeldMap → Type 0) (names : List N) (maps : List HeldMap) (place : ℕ) (name : N) (store : K)
    → HoldInTurn lies is_honest holds names maps → slice_get names place ≡ Some name → lies name store → is_honest store
    → IsLent (λ all held. HoldInTurn lies is_honest holds names all × ((place : ℕ) × (slice_get all place ≡ Some held))) (holds store) maps place
lent-in_turn lies is_honest holds names maps place name store all at there honest =
    let it = at-both names maps place name all.long at in
    record { held = it.0; at = it.1; store = all.each place name it.0 store at it.1 there honest; lent = (all, (place, it.1)) }

pub lent-if_ok : {N K E : Type 0} (lies : N → K → Type 0) (is_honest : K → Type 0) (holds : K → HeldMap → Type 0) (names : List N) (maps : List HeldMap) (place : ℕ) (result : Result K E)
    → HoldInTurn lies is_honest holds names maps → IfOk result (λ store. (name : N) × (slice_get names place ≡ Some name) × lies name store)
    → IfOk result (λ store. is_honest store → IsLent (λ all held. HoldInTurn lies is_honest holds names all × ((place : ℕ) × (slice_get all place ≡ Some held))) (holds store) maps place)
lent-if_ok lies is_honest holds names maps place (Ok store) all given = λ honest. lent-in_turn lies is_honest holds names maps place given.0 store all given.1 given.2 honest
lent-if_ok lies is_honest holds names maps place (Err fault) all given = tt
