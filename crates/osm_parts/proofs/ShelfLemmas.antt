-- Stores in slots, of which one is taken and put back.
use Rattle.std.proofs.Common.{◌≡◌, ◌≢◌, ◌⊎◌, ℕ, zero, suc, List, [], ◌∷◌, ◌++◌, length, set, slice_get, Option, Some, None, refl, sym, ◌∙◌, ap, subst, inl, inr, arith, length-append, length-set}
use Rattle.std.proofs.lemmas.Bool.Decides.{eqb_tells}
use Rattle.std.proofs.lemmas.Option.{slice_get_within}
use Rattle.osm_rows.specs.Held.{HeldMap}
use Rattle.osm_parts.specs.Shelves.{HoldsEach, LendsOne, AllAreIn}
use Rattle.osm_parts.proofs.PieceLemmas.{held-at}

same-set : {X : Type 0} (xs : List X) (i : ℕ) (x y : X) → slice_get xs i ≡ Some x → slice_get (set xs i y) i ≡ Some y
same-set [] i x y at = absurd (cc)
same-set (first ∷ xs) zero x y at = refl
same-set (first ∷ xs) (suc i) x y at = same-set xs i x y at

other-set : {X : Type 0} (xs : List X) (i j : ℕ) (y : X) → j ≢ i → slice_get (set xs i y) j ≡ slice_get xs j
other-set [] i j y apart = refl
other-set (first ∷ xs) zero zero y apart = absurd (apart refl)
other-set (first ∷ xs) zero (suc j) y apart = refl
other-set (first ∷ xs) (suc i) zero y apart = refl
other-set (first ∷ xs) (suc i) (suc j) y apart = other-set xs i j y (λ same. apart (ap suc same))

-- what stands in a list with one more
get-push : {X : Type 0} (xs : List X) (y z : X) (i : ℕ) → slice_get (xs ++ y ∷ []) i ≡ Some z → (slice_get xs i ≡ Some z) ⊎ ((i ≡ length xs) × (y ≡ z))
get-push [] y z zero at = let same : y ≡ z = cc in inr (refl, same)
get-push [] y z (suc i) at = absurd (cc)
get-push (x ∷ xs) y z zero at = inl at
get-push (x ∷ xs) y z (suc i) at = elim (get-push xs y z i at) [ inl there ↦ inl there | inr (same, is) ↦ inr (ap suc same, is) ]

get-front : {X : Type 0} (xs : List X) (y z : X) (i : ℕ) → slice_get xs i ≡ Some z → slice_get (xs ++ y ∷ []) i ≡ Some z
get-front [] y z i at = absurd (cc)
get-front (x ∷ xs) y z zero at = at
get-front (x ∷ xs) y z (suc i) at = get-front xs y z i at

get-last : {X : Type 0} (xs : List X) (y : X) → slice_get (xs ++ y ∷ []) (length xs) ≡ Some y
get-last [] y = refl
get-last (x ∷ xs) y = get-last xs y

equal-or : (i j : ℕ) → (i ≡ j) ⊎ (i ≢ j)
equal-or i j = elim (eqb_tells i j) [ inl (_, same) ↦ inl same | inr (_, apart) ↦ inr apart ]

module _ {K : Type 0} (holds : K → HeldMap → Type 0) (slots : List (Option K)) (maps : List HeldMap) where
  -- one more store
  pub pushed : (store : K) (held : HeldMap) → HoldsEach holds slots maps → holds store held → HoldsEach holds (slots ++ Some store ∷ []) (maps ++ held ∷ [])
  pushed store held all is = record {
    long = let same = all.long in omega (arith, same, length-append slots (Some store ∷ []), length-append maps (held ∷ []));
    each = λ place one at. elim (get-push maps held one place at) [
      | inl there ↦ (let it = all.each place one there in (it.0, get-front slots (Some store) (Some it.0) place it.1, it.2))
      | inr (last, same) ↦ (store, subst (λ (i : ℕ). slice_get (slots ++ Some store ∷ []) i ≡ Some (Some store)) (all.long ∙ sym last) (get-last slots (Some store)), subst (λ (m : HeldMap). holds store m) same is)
    ];
  }

  -- the store that is taken holds the map of its place
  pub lent : (place : ℕ) (store : K) → HoldsEach holds slots maps → slice_get slots place ≡ Some (Some store)
      → (held : HeldMap) × (slice_get maps place ≡ Some held) × holds store held × LendsOne holds (set slots place None) (Some place) maps held
  lent place store all at =
      let within = slice_get_within slots place (Some store) at in
      let long = all.long in
      let one = held-at maps place (omega (arith, within, long)) in
      let it = all.each place one.0 one.1 in
      let same : it.0 ≡ store = (let e : Some (Some it.0) ≡ Some (Some store) = sym it.1 ∙ at in cc) in (
        one.0,
        one.1,
        subst (λ (k : K). holds k one.0) same it.2,
        record {
          long = length-set slots place None ∙ long;
          place = place;
          taken_at = refl;
          at = one.1;
          free = same-set slots place (Some store) None at;
          others = λ other held apart at_other.
              (let there = all.each other held at_other in (there.0, other-set slots place other None apart ∙ there.1, there.2));
        },
      )

module _ {K : Type 0} (Is : K → Type 0) (slots : List (Option K)) (place : ℕ) (store : K) where
  -- with what was taken they are all
  pub all-with : slice_get slots place ≡ Some (Some store) → AllAreIn Is (set slots place None) → Is store → AllAreIn Is slots
  all-with at others is other one there = elim (equal-or other place) [
    | inl here ↦ (
        let at_other : slice_get slots other ≡ Some (Some store) = subst (λ (i : ℕ). slice_get slots i ≡ Some (Some store)) (sym here) at in
        let same : store ≡ one = (let e : Some (Some store) ≡ Some (Some one) = sym at_other ∙ there in cc) in
        subst Is same is
        )
    | inr apart ↦ others other one (other-set slots place other None apart ∙ there)
  ]

  -- of those with what was put back, it is one, and the others are the rest
  pub all-without : slice_get slots place ≡ Some None → AllAreIn Is (set slots place (Some store)) → AllAreIn Is slots × Is store
  all-without free all = (
    λ other one there. elim (equal-or other place) [
      | inl here ↦ absurd (let e : Some None ≡ Some (Some one) = sym free ∙ subst (λ (i : ℕ). slice_get slots i ≡ Some (Some one)) here there in cc)
      | inr apart ↦ all other one (other-set slots place other (Some store) apart ∙ there)
    ],
    all place store (same-set slots place None (Some store) free),
  )
