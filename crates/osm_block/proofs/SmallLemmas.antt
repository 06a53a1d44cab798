-- Numbers that are small: the bits of all of them bound each, and their sums and products fit.
use Rattle.std.proofs.Common.{◌≡◌, ℕ, ◌+◌, ◌*◌, ◌/◌, ◌%◌, ◌^◌, ◌<◌, ◌≤◌, ◌==◌, List, [], ◌∷◌, map, length, get_or, set, take, drop, subst, true, false, cond, ◌&&◌, refl, sym, ap, ◌∙◌, ℤ, pos, negsuc, ◌+ℤ◌, ◌*ℤ◌, FitsSigned, arith, bit_or}
use Rattle.std.specs.Prelude.{unsigned_abs}
use Rattle.std.specs.List.{AllByRecursion, list_all}
use Rattle.std.specs.Int.{w64}
use Rattle.std.proofs.lemmas.Int.{ints, unsigned_abs-mul}
use Rattle.std.proofs.Math.IntN.{*ℤ_comm}
use Rattle.std.proofs.lemmas.Nat.{le_or_l, le_or_r, mul-le}
use Rattle.std.proofs.lemmas.List.{drop_more, take_all, take_more, drop-set-lt}
use Rattle.pbf_wire.specs.Readings.{sint64}
use Rattle.osm_value.specs.Ranges.{is_wide}
use Rattle.osm_block.specs.Block.{time}
use Rattle.osm_block.specs.Phases.{coordinate_in_range}
use Rattle.osm_block.proofs.DifferencesLemmas.{AllByRecursion-push}

-- ---- the bits of all numbers

raised : {A : Type 0} (f : A → ℕ) (b c : ℕ) (xs : List A) → b ≤ c → AllByRecursion (λ x. f x ≤ b) xs → AllByRecursion (λ x. f x ≤ c) xs
raised f b c [] h all = tt
raised f b c (x ∷ xs) h all = (omega (arith, h, all.0), raised f b c xs h all.1)

pub bits_more : {A : Type 0} (f : A → ℕ) (bits : ℕ) (xs : List A) (i : ℕ) (d : A) → i < length xs → AllByRecursion (λ x. f x ≤ bits) (take i xs) →
    AllByRecursion (λ x. f x ≤ bit_or bits (f (get_or xs i d))) (take (i + 1) xs)
bits_more f bits xs i d h all =
    let more : ℕ = bit_or bits (f (get_or xs i d)) in
    subst (AllByRecursion (λ x. f x ≤ more)) (sym (take_more xs i d h))
    (AllByRecursion-push (λ x. f x ≤ more) (take i xs) (get_or xs i d) (raised f bits more (take i xs) (le_or_l bits (f (get_or xs i d))) all) (le_or_r bits (f (get_or xs i d))))

pub bits_of_all : {A : Type 0} (f : A → ℕ) (bits : ℕ) (xs : List A) (i : ℕ) → length xs ≤ i → AllByRecursion (λ x. f x ≤ bits) (take i xs) → AllByRecursion (λ x. f x ≤ bits) xs
bits_of_all f bits xs i over all = subst (AllByRecursion (λ x. f x ≤ bits)) (take_all i xs over) all

pub below : {A : Type 0} (f : A → ℕ) (b c : ℕ) (xs : List A) → b < c → AllByRecursion (λ x. f x ≤ b) xs → AllByRecursion (λ x. f x < c) xs
below f b c [] h all = tt
below f b c (x ∷ xs) h all = (omega (arith, h, all.0), below f b c xs h all.1)

-- ---- sums

small_difference : (n : ℕ) → n < 2 ^ 42 → unsigned_abs (sint64 n) ≤ 2 ^ 41
small_difference n h = elim (n % 2 == 0) as (λ b. unsigned_abs (cond b (pos (n / 2)) (negsuc (n / 2))) ≤ 2 ^ 41) [ true ↦ omega (arith, h) | false ↦ omega (arith, h) ]

pub small_differences : (ns : List ℕ) → AllByRecursion (λ n. n < 2 ^ 42) ns → AllByRecursion (λ d. unsigned_abs d ≤ 2 ^ 41) (map sint64 ns)
small_differences [] h = tt
small_differences (n ∷ ns) h = (small_difference n h.0, small_differences ns h.1)

pub abs-sum : (a b : ℤ) → unsigned_abs (a +ℤ b) ≤ unsigned_abs a + unsigned_abs b
abs-sum a b = grind (arith, ints)

pub small_fits : (z : ℤ) → unsigned_abs z ≤ 2 ^ 62 → FitsSigned w64 z
small_fits z h = grind (arith, ints)

pub small_at : (P : ℤ → Type 0) (xs : List ℤ) (i : ℕ) (d : ℤ) → i < length xs → AllByRecursion P (drop i xs) → P (get_or xs i d)
small_at P xs i d h all = (subst (AllByRecursion P) (drop_more xs i d h) all).0

pub small_behind : (P : ℤ → Type 0) (xs : List ℤ) (i : ℕ) (value d : ℤ) → i < length xs → AllByRecursion P (drop i xs) → AllByRecursion P (drop (i + 1) (set xs i value))
small_behind P xs i value d h all = subst (AllByRecursion P) (sym (drop-set-lt (i + 1) xs i value (omega arith))) (subst (AllByRecursion P) (drop_more xs i d h) all).1

-- ---- products

small_is_wide : (z : ℤ) → unsigned_abs z ≤ 2 ^ 61 → is_wide z ≡ true
small_is_wide z h = grind (arith, ints)

pub small_are_wide : (ns : List ℤ) → AllByRecursion (λ n. unsigned_abs n < 2 ^ 36) ns → list_all is_wide ns ≡ true
small_are_wide [] all = refl
small_are_wide (n ∷ ns) all = ap (λ b. b && list_all is_wide ns) (small_is_wide n (omega (arith, all.0))) ∙ small_are_wide ns all.1

product : (a b : ℤ) → unsigned_abs a ≤ 2 ^ 24 → unsigned_abs b < 2 ^ 36 → unsigned_abs (a *ℤ b) ≤ 2 ^ 60
product a b small_a small_b =
    let bound : unsigned_abs a * unsigned_abs b ≤ 2 ^ 24 * 2 ^ 36 = mul-le (unsigned_abs a) (unsigned_abs b) (2 ^ 24) (2 ^ 36) small_a (omega (arith, small_b)) in
    omega (arith, bound, unsigned_abs-mul a b)

pub small_times : (size : ℤ) (ns : List ℤ) → unsigned_abs size ≤ 2 ^ 24 → AllByRecursion (λ n. unsigned_abs n < 2 ^ 36) ns → list_all (λ t. is_wide (time size t)) ns ≡ true
small_times size [] small all = refl
small_times size (n ∷ ns) small all =
    let wide : is_wide (n *ℤ size) ≡ true = small_is_wide (n *ℤ size) (omega (arith, ap unsigned_abs (*ℤ_comm n size), product size n small all.0)) in
    ap (λ b. b && list_all (λ t. is_wide (time size t)) ns) wide ∙ small_times size ns small all.1

pub small_coordinates : (offset size : ℤ) (ns : List ℤ) → unsigned_abs offset ≤ 2 ^ 60 → unsigned_abs size ≤ 2 ^ 24 → AllByRecursion (λ n. unsigned_abs n < 2 ^ 36) ns →
    list_all (coordinate_in_range offset size) ns ≡ true
small_coordinates offset size [] near small all = refl
small_coordinates offset size (n ∷ ns) near small all =
    let wide : is_wide (offset +ℤ size *ℤ n) ≡ true = small_is_wide (offset +ℤ size *ℤ n) (omega (arith, abs-sum offset (size *ℤ n), near, product size n small all.0)) in
    ap (λ b. b && list_all (coordinate_in_range offset size) ns) wide ∙ small_coordinates offset size ns near small all.1
