-- What the tests of the ranges mean, and how an element's parts are shown to be inside them.
use Rattle.std.proofs.Common.{◌≡◌, ℕ, zero, suc, ◌-◌, ◌^◌, ◌<◌, ◌-ℤ◌, ◌≤ℤ◌, List, [], ◌∷◌, ◌++◌, map, length, get_or, Bool, arith, ℤ, pos, negsuc, Option, Some, IsTrue, FitsSigned, w64, subst}
use Rattle.std.proofs.lemmas.Int.{ints}
use Rattle.std.proofs.lemmas.Bool.{and_parts, and_from}
use Rattle.std.specs.Prelude.{int_le}
use Rattle.std.specs.List.{AllByRecursion}
use Rattle.osm_value.specs.Ranges.{IsWide, is_version, is_uid, passes}

-- ---- wide numbers: ids, references, nanodegrees, milliseconds, changesets

pub wide_bounds : (z : ℤ) → IsWide z → (negsuc (2 ^ 62 - 2) ≤ℤ z) × (z ≤ℤ pos (2 ^ 62 - 1))
wide_bounds z h =
    let parts = and_parts (int_le (negsuc (2 ^ 62 - 2)) z) (int_le z (pos (2 ^ 62 - 1))) h in
    (grind (arith, ints, parts.0), grind (arith, ints, parts.1))

pub wide_within : (z : ℤ) → negsuc (2 ^ 62 - 2) ≤ℤ z → z ≤ℤ pos (2 ^ 62 - 1) → IsWide z
wide_within z low high = and_from (int_le (negsuc (2 ^ 62 - 2)) z) (int_le z (pos (2 ^ 62 - 1))) (grind (arith, ints)) (grind (arith, ints))

-- as an i64
pub wide_fits : (z : ℤ) → IsWide z → FitsSigned w64 z
wide_fits z h = let bounds = wide_bounds z h in search (arith, ints)

-- so does the difference of two
pub difference_fits : (x y : ℤ) → IsWide x → IsWide y → FitsSigned w64 (x -ℤ y)
difference_fits x y h k =
    let a = wide_bounds x h in
    let b = wide_bounds y k in
    search (arith, ints)

-- ---- versions and user ids

pub version_bounds : (z : ℤ) → IsTrue (is_version z) → (pos 0 ≤ℤ z) × (z ≤ℤ pos (2 ^ 31 - 1))
version_bounds z h =
    let parts = and_parts (int_le (pos 0) z) (int_le z (pos (2 ^ 31 - 1))) h in
    (grind (arith, ints, parts.0), grind (arith, ints, parts.1))

pub uid_bounds : (z : ℤ) → IsTrue (is_uid z) → (negsuc 0 ≤ℤ z) × (z ≤ℤ pos (2 ^ 31 - 2))
uid_bounds z h =
    let parts = and_parts (int_le (negsuc 0) z) (int_le z (pos (2 ^ 31 - 2))) h in
    (grind (arith, ints, parts.0), grind (arith, ints, parts.1))

pub uid_within : (z : ℤ) → negsuc 0 ≤ℤ z → z ≤ℤ pos (2 ^ 31 - 2) → IsTrue (is_uid z)
uid_within z low high = and_from (int_le (negsuc 0) z) (int_le z (pos (2 ^ 31 - 2))) (grind (arith, ints)) (grind (arith, ints))

-- ---- what may be absent

pub passes_some : {A : Type 0} (test : A → Bool) (o : Option A) (x : A) → o ≡ Some x → IsTrue (passes test o) → IsTrue (test x)
passes_some test o x is h = let P : Option _ → Type 0 = λ o. IsTrue (passes test o) in subst P is h

-- ---- each of a list

pub all_append : {A : Type 0} (P : A → Type 0) (xs ys : List A) → AllByRecursion P xs → AllByRecursion P ys → AllByRecursion P (xs ++ ys)
all_append P [] ys h k = k
all_append P (x ∷ xs) ys h k = (h.0, all_append P xs ys h.1 k)

-- one more at the end
pub all_push : {A : Type 0} (P : A → Type 0) (xs : List A) (x : A) → AllByRecursion P xs → P x → AllByRecursion P (xs ++ x ∷ [])
all_push P xs x h k = all_append P xs (x ∷ []) h (k, tt)

pub all_front : {A : Type 0} (P : A → Type 0) (xs ys : List A) → AllByRecursion P (xs ++ ys) → AllByRecursion P xs
all_front P [] ys h = tt
all_front P (x ∷ xs) ys h = (h.0, all_front P xs ys h.1)

pub all_back : {A : Type 0} (P : A → Type 0) (xs ys : List A) → AllByRecursion P (xs ++ ys) → AllByRecursion P ys
all_back P [] ys h = h
all_back P (x ∷ xs) ys h = all_back P xs ys h.1

-- at an index
pub all_at : {A : Type 0} (P : A → Type 0) (xs : List A) (i : ℕ) (d : A) → AllByRecursion P xs → i < length xs → P (get_or xs i d)
all_at P [] i d h inside = absurd (omega arith)
all_at P (x ∷ xs) zero d h inside = h.0
all_at P (x ∷ xs) (suc i) d h inside = all_at P xs i d h.1 (omega arith)

-- through a view of each
pub all_map : {A B : Type 0} (P : B → Type 0) (f : A → B) (xs : List A) → AllByRecursion (λ x. P (f x)) xs → AllByRecursion P (map f xs)
all_map P f [] h = tt
all_map P f (x ∷ xs) h = (h.0, all_map P f xs h.1)

pub all_mapped : {A B : Type 0} (P : B → Type 0) (f : A → B) (xs : List A) → AllByRecursion P (map f xs) → AllByRecursion (λ x. P (f x)) xs
all_mapped P f [] h = tt
all_mapped P f (x ∷ xs) h = (h.0, all_mapped P f xs h.1)

-- a fact that follows from another
pub all_weaker : {A : Type 0} (P Q : A → Type 0) (xs : List A) → ((x : A) → P x → Q x) → AllByRecursion P xs → AllByRecursion Q xs
all_weaker P Q [] f h = tt
all_weaker P Q (x ∷ xs) f h = (f x h.0, all_weaker P Q xs f h.1)
