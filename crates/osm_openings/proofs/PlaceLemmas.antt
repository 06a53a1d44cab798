-- Elements of a list by their places, and the values of columns that compare as equal.
use Rattle.std.proofs.Common.{◌⊎◌, ◌≡◌, ◌∙◌, ◌+◌, ◌≤◌, ℕ, zero, suc, Bool, true, cond, List, [], ◌∷◌, refl, sym, ap, subst, inl, inr, arith, Ordering, Less, Equal, Greater, is_eq, fold, count_by, All}
use Rattle.std.specs.Prelude.{Option, Some, None, slice_get, option_map, map, slice_index_or}
use Rattle.std.specs.List.{list_any, list_all}
use Rattle.std.specs.Ordering.{ordering_reverse}
use Rattle.std.proofs.lemmas.Option.{none-some, same_Some, slice_get-map, slice_get_within, get_or_from_slice_get}
use Rattle.std.proofs.lemmas.Bool.{cases_Bool, and_parts, and_from, or_left, or_right, or_cases}
use Rattle.std.proofs.lemmas.Map.Lookups.{exact_bytes}
use Rattle.std.proofs.lemmas.Cmp.{tied_itself}
use Rattle.sqlite_value.specs.declared.value.Value.{Value}
use Rattle.sqlite_value.specs.declared.value.Value.TheVariants.{Null, Int, Real, Text, Blob}
use Rattle.sqlite_value.specs.Order.{class, value_cmp}
use Rattle.sqlite_value.proofs.OrderLemmas.{value_cmp_total, value_cmp-Text}
use Rattle.sqlite_value.proofs.KeyLemmas.{class_tied}
use Rattle.sqlite_store.specs.Catalog.{same_value}

-- ---- an element by its place
pub any_at : {X : Type 0} (p : X → Bool) (xs : List X) (k : ℕ) (x : X) → slice_get xs k ≡ Some x → p x ≡ true → list_any p xs ≡ true
any_at p [] k x at h = absurd (none-some x at)
any_at p (y ∷ xs) zero x at h = or_left _ _ (ap p (same_Some y x at) ∙ h)
any_at p (y ∷ xs) (suc k) x at h = or_right _ _ (any_at p xs k x at h)

pub any_place : {X : Type 0} (p : X → Bool) (xs : List X) → list_any p xs ≡ true → (k : ℕ) × (x : X) × (slice_get xs k ≡ Some x) × (p x ≡ true)
any_place p [] h = absurd (cc)
any_place p (y ∷ xs) h = elim (or_cases (p y) (list_any p xs) h) [ inl here ↦ (0, y, refl, here) | inr later ↦ let r = any_place p xs later in (suc r.0, r.1, r.2, r.3) ]

pub all_at : {X : Type 0} (p : X → Bool) (xs : List X) (k : ℕ) (x : X) → list_all p xs ≡ true → slice_get xs k ≡ Some x → p x ≡ true
all_at p [] k x all at = absurd (none-some x at)
all_at p (y ∷ xs) zero x all at = ap p (sym (same_Some y x at)) ∙ (and_parts (p y) (list_all p xs) all).0
all_at p (y ∷ xs) (suc k) x all at = all_at p xs k x (and_parts (p y) (list_all p xs) all).1 at

pub all_from : {X : Type 0} (p : X → Bool) (xs : List X) → ((k : ℕ) (x : X) → slice_get xs k ≡ Some x → p x ≡ true) → list_all p xs ≡ true
all_from p [] each = refl
all_from p (y ∷ xs) each = and_from _ _ (each 0 y refl) (all_from p xs (λ k x at. each (suc k) x at))

pub All-at : {X : Type 0} (P : X → Type 0) (xs : List X) (k : ℕ) (x : X) → All P xs → slice_get xs k ≡ Some x → P x
All-at P xs k x all at = subst P (get_or_from_slice_get xs k x x at) (all k x (slice_get_within xs k x at))

pub mapped_at : {X Y : Type 0} (f : X → Y) (xs : List X) (k : ℕ) (x : X) → slice_get xs k ≡ Some x → slice_get (map f xs) k ≡ Some (f x)
mapped_at f xs k x at = slice_get-map f xs k ∙ ap (option_map f) at

pub at_mapped : {X Y : Type 0} (f : X → Y) (xs : List X) (k : ℕ) (y : Y) → slice_get (map f xs) k ≡ Some y → (x : X) × (slice_get xs k ≡ Some x) × (f x ≡ y)
at_mapped f [] k y at = absurd (none-some y at)
at_mapped f (x ∷ xs) zero y at = (x, refl, same_Some (f x) y at)
at_mapped f (x ∷ xs) (suc k) y at = at_mapped f xs k y at

pub index_at : {X Y : Type 0} (f : X → Y) (xs : List X) (k : ℕ) (x : X) (d : Y) → slice_get xs k ≡ Some x → slice_index_or (map f xs) k d ≡ f x
index_at f xs k x d at = get_or_from_slice_get (map f xs) k (f x) d (mapped_at f xs k x at)

pub index_past : {X Y : Type 0} (f : X → Y) (xs : List X) (k : ℕ) (d : Y) → slice_get xs k ≡ None → slice_index_or (map f xs) k d ≡ d
index_past f [] k d at = refl
index_past f (x ∷ xs) zero d at = absurd (none-some x (sym at))
index_past f (x ∷ xs) (suc k) d at = index_past f xs k d at

-- ---- how many pass a test
none_counted : {X : Type 0} (p : X → Bool) (xs : List X) (a : ℕ) → ((k : ℕ) (x : X) → slice_get xs k ≡ Some x → p x ≡ true → ⊥) → fold (λ a x. a + cond (p x) 1 0) a xs ≡ a
none_counted p [] a none = refl
none_counted p (y ∷ xs) a none =
    elim (cases_Bool (p y)) [
      | inl holds ↦ absurd (none 0 y refl holds)
      | inr fails ↦ let same : a + 0 ≡ a = omega arith in rw (fails, same) (none_counted p xs a (λ k x at h. none (suc k) x at h))
    ]

once_counted : {X : Type 0} (p : X → Bool) (xs : List X) (a : ℕ)
    → ((k j : ℕ) (x y : X) → slice_get xs k ≡ Some x → slice_get xs j ≡ Some y → p x ≡ true → p y ≡ true → k ≡ j) → fold (λ a x. a + cond (p x) 1 0) a xs ≤ a + 1
once_counted p [] a once = omega arith
once_counted p (y ∷ xs) a once =
    elim (cases_Bool (p y)) [
      | inl holds ↦ rw (holds, none_counted p xs (a + 1) (λ k x at h. let e : 0 ≡ suc k = once 0 (suc k) y x refl at holds h in absurd (omega arith))) (omega arith)
      | inr fails ↦
          let same : a + 0 ≡ a = omega arith in
          rw (fails, same) (once_counted p xs a (λ k j x z at there h i. let e : suc k ≡ suc j = once (suc k) (suc j) x z at there h i in omega arith))
    ]

pub counted_once : {X : Type 0} (p : X → Bool) (xs : List X)
    → ((k j : ℕ) (x y : X) → slice_get xs k ≡ Some x → slice_get xs j ≡ Some y → p x ≡ true → p y ≡ true → k ≡ j) → count_by p xs ≤ 1
counted_once p xs once = once_counted p xs 0 once

-- ---- values that compare as equal
tied : (o : Ordering) → is_eq o ≡ true → o ≡ Equal
tied Less h = absurd (cc)
tied Equal h = refl
tied Greater h = absurd (cc)

pub turned : (a b : Value) → same_value a b ≡ same_value b a
turned a b = ap is_eq (value_cmp_total.antisymm a b) ∙ either (value_cmp b a)
  where
    either : (o : Ordering) → is_eq (ordering_reverse o) ≡ is_eq o
    either Less = refl
    either Equal = refl
    either Greater = refl

pub is_text_of : (v : Value) (t : List ℕ) → same_value v (Text t) ≡ true → v ≡ Text t
is_text_of Null t same = absurd (let e = class_tied Null (Text t) (tied _ same) in omega (arith, e))
is_text_of (Int n) t same = absurd (let e = class_tied (Int n) (Text t) (tied _ same) in omega (arith, e))
is_text_of (Real x) t same = absurd (let e = class_tied (Real x) (Text t) (tied _ same) in omega (arith, e))
is_text_of (Blob b) t same = absurd (let e = class_tied (Blob b) (Text t) (tied _ same) in omega (arith, e))
is_text_of (Text s) t same = ap Text (exact_bytes s t (sym (value_cmp-Text s t) ∙ tied _ same))

pub is_null_of : (v : Value) → same_value v Null ≡ true → v ≡ Null
is_null_of Null same = refl
is_null_of (Int n) same = absurd (let e = class_tied (Int n) Null (tied _ same) in omega (arith, e))
is_null_of (Real x) same = absurd (let e = class_tied (Real x) Null (tied _ same) in omega (arith, e))
is_null_of (Text s) same = absurd (let e = class_tied (Text s) Null (tied _ same) in omega (arith, e))
is_null_of (Blob b) same = absurd (let e = class_tied (Blob b) Null (tied _ same) in omega (arith, e))

pub is_some_text : (v : Value) → class v ≡ 2 → (t : List ℕ) × (v ≡ Text t)
is_some_text Null h = absurd (omega (arith, h))
is_some_text (Int n) h = absurd (omega (arith, h))
is_some_text (Real x) h = absurd (omega (arith, h))
is_some_text (Text t) h = (t, refl)
is_some_text (Blob b) h = absurd (omega (arith, h))

pub same_itself : (v : Value) → same_value v v ≡ true
same_itself v = ap is_eq (tied_itself value_cmp_total v)

-- ---- whether there is an element
pub cases_get : {X : Type 0} (o : Option X) → (o ≡ None) ⊎ ((x : X) × (o ≡ Some x))
cases_get None = inl refl
cases_get (Some x) = inr (x, refl)
