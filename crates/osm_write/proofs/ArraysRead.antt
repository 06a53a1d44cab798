-- The arrays of a message of nodes are read back.
use Rattle.std.proofs.Common.{◌≡◌, ℕ, List, [], ◌∷◌, length, map, refl, ap, ◌∙◌, Bool, true, false, ℤ, Option, Some, None, is_some, option_map}
use Rattle.std.specs.Prelude.{replicate}
use Rattle.std.specs.List.{AllByRecursion, filter_map}
use Rattle.osm_block.specs.Differences.{Diff}
use Rattle.osm_block.specs.Block.{values_for, StandsOrNone}

-- what a value that is there is read as
abbrev pub read_of : {A B : Type 0} → (B → Option A) → Option B → Option A
read_of read None = None
read_of read (Some x) = read x

-- it is there for all of them, or for none
abbrev pub IsUniform : {I B : Type 0} → (I → Option B) → Bool → List I → Type 0
IsUniform get there is = AllByRecursion (λ i. is_some (get i) ≡ there) is

no_some : {B : Type 0} (o : Option B) → is_some o ≡ false → o ≡ None
no_some None h = refl
no_some (Some x) h = absurd (cc)

some_there : {B : Type 0} (o : Option B) → is_some o ≡ true → (x : B) × (o ≡ Some x)
some_there None h = absurd (cc)
some_there (Some x) h = (x, refl)

module _ {I A B : Type 0} where
  -- where it is there for all
  all_there : (get : I → Option B) (read : B → Option A) (is : List I) → IsUniform get true is → map (λ i. read_of read (get i)) is ≡ map read (filter_map get is)
  all_there get read [] all = refl
  all_there get read (i ∷ is) all =
      let s = some_there (get i) all.0 in
      let e = s.1 in
      rw e (ap (λ (xs : List (Option A)). read s.0 ∷ xs) (all_there get read is all.1))

  all_none : (get : I → Option B) (read : B → Option A) (is : List I) → IsUniform get false is → map (λ i. read_of read (get i)) is ≡ replicate (length is) None
  all_none get read [] all = refl
  all_none get read (i ∷ is) all = let e = no_some (get i) all.0 in rw e (ap (λ (xs : List (Option A)). None ∷ xs) (all_none get read is all.1))

none_there : {I B : Type 0} (get : I → Option B) (is : List I) → IsUniform get false is → filter_map get is ≡ []
none_there get [] all = refl
none_there get (i ∷ is) all = let e = no_some (get i) all.0 in rw e (none_there get is all.1)

full_array : {A : Type 0} (n : ℕ) (xs ys : List (Option A)) → xs ≡ ys → (xs ≡ [] → n ≡ 0) → xs ≡ values_for n ys
full_array n [] [] e zero = let h = zero refl in rw h refl
full_array n [] (y ∷ ys) e zero = absurd (cc)
full_array n (x ∷ xs) [] e zero = absurd (cc)
full_array n (x ∷ xs) (y ∷ ys) e zero = e

empty : {I A : Type 0} (f : I → A) (is : List I) → map f is ≡ [] → length is ≡ 0
empty f [] e = refl
empty f (i ∷ is) e = absurd (cc)

module _ {I A B : Type 0} where
  -- an array says what its values are, each of them or none
  pub array_read : (get : I → Option B) (read : B → Option A) (there : Bool) (is : List I) → IsUniform get there is
      → map (λ i. read_of read (get i)) is ≡ values_for (length is) (map read (filter_map get is))
  array_read get read true is all = full_array (length is) (map (λ i. read_of read (get i)) is) (map read (filter_map get is)) (all_there get read is all) (empty (λ i. read_of read (get i)) is)
  array_read get read false is all = let e = none_there get is all in rw e (all_none get read is all)

  parts : (part : I → Option A) (get : I → Option B) (read : B → Option A) (is : List I) → AllByRecursion (λ i. part i ≡ read_of read (get i)) is → map part is ≡ map (λ i. read_of read (get i)) is
  parts part get read [] same = refl
  parts part get read (i ∷ is) same = let a = same.0 in let b = parts part get read is same.1 in cc

  -- of a part of each that is what is read
  pub array_of : (part : I → Option A) (get : I → Option B) (read : B → Option A) (there : Bool) (is : List I) → IsUniform get there is
      → AllByRecursion (λ i. part i ≡ read_of read (get i)) is → map part is ≡ values_for (length is) (map read (filter_map get is))
  array_of part get read there is all same = parts part get read is same ∙ array_read get read there is all

-- numbers that stand as differences
pub stands : {I A : Type 0} (part : I → Option A) (get : I → Option ℤ) (meaning : ℤ → A) (there : Bool) (is : List I) (ds : List ℤ) → IsUniform get there is
    → AllByRecursion (λ i. part i ≡ read_of (λ v. Some (meaning v)) (get i)) is → Diff (filter_map get is) ds
    → StandsOrNone (length is) (map part is) meaning ds
stands part get meaning there is ds all same diff = (filter_map get is, diff, array_of part get (λ v. Some (meaning v)) there is all same)

filter_map_one : {I B : Type 0} (P : B → Type 0) (get : I → Option B) (i : I) (is : List I) (o : Option B) → get i ≡ o → ((x : B) → o ≡ Some x → P x) → AllByRecursion P (filter_map get is)
    → AllByRecursion P (filter_map get (i ∷ is))
filter_map_one P get i is None e h again = rw e again
filter_map_one P get i is (Some x) e h again = rw e (h x refl, again)

pub all_filter_map : {I B : Type 0} (P : B → Type 0) (get : I → Option B) (is : List I) → AllByRecursion (λ i. (x : B) → get i ≡ Some x → P x) is → AllByRecursion P (filter_map get is)
all_filter_map P get [] all = tt
all_filter_map P get (i ∷ is) all = filter_map_one P get i is (get i) refl all.0 (all_filter_map P get is all.1)

pub is_some-option_map : {A B : Type 0} (f : A → B) (o : Option A) → is_some (option_map f o) ≡ is_some o
is_some-option_map f None = refl
is_some-option_map f (Some x) = refl
