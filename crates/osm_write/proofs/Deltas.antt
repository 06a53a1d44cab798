-- One more number of an array, and what the numbers of an array are.
use Rattle.std.proofs.Common.{◌≡◌, ℕ, ◌+◌, ◌<◌, ◌≤◌, List, [], ◌∷◌, ◌++◌, length, map, drop, get_or, ℤ, ◌-ℤ◌, append_assoc, append-nil, arith, refl, sym, ap, subst, ◌∙◌, Option, Some, None, IsTrue, Bor}
use Rattle.std.proofs.lemmas.Int.{ints}
use Rattle.std.specs.List.{flat_map, filter_map, cons_option, AllByRecursion}
use Rattle.std.proofs.lemmas.List.{drop_all, drop_more}
use Rattle.pbf_wire.specs.Write.{shortest, zigzag}
use Rattle.osm_value.specs.Ranges.{IsInfo, IsWide, is_uid, passes}
use Rattle.osm_value.specs.Value.{InfoValue, NodeValue}
use Rattle.osm_value.proofs.Ranges.{uid_bounds, wide_within}
use Rattle.osm_write.specs.Arrays.{IsWideOrNone}
use Rattle.osm_block.specs.Differences.{differences_from}

-- ---- from an item on

pub from_some : {T B : Type 0} (number : T → Option B) (items : List T) (i : ℕ) (x : T) (n : B) → i < length items → x ≡ get_or items i x → Some n ≡ number x
    → filter_map number (drop i items) ≡ n ∷ filter_map number (drop (i + 1) items)
from_some number items i x n within is some =
    ap (filter_map number) (drop_more items i x within) ∙ ap (λ y. cons_option (number y) (filter_map number (drop (i + 1) items))) (sym is)
    ∙ ap (λ o. cons_option o (filter_map number (drop (i + 1) items))) (sym some)

pub delta_more : (before v : ℤ) (front new total : List ℕ) (rest more : List ℤ) → new ≡ front ++ shortest (zigzag (v -ℤ before)) → rest ≡ v ∷ more
    → front ++ flat_map shortest (map zigzag (differences_from before rest)) ≡ total
    → new ++ flat_map shortest (map zigzag (differences_from v more)) ≡ total
delta_more before v front new total rest more is_new is e = rw (is_new, append_assoc) (let f = rw is at e in f)

-- behind the last item
pub all_written : {T B : Type 0} (spell : List B → List ℕ) (number : T → Option B) (items : List T) (i : ℕ) (written array total : List ℕ) → spell [] ≡ [] → length items ≤ i → written ≡ array
    → array ++ spell (filter_map number (drop i items)) ≡ total → written ≡ total
all_written spell number items i written array total none over is e =
    is ∙ sym (append-nil array) ∙ (rw (drop_all i items over, none) at e)

-- ---- what the numbers are

pub each_is : {T : Type 0} (P : T → Type 0) → ((x : T) → P x) → (items : List T) → AllByRecursion P items
each_is P given [] = tt
each_is P given (x ∷ items) = (given x, each_is P given items)

-- a number of each item
pub of_all : {A B : Type 0} (number : A → B) (items : List A) → filter_map (λ x. Some (number x)) items ≡ map number items
of_all number [] = refl
of_all number (x ∷ items) = ap (λ ns. number x ∷ ns) (of_all number items)

-- and of each item seen through a view
pub of_each : {A B C : Type 0} (number : B → C) (view : A → B) (items : List A) → filter_map (λ x. Some (number (view x))) items ≡ map number (map view items)
of_each number view [] = refl
of_each number view (x ∷ items) = ap (λ ns. number (view x) ∷ ns) (of_each number view items)

pub of_same : {A : Type 0} (items : List A) → filter_map (λ x. Some x) items ≡ items
of_same [] = refl
of_same (x ∷ items) = ap (λ xs. x ∷ xs) (of_same items)

-- a number of what is known of each node
pub of_infos : {C : Type 0} (number : InfoValue → Option C) (nodes : List (Bor NodeValue)) →
    filter_map (λ (n : Bor NodeValue). number n.now.info) nodes ≡ filter_map number (map (λ (n : NodeValue). n.info) (map (λ (n : Bor NodeValue). n.now) nodes))
of_infos number [] = refl
of_infos number (n ∷ nodes) = ap (cons_option (number n.now.info)) (of_infos number nodes)

-- ---- wide numbers

pub some_is_wide : (o : Option ℤ) (z : ℤ) → o ≡ Some z → IsWide z → IsWideOrNone o
some_is_wide o z is wide = subst IsWideOrNone (sym is) wide

some_uid_is_wide : (o : Option ℤ) → IsTrue (passes is_uid o) → IsWideOrNone o
some_uid_is_wide None h = tt
some_uid_is_wide (Some z) h = let b = uid_bounds z h in wide_within z (search (arith, ints)) (search (arith, ints))

pub uid_is_wide : (i : InfoValue) → IsInfo i → IsWideOrNone i.uid
uid_is_wide i h = some_uid_is_wide i.uid h.uid
