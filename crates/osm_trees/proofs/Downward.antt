-- The extents that touch a range are read downward from its end, as far as the first that ends before it.
use Rattle.std.proofs.Common.{◌≡◌, ℕ, suc, pos, ◌<◌, ◌≤◌, ◌-◌, Bool, true, false, not, ◌&&◌, cond, nat_lt, List, [], ◌∷◌, ◌++◌, map, All, refl, sym, ap, subst, ◌∙◌, arith}
use Rattle.std.specs.Prelude.{drop, filter, reverse, AllPairs}
use Rattle.std.specs.List.{AllByRecursion}
use Rattle.std.specs.Ordering.{is_gt}
use Rattle.std.proofs.lemmas.Bool.Decides.{nat_tests}
use Rattle.std.proofs.lemmas.List.{append-nil, append_assoc, map-append, reverse-append}
use Rattle.std.proofs.lemmas.List.Elements.{All-filter, filter-append, recursion_from_All}
use Rattle.std.proofs.lemmas.List.Sorted.{All-permutation, IsPermutation-reverse}
use Rattle.sqlite_value.specs.declared.value.Value.TheVariants.{Int}
use Rattle.sqlite_value.specs.Order.{Row, value_cmp}
use Rattle.sqlite_value.specs.Keys.{plain, prefix_cmp}
use Rattle.sqlite_value.proofs.OrderLemmas.{value_cmp-Int}
use Rattle.sqlite_trees.specs.Tree.{IsAscending, IsTable, up_to_key}
use Rattle.sqlite_trees.proofs.ListLemmas.{all_of, all_weaker, all-permutation, ascending-append, ascending-filter, filter-map, filter_all, filter_none, filter_same}
use Rattle.sqlite_trees.proofs.TreeLemmas.{prefix_cmp-one, sorted_table, up_to_key-filter}
use Rattle.osm_rows.specs.declared.keeper.Extent.{Extent}
use Rattle.osm_rows.specs.Keeping.{AscendApart, IsRange, touches}
use Rattle.osm_rows.specs.LayoutHolding.{IsKeptExtent}
use Rattle.osm_rows.specs.Rows.{extent_row}

-- ---- lists in reverse

reverse-cons : {X : Type 0} (x : X) (xs : List X) → reverse (x ∷ xs) ≡ reverse xs ++ x ∷ []
reverse-cons x xs = reverse-append (x ∷ []) xs

map-reverse : {X Y : Type 0} (f : X → Y) (xs : List X) → map f (reverse xs) ≡ reverse (map f xs)
map-reverse f [] = refl
map-reverse f (x ∷ xs) =
    ap (map f) (reverse-cons x xs) ∙ map-append f (reverse xs) (x ∷ []) ∙ ap (λ l. l ++ f x ∷ []) (map-reverse f xs) ∙ sym (reverse-cons (f x) (map f xs))

one_more : {X : Type 0} (p : X → Bool) (x : X) (xs : List X) → reverse (filter p xs) ++ filter p (x ∷ []) ≡ reverse (filter p (x ∷ xs))
one_more p x xs =
    elim (p x) as (λ b. reverse (filter p xs) ++ cond b (x ∷ []) [] ≡ reverse (cond b (x ∷ filter p xs) (filter p xs)))
    [ true ↦ sym (reverse-cons x (filter p xs)) | false ↦ append-nil _ ]

filter-reverse : {X : Type 0} (p : X → Bool) (xs : List X) → filter p (reverse xs) ≡ reverse (filter p xs)
filter-reverse p [] = refl
filter-reverse p (x ∷ xs) =
    ap (filter p) (reverse-cons x xs) ∙ filter-append p (reverse xs) (x ∷ []) ∙ ap (λ l. l ++ filter p (x ∷ [])) (filter-reverse p xs) ∙ one_more p x xs

filter_both : {X : Type 0} (p q : X → Bool) (xs : List X) → filter q (filter p xs) ≡ filter (λ x. p x && q x) xs
filter_both p q [] = refl
filter_both p q (x ∷ xs) =
    elim (p x) as (λ b. filter q (cond b (x ∷ filter p xs) (filter p xs)) ≡ cond (b && q x) (x ∷ filter (λ y. p y && q y) xs) (filter (λ y. p y && q y) xs))
    [ true ↦ ap (λ l. cond (q x) (x ∷ l) l) (filter_both p q xs) | false ↦ filter_both p q xs ]

module _ {X : Type 0} (R : X → X → Type 0) where
  ascending_of : (xs : List X) → AllPairs R xs → IsAscending R xs
  ascending_of [] h = tt
  ascending_of (x ∷ xs) h =
      (recursion_from_All (R x) xs (λ k d within. h 0 (suc k) d (omega arith) (omega arith)), ascending_of xs (λ i j d low within. h (suc i) (suc j) d (omega arith) (omega arith)))

  descending : (xs : List X) → IsAscending R xs → IsAscending (λ a b. R b a) (reverse xs)
  descending [] up = tt
  descending (x ∷ xs) up =
      let before = all-permutation (R x) xs (reverse xs) (IsPermutation-reverse xs) up.0 in
      subst (IsAscending (λ a b. R b a)) (sym (reverse-cons x xs)) (ascending-append (λ a b. R b a) (reverse xs) (x ∷ []) (descending xs up.1) (tt, tt) (all_weaker (R x) _ (λ y h. (h, tt)) (reverse xs) before))

  later_than : (done : List X) (x : X) (rest : List X) → IsAscending R (done ++ x ∷ rest) → AllByRecursion (R x) rest
  later_than [] x rest up = up.0
  later_than (d ∷ done) x rest up = later_than done x rest up.1

-- ---- the walk

below_key : (off to : ℕ) → 0 < to → not (is_gt (value_cmp (Int (pos off)) (Int (pos (to - 1))))) ≡ nat_lt off to
below_key off to some = ap (λ o. not (is_gt o)) (value_cmp-Int (pos off) (pos (to - 1))) ∙ grind (arith, nat_tests)

-- the extents that begin below the end, the last one first
abbrev pub downward : ℕ → List Extent → List Extent
downward to extents = reverse (filter (λ (e : Extent). nat_lt e.off to) extents)

module _ (to : ℕ) (extents : List Extent) where
  pub rows_below : 0 < to → (rows : List Row) → IsTable rows → rows ≡ map extent_row extents → reverse (up_to_key plain (Int (pos (to - 1)) ∷ []) rows) ≡ map extent_row (downward to extents)
  rows_below some rows table is =
      let key = Int (pos (to - 1)) ∷ [] in
      let test : Row → Bool = λ r. not (is_gt (prefix_cmp plain r key)) in
      ap reverse (up_to_key-filter plain key rows (sorted_table rows table) ∙ ap (filter test) is ∙ filter-map test extent_row extents
      ∙ ap (map extent_row) (filter_same (λ (e : Extent). test (extent_row e)) (λ (e : Extent). nat_lt e.off to) extents
      (all_of _ (λ e. ap (λ o. not (is_gt o)) (prefix_cmp-one (Int (pos e.off)) (drop 1 (extent_row e)) (Int (pos (to - 1)))) ∙ below_key e.off to some) extents)))
      ∙ sym (map-reverse extent_row (filter (λ (e : Extent). nat_lt e.off to) extents))

  pub downward_kept : All IsKeptExtent extents → All IsKeptExtent (downward to extents)
  downward_kept kept = All-permutation IsKeptExtent _ _ (IsPermutation-reverse _) (All-filter (λ (e : Extent). nat_lt e.off to) IsKeptExtent extents kept)

module _ (from to : ℕ) (extents : List Extent) where
  abbrev reaches : Extent → Bool
  reaches e = nat_lt from e.fin

  touching : filter reaches (downward to extents) ≡ reverse (filter (touches from to) extents)
  touching = filter-reverse reaches _ ∙ ap reverse (filter_both (λ (e : Extent). nat_lt e.off to) reaches extents)

  all_reach : (done : List Extent) → All (λ (e : Extent). from < e.fin) done → filter reaches done ≡ done
  all_reach done past = filter_all reaches done (all_weaker (λ (e : Extent). from < e.fin) _ (λ e h. grind (arith, nat_tests, h)) done (recursion_from_All _ done past))

  pub walked : (done : List Extent) → done ≡ downward to extents → All (λ (e : Extent). from < e.fin) done → done ≡ reverse (filter (touches from to) extents)
  walked done whole past = sym (all_reach done past) ∙ ap (filter reaches) whole ∙ touching

  -- where one ends at the start or before, those below it do too
  pub stopped : (done : List Extent) (item : Extent) (rest : List Extent) → AscendApart extents → (done ++ item ∷ []) ++ rest ≡ downward to extents → All (λ (e : Extent). from < e.fin) done → IsRange item → item.fin ≤ from
      → done ≡ reverse (filter (touches from to) extents)
  stopped done item rest apart whole past range ends =
      let is : done ++ item ∷ rest ≡ downward to extents = sym (append_assoc done (item ∷ []) rest) ∙ whole in
      let down : IsAscending (λ (a b : Extent). b.fin ≤ a.off) (downward to extents) =
      descending (λ (a b : Extent). a.fin ≤ b.off) _ (ascending-filter _ (λ (e : Extent). nat_lt e.off to) extents (ascending_of (λ (a b : Extent). a.fin ≤ b.off) extents apart)) in
      let lower = later_than (λ (a b : Extent). b.fin ≤ a.off) done item rest (subst (IsAscending (λ (a b : Extent). b.fin ≤ a.off)) (sym is) down) in
      let none : filter reaches (item ∷ rest) ≡ [] =
      filter_none reaches (item ∷ rest) (grind (arith, nat_tests), all_weaker (λ (e : Extent). e.fin ≤ item.off) _ (λ e h. let own = range.0 in grind (arith, nat_tests, h)) rest lower) in
      sym (append-nil done) ∙ ap (λ l. done ++ l) (sym none) ∙ ap (λ l. l ++ filter reaches (item ∷ rest)) (sym (all_reach done past)) ∙ sym (filter-append reaches done (item ∷ rest))
      ∙ ap (filter reaches) is ∙ touching
