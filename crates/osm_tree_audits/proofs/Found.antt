-- What an index finds are the table's own rows, in the index's order.
use Rattle.std.proofs.Common.{◌≡◌, ℕ, ◌≤◌, Bool, true, false, cond, Less, Equal, Greater, Ordering, is_eq, is_gt, is_lt, true≢false, List, [], ◌∷◌, ◌++◌, map, filter, flat_map, length, drop, refl, sym, ap, ap₂, subst, ◌∙◌, arith, IsPermutation}
use Rattle.std.specs.List.{AllByRecursion}
use Rattle.std.specs.Ordering.{ordering_then}
use Rattle.std.specs.Prelude.{◌↔◌}
use Rattle.std.specs.Cmp.{IsTotalOrder}
use Rattle.std.proofs.lemmas.Cmp.{on_total}
use Rattle.std.proofs.lemmas.List.{map-append, length-map}
use Rattle.std.proofs.lemmas.List.Sorted.{IsPermutation-trans, IsPermutation-map, IsPermutation-sym}
use Rattle.sqlite_value.specs.declared.value.Value.{Value}
use Rattle.sqlite_value.specs.declared.keys.Order.{Order}
use Rattle.sqlite_value.specs.Order.{Row, column}
use Rattle.sqlite_value.specs.Keys.{plain, later, first_key, by_key, entry_cmp, prefix_cmp}
use Rattle.sqlite_value.proofs.KeyLemmas.{entry_cmp_total}
use Rattle.sqlite_trees.specs.declared.store.Shape.TheVariants.{Table}
use Rattle.sqlite_trees.specs.Tree.{IsAscending, IsIndex, rowid}
use Rattle.sqlite_trees.specs.View.{IsShaped}
use Rattle.sqlite_trees.proofs.ListLemmas.{IsPermutation-flat_map, IsPermutation-filter, all_weaker, all-filter, all-map, all-permutation, ascending-filter, ascending-map, ascending_weaker}
use Rattle.sqlite_sql.specs.Catalog.{entry_of, IsIndexOf}
use Rattle.sqlite_exec.specs.Plan.{resolved}
use Rattle.sqlite_exec.proofs.ScanLemmas.{resolves}
use Rattle.sqlite_exec.proofs.PartitionLemmas.{sorted_from_ascending}
use Rattle.osm_rows.proofs.ListLemmas.SortedLists.{sorted_is}
use Rattle.osm_tree_audits.specs.Finding.{starts}

-- ---- the rows that entries lead to

pub flat_picked : (f : Row → List Row) (h : Row → Row) (p : Row → Bool) (rows : List Row) → AllByRecursion (λ r. f (h r) ≡ r ∷ []) rows
    → flat_map f (filter p (map h rows)) ≡ filter (λ r. p (h r)) rows
flat_picked f h p [] all = refl
flat_picked f h p (r ∷ rows) all =
    let more = flat_picked f h p rows all.1 in
    elim (p (h r)) as (λ b. flat_map f (cond b (h r ∷ filter p (map h rows)) (filter p (map h rows))) ≡ cond b (r ∷ filter (λ r. p (h r)) rows) (filter (λ r. p (h r)) rows))
    [ true ↦ ap₂ ◌++◌ all.0 more | false ↦ more ]

-- the rows whose entries begin with the key, each once
found_rows : (cs : List ℕ) (key : Row) (rows entries : List Row) → IsShaped Table rows → IsIndexOf cs rows entries
    → IsPermutation (filter (λ r. starts key (entry_of cs r)) rows) (flat_map (resolved rows (length cs)) (filter (starts key) entries))
found_rows cs key rows entries table is =
    subst (λ xs. IsPermutation xs (flat_map (resolved rows (length cs)) (filter (starts key) entries))) (flat_picked (resolved rows (length cs)) (entry_of cs) (starts key) rows (resolves cs rows table))
    (IsPermutation-flat_map (resolved rows (length cs)) _ _ (IsPermutation-filter (starts key) _ _ is))

pub filter_mapped : {A B : Type 0} (f : A → B) (p : B → Bool) (q : A → Bool) (same : (a : A) → p (f a) ≡ q a) (xs : List A) → filter p (map f xs) ≡ map f (filter q xs)
filter_mapped f p q same [] = refl
filter_mapped f p q same (x ∷ xs) =
    let more = filter_mapped f p q same xs in
    rw same (elim (q x) as (λ b. cond b (f x ∷ filter p (map f xs)) (filter p (map f xs)) ≡ map f (cond b (x ∷ filter q xs) (filter q xs)))
    [ true ↦ ap (λ ys. f x ∷ ys) more | false ↦ more ])

-- ---- the first columns of an entry

-- a key compares with what is in front of the rowid
front : (o : Order) (a more key : Row) → length key ≤ length a → prefix_cmp o (a ++ more) key ≡ prefix_cmp o a key
front o [] more [] short = refl
front o [] more (k ∷ key) short = absurd (omega (arith, short))
front o (v ∷ a) more [] short = refl
front o (v ∷ a) more (k ∷ key) short = ap (ordering_then (by_key (first_key o) v k)) (front (later o) a more key (omega (arith, short)))

not_above : (k more rest : Ordering) → ordering_then k more ≡ Less → (more ≡ Less → is_gt rest ≡ false) → is_gt (ordering_then k rest) ≡ false
not_above Less more rest h f = refl
not_above Equal more rest h f = f h
not_above Greater more rest h f = absurd (true≢false (sym (ap is_lt h)))

-- an entry that is lower isn't higher in front of its rowid
fronts_rise : (o : Order) (a b : Row) (x y : Value) → length a ≡ length b → entry_cmp o (a ++ x ∷ []) (b ++ y ∷ []) ≡ Less → is_gt (entry_cmp o a b) ≡ false
fronts_rise o [] [] x y same low = refl
fronts_rise o [] (v ∷ b) x y same low = absurd (omega (arith, same))
fronts_rise o (u ∷ a) [] x y same low = absurd (omega (arith, same))
fronts_rise o (u ∷ a) (v ∷ b) x y same low = not_above _ _ _ low (fronts_rise (later o) a b x y (omega (arith, same)))

-- ---- lists in order

module _ {A B : Type 0} (f : A → B) where
  all_unmap : (P : B → Type 0) (xs : List A) → AllByRecursion P (map f xs) → AllByRecursion (λ x. P (f x)) xs
  all_unmap P [] h = tt
  all_unmap P (x ∷ xs) h = (h.0, all_unmap P xs h.1)

  ascending_unmap : (R : B → B → Type 0) (xs : List A) → IsAscending R (map f xs) → IsAscending (λ a b. R (f a) (f b)) xs
  ascending_unmap R [] up = tt
  ascending_unmap R (x ∷ xs) up = (all_unmap (R (f x)) xs up.0, ascending_unmap R xs up.1)

  back : (g : B → List A) (es : List B) → AllByRecursion (λ e. map f (g e) ≡ e ∷ []) es → map f (flat_map g es) ≡ es
  back g [] all = refl
  back g (e ∷ es) all = map-append f (g e) (flat_map g es) ∙ ap₂ ◌++◌ all.0 (back g es all.1)

-- ---- the rows of items, of which an index on some columns finds those that pass a test

module _ (cs shown : List ℕ) (same : (r : Row) → map (column (drop 1 r)) shown ≡ map (column r) cs) (key : Row) (short : length key ≤ length cs) where
  unfoldable pub begins : Row → Bool
  begins s = starts key (map (column s) shown)

  shown_begins : (r : Row) → begins (drop 1 r) ≡ starts key (entry_of cs r)
  unfolding begins
  shown_begins r =
      let long : length key ≤ length (map (column r) cs) = omega (arith, short, length-map cs (column r)) in
      ap (starts key) (same r) ∙ ap is_eq (sym (front plain (map (column r) cs) (rowid r ∷ []) key long))

  -- the rows whose columns begin with the key, in some order
  pub found : (rows entries : List Row) → IsShaped Table rows → IsIndexOf cs rows entries
      → IsPermutation (filter begins (map (drop 1) rows)) (map (drop 1) (flat_map (resolved rows (length cs)) (filter (starts key) entries)))
  found rows entries table is =
      let own = IsPermutation-map (drop 1) _ _ (found_rows cs key rows entries table is) in
      let seen = filter_mapped (drop 1) begins (λ r. starts key (entry_of cs r)) shown_begins rows in
      subst (λ xs. IsPermutation xs (map (drop 1) (flat_map (resolved rows (length cs)) (filter (starts key) entries)))) (sym seen) own

  place : Row → Row
  place s = map (column s) shown

  by_place : Row → Row → Ordering
  by_place s t = entry_cmp plain (place s) (place t)

  by_place_total : IsTotalOrder by_place
  unfolding by_place
  by_place_total = on_total place (entry_cmp_total plain)

  later_place : (r s : Row) → entry_cmp plain (entry_of cs r) (entry_of cs s) ≡ Less → is_gt (by_place (drop 1 r) (drop 1 s)) ≡ false
  unfolding by_place place
  later_place r s low =
      let long : length (map (column r) cs) ≡ length (map (column s) cs) = length-map cs (column r) ∙ sym (length-map cs (column s)) in
      ap₂ (λ a b. is_gt (entry_cmp plain a b)) (same r) (same s) ∙ fronts_rise plain (map (column r) cs) (map (column s) cs) (rowid r) (rowid s) long low

  -- where these rows are those that begin with the key, they are found in the order of these columns
  pub in_order : {X : Type 0} (row : X → Row) (xs : List X) → IsAscending (λ a b. entry_cmp plain (map (column (row a)) shown) (map (column (row b)) shown) ≡ Less) xs
      → (rows entries : List Row) → IsShaped Table rows → IsIndex plain entries → IsIndexOf cs rows entries → IsPermutation (map row xs) (filter begins (map (drop 1) rows))
      → map (drop 1) (flat_map (resolved rows (length cs)) (filter (starts key) entries)) ≡ map row xs
  unfolding by_place place
  in_order row xs rises rows entries table up is has =
      let some = filter (starts key) entries in
      let reached = flat_map (resolved rows (length cs)) some in
      let Leads = λ (e : Row). map (entry_of cs) (resolved rows (length cs) e) ≡ e ∷ [] in
      let lead : AllByRecursion Leads entries =
      all-permutation Leads _ entries is (all-map Leads (entry_of cs) rows (all_weaker _ (λ r. Leads (entry_of cs r)) (λ r h. ap (map (entry_of cs)) h) rows (resolves cs rows table))) in
      let again : map (entry_of cs) reached ≡ some = back (entry_of cs) (resolved rows (length cs)) some (all-filter Leads _ entries lead) in
      let Rises = λ (a b : Row). entry_cmp plain a b ≡ Less in
      let climbs = ascending_unmap (entry_of cs) Rises reached (subst (IsAscending Rises) (sym again) (ascending-filter Rises _ entries up)) in
      let sorted = sorted_from_ascending by_place by_place_total (map (drop 1) reached) (ascending-map _ (drop 1) reached (ascending_weaker _ _ later_place reached climbs)) in
      sorted_is by_place by_place_total (map row xs) (map (drop 1) reached) (ascending-map _ row xs rises) (IsPermutation-trans _ _ _ has (found rows entries table is)) sorted

  -- so they are found exactly where they are there
  pub exactly : {X : Type 0} (row : X → Row) (xs : List X) → IsAscending (λ a b. entry_cmp plain (map (column (row a)) shown) (map (column (row b)) shown) ≡ Less) xs
      → (rows entries got : List Row) → IsShaped Table rows → IsIndex plain entries → IsIndexOf cs rows entries → got ≡ map (drop 1) (flat_map (resolved rows (length cs)) (filter (starts key) entries))
      → (got ≡ map row xs) ↔ IsPermutation (map row xs) (filter begins (map (drop 1) rows))
  exactly row xs rises rows entries got table up is are = (
    (λ same. subst (λ l. IsPermutation l (filter begins (map (drop 1) rows))) (sym are ∙ same) (IsPermutation-sym _ _ (found rows entries table is))),
    (λ has. are ∙ in_order row xs rises rows entries table up is has),
  )
