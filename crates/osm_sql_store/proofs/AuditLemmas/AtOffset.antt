-- What a query for an offset shows of a table, whatever rows it has.
use Rattle.std.proofs.Common.{◌≡◌, ℕ, negsuc, Bool, List, [], ◌∷◌, map, refl, sym, ap, ap₂, subst, ◌∙◌, Less, IsPermutation}
use Rattle.std.specs.Prelude.{filter, ◌↔◌}
use Rattle.std.specs.List.{list_all, AllByRecursion}
use Rattle.std.proofs.lemmas.List.Sorted.{IsPermutation-map, IsPermutation-sym, IsPermutation-trans}
use Rattle.sqlite.specs.declared.types.Value.TheVariants.{Int}
use Rattle.sqlite.specs.Order.{Row}
use Rattle.sqlite.specs.Tree.{Trees}
use Rattle.sqlite.specs.Term.{Term, lit, holds}
use Rattle.sqlite.specs.Query.{IsAnswer, Output, output, output_cmp}
use Rattle.sqlite_sql.proofs.QueryLemmas.{output_cmp_total}
use Rattle.sqlite_trees.specs.Tree.{IsAscending}
use Rattle.sqlite_trees.proofs.ListLemmas.{ascending-map, all-filter, IsPermutation-same}
use Rattle.sqlite_value.specs.Keys.{ascending}
use Rattle.sqlite.specs.Collation.TheVariants.{Binary}
use Rattle.osm_rows.proofs.ListLemmas.SortedLists.{sorted_is}
use Rattle.osm_sql_store.proofs.LoadLemmas.OneTable.{select, orders}
use Rattle.osm_rows.proofs.LoadLemmas.ShownRows.{columns_at}

itself : {A : Type 0} (xs : List A) → xs ≡ map (λ x. x) xs
itself [] = refl
itself (x ∷ xs) = ap (λ l. x ∷ l) (itself xs)

-- an output that shows each of these rows as it is
as_is : (out : Row → Output) (rows : List Row) → AllByRecursion (λ row. (out row).1 ≡ row) rows → map (λ (o : Output). o.1) (map out rows) ≡ rows
as_is out [] h = refl
as_is out (row ∷ rows) h = ap₂ ◌∷◌ h.0 (as_is out rows h.1)

each_as_is : (places : List ℕ) (out : Row → Output) → ((r : Row) → (out (columns_at places r)).1 ≡ columns_at places r) → (table : List Row) → AllByRecursion (λ row. (out row).1 ≡ row) (map (columns_at places) table)
each_as_is places out whole [] = tt
each_as_is places out whole (r ∷ table) = (whole r, each_as_is places out whole table)

item_as_is : {X : Type 0} (row : X → Row) (out : Row → Output) → ((x : X) → (out (row x)).1 ≡ row x) → (items : List X) → AllByRecursion (λ row. (out row).1 ≡ row) (map row items)
item_as_is row out whole [] = tt
item_as_is row out whole (x ∷ items) = (whole x, item_as_is row out whole items)

-- `SELECT shown FROM tree WHERE tests ORDER BY keys`, which shows all columns at these places
module _ (tree : ℕ) (tests shown keys : List Term) (trees : Trees) (params : Row) (rows : List Row) (places : List ℕ)
    (test : Row → Bool) (sees : (r : Row) → list_all (holds (params ∷ r ∷ [])) tests ≡ test (columns_at places r))
    (out : Row → Output) (gives : (r : Row) → output (select tree tests shown keys) (params ∷ r ∷ []) ≡ out (columns_at places r))
    (whole : (r : Row) → (out (columns_at places r)).1 ≡ columns_at places r)
    (a : IsAnswer (select tree tests shown keys) trees params rows) where
  abbrev pub passing : List Row
  passing = filter test (map (columns_at places) (trees tree))

  all : IsPermutation (map out passing) a.ordered
  all = orders tree tests shown (map (λ k. (k, ascending Binary)) keys) (lit (Int (negsuc 0))) trees params rows (columns_at places) (λ (r : Row). r) (map (columns_at places) (trees tree))
      (IsPermutation-same _ _ (itself (map (columns_at places) (trees tree)))) test sees out gives test (λ x. refl) a

  passing_as_is : map (λ (o : Output). o.1) (map out passing) ≡ passing
  passing_as_is = as_is out passing (all-filter _ test _ (each_as_is places out whole (trees tree)))

  -- the answer has the rows that pass
  pub found : IsPermutation passing rows
  found = subst (λ xs. IsPermutation xs rows) passing_as_is (subst (IsPermutation _) (sym a.shown) (IsPermutation-map (λ (o : Output). o.1) _ _ all))

  -- where these pass, which ascend, the answer has them in their order
  pub in_order_found : {X : Type 0} (row : X → Row) (items : List X) → IsAscending (λ x y. output_cmp (select tree tests shown keys) (out (row x)) (out (row y)) ≡ Less) items → ((x : X) → (out (row x)).1 ≡ row x)
      → IsPermutation (map row items) passing → rows ≡ map row items
  in_order_found row items up shows same =
      let q = select tree tests shown keys in
      let rises : IsAscending (λ x y. output_cmp q x y ≡ Less) (map out (map row items)) = ascending-map _ out _ (ascending-map _ row items up) in
      let ordered : a.ordered ≡ map out (map row items) = sorted_is (output_cmp q) (output_cmp_total q) _ _ rises (IsPermutation-trans _ _ _ (IsPermutation-map out _ _ same) all) a.sorted in
      a.shown ∙ ap (map (λ (o : Output). o.1)) ordered ∙ as_is out (map row items) (item_as_is row out shows items)

  pub exactly : {X : Type 0} (row : X → Row) (items : List X) → IsAscending (λ x y. output_cmp (select tree tests shown keys) (out (row x)) (out (row y)) ≡ Less) items → ((x : X) → (out (row x)).1 ≡ row x)
      → (rows ≡ map row items) ↔ IsPermutation (map row items) passing
  exactly row items up shows = (
    (λ is. subst (λ xs. IsPermutation xs passing) is (IsPermutation-sym _ _ found)),
    in_order_found row items up shows,
  )
