-- What a query on one table answers.
use Rattle.std.proofs.Common.{◌≡◌, ℕ, pos, negsuc, Bool, true, false, cond, List, [], ◌∷◌, ◌++◌, map, None, refl, sym, ap, ap₂, ◌∙◌, Less, IsPermutation}
use Rattle.std.specs.Prelude.{filter, flat_map}
use Rattle.std.specs.List.{list_all}
use Rattle.std.proofs.lemmas.List.Sorted.{IsPermutation-map, IsPermutation-sym, IsPermutation-trans}
use Rattle.sqlite.specs.declared.types.Value.TheVariants.{Int}
use Rattle.sqlite.specs.Order.{Row}
use Rattle.sqlite.specs.Tree.{Trees}
use Rattle.sqlite.specs.Term.{Term, Env, lit, holds}
use Rattle.sqlite.specs.Query.{Query, inner, end, IsAnswer, Output, output, output_cmp}
use Rattle.sqlite_sql.proofs.QueryLemmas.{output_cmp_total}
use Rattle.sqlite_trees.specs.Tree.{IsAscending}
use Rattle.sqlite_trees.proofs.ListLemmas.{ascending-map, IsPermutation-filter}
use Rattle.sqlite_value.specs.declared.keys.Key.{Key}
use Rattle.sqlite_value.specs.Keys.{ascending}
use Rattle.sqlite.specs.Collation.TheVariants.{Binary}
use Rattle.osm_rows.proofs.ListLemmas.SortedLists.{sorted_is}

-- `SELECT shown FROM tree WHERE tests ORDER BY order LIMIT limit`
abbrev pub select_some : ℕ → List Term → List Term → List (Term × Key) → Term → Query
select_some tree tests shown order limit = record {
  from = inner tree end;
  filter = tests;
  group = None;
  project = shown;
  distinct = false;
  collations = [];
  order = order;
  limit = limit;
  offset = lit (Int (pos 0));
}

-- `SELECT shown FROM tree WHERE tests ORDER BY keys`
abbrev pub select : ℕ → List Term → List Term → List Term → Query
select tree tests shown keys = select_some tree tests shown (map (λ k. (k, ascending Binary)) keys) (lit (Int (negsuc 0)))

filter-map : {A B : Type 0} (f : A → B) (p : B → Bool) (q : A → Bool) (same : (a : A) → p (f a) ≡ q a) (xs : List A) → filter p (map f xs) ≡ map f (filter q xs)
filter-map f p q same [] = refl
filter-map f p q same (x ∷ xs) =
    rw (same x, filter-map f p q same xs) (elim (q x) as (λ b. cond b (f x ∷ map f (filter q xs)) (map f (filter q xs)) ≡ map f (cond b (x ∷ filter q xs) (filter q xs))) [ true ↦ refl | false ↦ refl ])

map-map_as : {A B C : Type 0} (f : B → C) (g : A → B) (h : A → C) (same : (a : A) → f (g a) ≡ h a) (xs : List A) → map f (map g xs) ≡ map h xs
map-map_as f g h same [] = refl
map-map_as f g h same (x ∷ xs) = ap₂ ◌∷◌ (same x) (map-map_as f g h same xs)

-- one output for each row that passes
outputs : {B : Type 0} (p : Row → Bool) (env : Row → Env) (f : Env → B) (rows : List Row) → map f (flat_map (λ r. cond (p r) (env r ∷ []) []) rows) ≡ map (λ r. f (env r)) (filter p rows)
outputs p env f [] = refl
outputs p env f (r ∷ rows) =
    elim (p r) as (λ b. map f (cond b (env r ∷ []) [] ++ flat_map (λ r. cond (p r) (env r ∷ []) []) rows) ≡ map (λ r. f (env r)) (cond b (r ∷ filter p rows) (filter p rows)))
    [ true ↦ ap (λ xs. f (env r) ∷ xs) (outputs p env f rows) | false ↦ outputs p env f rows ]

-- A table shows the rows of items, each as its view. What the answer orders are the outputs of the items that pass.
module _ (tree : ℕ) (tests shown : List Term) (order : List (Term × Key)) (limit : Term) (trees : Trees) (params : Row) (rows : List Row) where
  pub orders : {X : Type 0} (view : Row → Row) (row : X → Row) (items : List X)
      → IsPermutation (map view (trees tree)) (map row items)
      → (test : Row → Bool) → ((r : Row) → list_all (holds (params ∷ r ∷ [])) tests ≡ test (view r))
      → (out : Row → Output) → ((r : Row) → output (select_some tree tests shown order limit) (params ∷ r ∷ []) ≡ out (view r))
      → (passes : X → Bool) → ((x : X) → test (row x) ≡ passes x)
      → (a : IsAnswer (select_some tree tests shown order limit) trees params rows)
      → IsPermutation (map (λ x. out (row x)) (filter passes items)) a.ordered
  orders view row items held test sees out gives passes tests_as a =
      let q = select_some tree tests shown order limit in
      let found : a.kept ≡ map (λ r. output q (params ∷ r ∷ [])) (filter (λ r. list_all (holds (params ∷ r ∷ [])) tests) (trees tree)) =
      a.distinct ∙ ap (map (output q)) a.grouped ∙ outputs (λ r. list_all (holds (params ∷ r ∷ [])) tests) (λ r. params ∷ r ∷ []) (output q) (trees tree) in
      let viewed : map out (filter test (map view (trees tree))) ≡ map (λ r. output q (params ∷ r ∷ [])) (filter (λ r. list_all (holds (params ∷ r ∷ [])) tests) (trees tree)) =
      ap (map out) (filter-map view test _ (λ r. sym (sees r)) (trees tree)) ∙ map-map_as out view _ (λ r. sym (gives r)) _ in
      let modelled : map out (filter test (map row items)) ≡ map (λ x. out (row x)) (filter passes items) =
      ap (map out) (filter-map row test passes tests_as items) ∙ map-map_as out row _ (λ x. refl) _ in
      let same : IsPermutation (map out (filter test (map view (trees tree)))) (map out (filter test (map row items))) = IsPermutation-map out _ _ (IsPermutation-filter test _ _ held) in
      rw (← modelled) (IsPermutation-trans _ _ _ (IsPermutation-sym _ _ same) (rw (viewed, ← found) a.same))

-- Where the items that pass ascend by the keys, the answer shows them, in their order.
module _ (tree : ℕ) (tests shown keys : List Term) (trees : Trees) (params : Row) (rows : List Row) where
  pub answer_is : {X : Type 0} (view : Row → Row) (row : X → Row) (items : List X)
      → IsPermutation (map view (trees tree)) (map row items)
      → (test : Row → Bool) → ((r : Row) → list_all (holds (params ∷ r ∷ [])) tests ≡ test (view r))
      → (out : Row → Output) → ((r : Row) → output (select tree tests shown keys) (params ∷ r ∷ []) ≡ out (view r))
      → (passes : X → Bool) → ((x : X) → test (row x) ≡ passes x)
      → IsAscending (λ x y. output_cmp (select tree tests shown keys) (out (row x)) (out (row y)) ≡ Less) (filter passes items)
      → IsAnswer (select tree tests shown keys) trees params rows
      → rows ≡ map (λ x. (out (row x)).1) (filter passes items)
  answer_is view row items held test sees out gives passes tests_as up a =
      let q = select tree tests shown keys in
      let all : IsPermutation (map (λ x. out (row x)) (filter passes items)) a.ordered =
      orders tree tests shown (map (λ k. (k, ascending Binary)) keys) (lit (Int (negsuc 0))) trees params rows view row items held test sees out gives passes tests_as a in
      let rises : IsAscending (λ x y. output_cmp q x y ≡ Less) (map (λ x. out (row x)) (filter passes items)) = ascending-map _ (λ x. out (row x)) _ up in
      let ordered : a.ordered ≡ map (λ x. out (row x)) (filter passes items) = sorted_is (output_cmp q) (output_cmp_total q) _ _ rises all a.sorted in
      a.shown ∙ ap (map (λ (o : Output). o.1)) ordered ∙ map-map_as _ _ _ (λ x. refl) _
