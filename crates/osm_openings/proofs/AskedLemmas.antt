-- The list that is made of the rows of `sqlite_schema` lists each tree as its row asks.
use Rattle.std.proofs.Common.{◌≡◌, ◌∙◌, ◌+◌, ◌++◌, ℕ, suc, true, List, [], ◌∷◌, length, refl, sym, ap, subst, inl, inr, arith, map, drop, All, not, ◌||◌}
use Rattle.std.specs.Prelude.{Option, Some, None, slice_get}
use Rattle.std.proofs.Math.Logic.{∥∥₁_elim, ∥∥₁_map}
use Rattle.std.proofs.lemmas.Bool.{cases_Bool, cases_eq, cond-true, cond-false}
use Rattle.std.proofs.lemmas.List.Elements.{All-nil, All-cons}
use mathlib.Core.HLevel.{⊥_prop}
use Rattle.sqlite_value.specs.declared.keys.Order.{Order}
use Rattle.sqlite_value.specs.Order.{Row, column}
use Rattle.sqlite_trees.specs.declared.schema.Object.{Object}
use Rattle.sqlite_trees.specs.Objects.{listing, number_in, shape_code}
use Rattle.sqlite_pages.specs.PageMap.{PageMap}
use Rattle.sqlite_pool.specs.File.{in_use}
use Rattle.sqlite_store.specs.declared.catalog.Wanted.{Wanted}
use Rattle.sqlite_store.specs.Catalog.{is_present, wanted_of}
use Rattle.sqlite_store.specs.Db.{roots_of, IsFile}
use Rattle.sqlite_store.specs.Listing.{listed_from}
use Rattle.sqlite_store.specs.Roots.{has_index_root}
use Rattle.osm_openings.specs.Asked.{entry_of, IsAsAsked, AreAsAsked}
use Rattle.osm_openings.specs.Catalog.{is_own, is_left_out, others}
use Rattle.osm_index_orders.specs.Orders.{index_order}
use Rattle.osm_openings.specs.Presumed.{foreign_tree, foreign_trees, root_order, schema_rows, trees_in}
use Rattle.osm_openings.proofs.ForeignLemmas.{append_second, from_filter, at_foreign, describes_itself}
use Rattle.osm_openings.proofs.KnownLemmas.{known_parts, none_at_zero}
use Rattle.osm_openings.proofs.ListedLemmas.{first_row, at_listed}
use Rattle.osm_openings.proofs.OrderLemmas.{order_again}
use Rattle.osm_openings.proofs.PlaceLemmas.{All-at}

all_by_place : {X : Type 0} (P : X → Type 0) (xs : List X) → ((k : ℕ) (x : X) → slice_get xs k ≡ Some x → P x) → All P xs
all_by_place P [] each = All-nil P
all_by_place P (x ∷ xs) each = All-cons P x xs (each 0 x refl) (all_by_place P xs (λ k y at. each (suc k) y at))

-- a list is read anew as it is: what is said of it in some way is so
asked_stable : (rows : List Row) (row : Row) → ∥ IsAsAsked rows row ∥₁ → IsAsAsked rows row
asked_stable rows row some = elim (cases_eq (number_in (column row 5)) (shape_code (foreign_tree (entry_of row) None).shape)) [
  | inl table ↦ inl table
  | inr other ↦
      let told = Some (index_order (map entry_of rows) (entry_of row)) in
      inr (elim (cases_eq (number_in (column row 5)) (shape_code (foreign_tree (entry_of row) told).shape)) [
        | inl index ↦ index
        | inr neither ↦ absurd (∥∥₁_elim some ⊥_prop (λ either. elim either [ inl is ↦ other is | inr is ↦ neither is ]))
      ])
]

behind : (from : ℕ) (objects : List Object) (rest : List Wanted) → ((k : ℕ) (o : Object) → slice_get objects k ≡ Some o → is_present o.shape ≡ true)
    → drop (length objects) (listed_from from (map wanted_of objects ++ rest)) ≡ listed_from (from + length objects) rest
behind from [] rest present = let start : from ≡ from + 0 = omega arith in ap (λ n. listed_from n rest) start
behind from (o ∷ objects) rest present =
    let next : from + 1 + length objects ≡ from + suc (length objects) = omega arith in
    ap (λ (rows : List Row). drop (suc (length objects)) rows) (first_row from (wanted_of o) (listed_from (from + 1) (map wanted_of objects ++ rest)) (present 0 o refl))
    ∙ behind (from + 1) objects rest (λ k p at. present (suc k) p at) ∙ ap (λ n. listed_from n rest) next

module _ (objects : List Object) (size : ℕ) (pages : PageMap) (file : IsFile size (trees_in objects size pages) pages) where
  abbrev rows : List Row
  rows = schema_rows size pages

  abbrev kinds : Row → Option Order
  kinds = root_order rows (in_use size pages)

  abbrev foreign : List Wanted
  foreign = foreign_trees (others objects rows) (map kinds (others objects rows))

  abbrev list : List Row
  list = listed_from 0 (trees_in objects size pages)

  -- the row of the list for a row that isn't a store's own
  abbrev entry : ℕ → Row → Row
  entry tree row = let w = foreign_tree row (kinds row) in listing tree w.row w.shape w.reals

  same_order : (place tree : ℕ) (row : Row) → slice_get foreign place ≡ Some (foreign_tree row (kinds row)) → (k : ℕ) → slice_get rows k ≡ Some row → index_order rows row ≡ index_order (map entry_of list) (entry_of (entry tree row))
  unfolding roots_of
  same_order place tree row there k at =
      order_again (known_parts (trees_in objects size pages) rows file.db.known) size (in_use size pages) file.db.layouts file.db.trees (none_at_zero size pages file.sound) k (length (map wanted_of objects) + place) row
      (entry_of (entry tree row)) (foreign_tree row (kinds row)) at (append_second (map wanted_of objects) foreign place (foreign_tree row (kinds row)) there) (describes_itself kinds row)
      (record { kind = refl; name = refl; owner = refl; sql = refl })

  is_asked : (place tree : ℕ) (row : Row) → slice_get foreign place ≡ Some (foreign_tree row (kinds row)) → (k : ℕ) → slice_get rows k ≡ Some row → IsAsAsked list (entry tree row)
  is_asked place tree row there k at = elim (cases_Bool (has_index_root (in_use size pages) row)) [
    | inr flat ↦ inl (ap (λ o. shape_code (foreign_tree row o).shape) (cond-false _ (Some (index_order rows row)) None flat))
    | inl deep ↦ inr (ap (λ o. shape_code (foreign_tree row o).shape) (cond-true _ (Some (index_order rows row)) None deep ∙ ap Some (same_order place tree row there k at)))
  ]

  -- each tree behind the objects is listed as its row asks
  pub as_asked : ((k : ℕ) (o : Object) → slice_get objects k ≡ Some o → is_present o.shape ≡ true) → AreAsAsked (length objects) list
  as_asked present = subst (All (IsAsAsked list)) (sym (behind 0 objects foreign present)) (all_by_place (IsAsAsked list) (listed_from (0 + length objects) foreign) each)
    where
      each : (k : ℕ) (x : Row) → slice_get (listed_from (0 + length objects) foreign) k ≡ Some x → IsAsAsked list x
      each k x at =
          let l = at_listed (0 + length objects) foreign k x at in
          let f = at_foreign kinds (others objects rows) l.at l.wanted l.there in
          let r = from_filter (λ (x : Row). not (is_own objects x || is_left_out x)) rows l.at f.0 f.1 in
          let is : entry (0 + length objects + l.at) f.0 ≡ x = ap (λ (w : Wanted). listing (0 + length objects + l.at) w.row w.shape w.reals) f.2 ∙ sym l.is in
          subst (IsAsAsked list) is (is_asked l.at (0 + length objects + l.at) f.0 (l.there ∙ ap Some (sym f.2)) r.0 r.1)

-- the same where it is only known that there is such a file
pub asked_found : (objects : List Object) (size : ℕ) (pages : PageMap) → ∥ IsFile size (trees_in objects size pages) pages ∥₁ → ((k : ℕ) (o : Object) → slice_get objects k ≡ Some o → is_present o.shape ≡ true)
    → AreAsAsked (length objects) (listed_from 0 (trees_in objects size pages))
asked_found objects size pages some present =
    let rows = listed_from 0 (trees_in objects size pages) in
    all_by_place (IsAsAsked rows) (drop (length objects) rows) (λ k row at.
    asked_stable rows row (∥∥₁_map some (λ file. All-at (IsAsAsked rows) (drop (length objects) rows) k row (as_asked objects size pages file present) at)))
