-- The trees of rows that are none of a store's own, as they stand in the list.
use Rattle.std.proofs.Common.{◌⊎◌, ◌≡◌, ◌∙◌, ◌+◌, ℕ, zero, suc, Bool, true, false, List, [], ◌∷◌, ◌++◌, length, filter, refl, sym, ap, inl, inr, arith, map}
use Rattle.std.specs.Prelude.{Option, Some, None, slice_get, if◌then◌else◌}
use Rattle.std.proofs.lemmas.Option.{none-some, same_Some}
use Rattle.std.proofs.lemmas.Bool.{cases_Bool, and_from, false≢true, cond-true, cond-false}
use Rattle.sqlite_value.specs.declared.keys.Order.{Order}
use Rattle.sqlite_value.specs.Order.{Row, column}
use Rattle.sqlite_trees.specs.declared.store.Shape.TheVariants.{Pageless}
use Rattle.sqlite_trees.specs.Sound.{is_text_only}
use Rattle.sqlite_schema.specs.declared.schema.Index.{Index as Added}
use Rattle.sqlite_store.specs.declared.catalog.Wanted.{Wanted}
use Rattle.sqlite_store.specs.Catalog.{is_present, same_value, describes, is_about}
use Rattle.osm_tree_writes.specs.Added.{plain_index}
use Rattle.osm_openings.specs.Catalog.{numbered}
use Rattle.osm_openings.specs.Presumed.{foreign_tree, foreign_trees, tree_shape}
use Rattle.osm_openings.proofs.PlaceLemmas.{same_itself}

-- ---- lists, by places
pub append_first : {X : Type 0} (xs ys : List X) (t : ℕ) (x : X) → slice_get xs t ≡ Some x → slice_get (xs ++ ys) t ≡ Some x
append_first [] ys t x at = absurd (none-some x at)
append_first (y ∷ xs) ys zero x at = at
append_first (y ∷ xs) ys (suc t) x at = append_first xs ys t x at

pub append_second : {X : Type 0} (xs ys : List X) (j : ℕ) (y : X) → slice_get ys j ≡ Some y → slice_get (xs ++ ys) (length xs + j) ≡ Some y
append_second [] ys j y at = let e : 0 + j ≡ j = omega arith in ap (slice_get ys) e ∙ at
append_second (x ∷ xs) ys j y at = let e : suc (length xs) + j ≡ suc (length xs + j) = omega arith in ap (slice_get (x ∷ xs ++ ys)) e ∙ append_second xs ys j y at

pub appended : {X : Type 0} (xs ys : List X) (t : ℕ) (x : X) → slice_get (xs ++ ys) t ≡ Some x → (slice_get xs t ≡ Some x) ⊎ ((j : ℕ) × (slice_get ys j ≡ Some x) × (t ≡ length xs + j))
appended [] ys t x at = inr (t, at, omega arith)
appended (y ∷ xs) ys zero x at = inl at
appended (y ∷ xs) ys (suc t) x at = elim (appended xs ys t x at) [ inl first ↦ inl first | inr second ↦ inr (second.0, second.1, let place = second.2 in omega (arith, place)) ]

pub from_filter : {X : Type 0} (p : X → Bool) (xs : List X) (j : ℕ) (x : X) → slice_get (filter p xs) j ≡ Some x → (k : ℕ) × (slice_get xs k ≡ Some x) × (p x ≡ true)
from_filter p [] j x at = absurd (none-some x at)
from_filter {X = X} p (y ∷ xs) j x at = elim (cases_Bool (p y)) [
  | inl passes ↦ here passes j (ap (λ (zs : List X). slice_get zs j) (sym (cond-true (p y) (y ∷ filter p xs) (filter p xs) passes)) ∙ at) (λ i is. from_filter p xs i x is)
  | inr out ↦ let r = from_filter p xs j x (ap (λ (zs : List X). slice_get zs j) (sym (cond-false (p y) (y ∷ filter p xs) (filter p xs) out)) ∙ at) in (suc r.0, r.1, r.2)
]
  where
    here : p y ≡ true → (j : ℕ) → slice_get (y ∷ filter p xs) j ≡ Some x → ((i : ℕ) → slice_get (filter p xs) i ≡ Some x → (k : ℕ) × (slice_get xs k ≡ Some x) × (p x ≡ true))
        → (k : ℕ) × (slice_get (y ∷ xs) k ≡ Some x) × (p x ≡ true)
    here passes zero is rest = (0, is, ap p (sym (same_Some y x is)) ∙ passes)
    here passes (suc i) is rest = let r = rest i is in (suc r.0, r.1, r.2)

pub to_filter : {X : Type 0} (p : X → Bool) (xs : List X) (k : ℕ) (x : X) → slice_get xs k ≡ Some x → p x ≡ true → (j : ℕ) × (slice_get (filter p xs) j ≡ Some x)
to_filter p [] k x at h = absurd (none-some x at)
to_filter {X = X} p (y ∷ xs) k x at h = elim (cases_Bool (p y)) [
  | inl passes ↦ let r = here passes k at (λ i is. to_filter p xs i x is h) in (r.0, ap (λ (zs : List X). slice_get zs r.0) (cond-true (p y) (y ∷ filter p xs) (filter p xs) passes) ∙ r.1)
  | inr out ↦ let r = skip out k at (λ i is. to_filter p xs i x is h) in (r.0, ap (λ (zs : List X). slice_get zs r.0) (cond-false (p y) (y ∷ filter p xs) (filter p xs) out) ∙ r.1)
]
  where
    here : p y ≡ true → (k : ℕ) → slice_get (y ∷ xs) k ≡ Some x → ((i : ℕ) → slice_get xs i ≡ Some x → (j : ℕ) × (slice_get (filter p xs) j ≡ Some x))
        → (j : ℕ) × (slice_get (y ∷ filter p xs) j ≡ Some x)
    here passes zero is rest = (0, is)
    here passes (suc i) is rest = let r = rest i is in (suc r.0, r.1)

    skip : p y ≡ false → (k : ℕ) → slice_get (y ∷ xs) k ≡ Some x → ((i : ℕ) → slice_get xs i ≡ Some x → (j : ℕ) × (slice_get (filter p xs) j ≡ Some x))
        → (j : ℕ) × (slice_get (filter p xs) j ≡ Some x)
    skip out zero is rest = absurd (false≢true (sym out ∙ ap p (same_Some y x is) ∙ h))
    skip out (suc i) is rest = rest i is

pub describes_again : (w : Wanted) (row : Row) → is_present w.shape ≡ true → same_value (column row 1) (column w.row 0) ≡ true → same_value (column row 2) (column w.row 1) ≡ true
    → same_value (column row 3) (column w.row 2) ≡ true → same_value (column row 5) (column w.row 3) ≡ true → describes w row ≡ true
unfolding describes is_about
describes_again w row present kind name owner sql = and_from _ _ (and_from _ _ (and_from _ _ (and_from _ _ present kind) name) owner) sql

-- the trees of other rows, by their places
module _ (kinds : Row → Option Order) where
  pub foreign_at : (rows : List Row) (j : ℕ) (row : Row) → slice_get rows j ≡ Some row → slice_get (foreign_trees rows (map kinds rows)) j ≡ Some (foreign_tree row (kinds row))
  foreign_at [] j row at = absurd (none-some row at)
  foreign_at (r ∷ rows) zero row at = ap (λ (x : Row). Some (foreign_tree x (kinds x))) (same_Some r row at)
  foreign_at (r ∷ rows) (suc j) row at = foreign_at rows j row at

  pub at_foreign : (rows : List Row) (j : ℕ) (w : Wanted) → slice_get (foreign_trees rows (map kinds rows)) j ≡ Some w → (row : Row) × (slice_get rows j ≡ Some row) × (foreign_tree row (kinds row) ≡ w)
  at_foreign [] j w at = absurd (none-some w at)
  at_foreign (r ∷ rows) zero w at = (r, refl, same_Some _ w at)
  at_foreign (r ∷ rows) (suc j) w at = at_foreign rows j w at

shape_present : (text : Bool) (added : Option Added) (root : Option Order) → is_present (if text then Pageless else tree_shape added root) ≡ true
shape_present true added root = refl
shape_present false added None = refl
shape_present false None (Some told) = refl
shape_present false (Some index) (Some told) = refl

pub foreign_present : (row : Row) (root : Option Order) → is_present (foreign_tree row root).shape ≡ true
foreign_present row root = shape_present (is_text_only (column row 1)) (plain_index (numbered row)) root

-- a row describes its own tree
pub describes_itself : (kinds : Row → Option Order) (row : Row) → describes (foreign_tree row (kinds row)) row ≡ true
describes_itself kinds row =
    describes_again (foreign_tree row (kinds row)) row (foreign_present row (kinds row)) (same_itself (column row 1)) (same_itself (column row 2)) (same_itself (column row 3)) (same_itself (column row 5))
