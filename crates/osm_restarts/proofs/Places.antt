-- The rows of a list of trees, by their places.
use Rattle.std.proofs.Common.{◌≡◌, ℕ, ◌+◌, zero, suc, List, [], ◌∷◌, true, false, get_or, refl, subst, ap, ◌∙◌, inl, inr, arith}
use Rattle.std.specs.Prelude.{slice_get, Some}
use Rattle.std.proofs.lemmas.Bool.{cases_Bool}
use Rattle.std.proofs.lemmas.Option.{none-some, same_Some}
use Rattle.sqlite_value.specs.Order.{Row}
use Rattle.sqlite_trees.specs.declared.store.Shape.{Shape}
use Rattle.sqlite_trees.specs.declared.store.Shape.TheVariants.{Absent, Table, Index, Pageless, FrozenTable, FrozenIndex}
use Rattle.sqlite_trees.specs.Objects.{listing}
use Rattle.sqlite_rules.specs.Lists.{Has}
use Rattle.sqlite_rules.proofs.ListLemmas.{has_either}
use Rattle.sqlite_store.specs.declared.catalog.Wanted.{Wanted}
use Rattle.sqlite_store.specs.Catalog.{is_present, shape_at, roots_in, root_in}
use Rattle.sqlite_store.specs.Listing.{listed, listed_from}

one_listed : (t : ℕ) (w : Wanted) (shape : Shape) → is_present shape ≡ true → listed t w shape ≡ listing t w.row shape w.reals ∷ []
one_listed t w Absent here = absurd (cc)
one_listed t w Table here = refl
one_listed t w (Index o) here = refl
one_listed t w Pageless here = refl
one_listed t w FrozenTable here = refl
one_listed t w (FrozenIndex o) here = refl

none_listed : (t : ℕ) (w : Wanted) (shape : Shape) → is_present shape ≡ false → listed t w shape ≡ []
none_listed t w Absent none = refl
none_listed t w Table none = absurd (cc)
none_listed t w (Index o) none = absurd (cc)
none_listed t w Pageless none = absurd (cc)
none_listed t w FrozenTable none = absurd (cc)
none_listed t w (FrozenIndex o) none = absurd (cc)

-- the row is that of this place of the list
pub record IsPlaced (from : ℕ) (schema : List Wanted) (row : Row) : Type 0 where
  pub place : ℕ
  pub wanted : Wanted
  pub at : slice_get schema place ≡ Some wanted
  pub present : is_present wanted.shape ≡ true
  pub is : row ≡ listing (from + place) wanted.row wanted.shape wanted.reals

pub placed : (from : ℕ) (schema : List Wanted) (row : Row) → Has (listed_from from schema) row → IsPlaced from schema row
placed from [] row h = absurd h
placed from (w ∷ schema) row h = elim (has_either (listed from w w.shape) (listed_from (from + 1) schema) row h) [
  | inl here ↦ elim (cases_Bool (is_present w.shape)) [
    | inl present ↦ elim (subst (λ rows. Has rows row) (one_listed from w w.shape present) here) [
      | inl is ↦ let first : from ≡ from + 0 = omega arith in
          record { place = 0; wanted = w; at = refl; present = present; is = is ∙ ap (λ n. listing n w.row w.shape w.reals) first }
      | inr none ↦ absurd none
    ]
    | inr absent ↦ absurd (subst (λ rows. Has rows row) (none_listed from w w.shape absent) here)
  ]
  | inr later ↦
      let p = placed (from + 1) schema row later in
      let next : from + 1 + p.place ≡ from + suc p.place = omega arith in
      record { place = suc p.place; wanted = p.wanted; at = p.at; present = p.present; is = p.is ∙ ap (λ n. listing n p.wanted.row p.wanted.shape p.wanted.reals) next }
]

pub shape_there : (schema : List Wanted) (place : ℕ) (w : Wanted) → slice_get schema place ≡ Some w → shape_at schema place ≡ w.shape
shape_there [] place w at = absurd (none-some w at)
shape_there (v ∷ schema) zero w at = ap (λ (x : Wanted). x.shape) (same_Some v w at)
shape_there (v ∷ schema) (suc place) w at = shape_there schema place w at

pub root_there : (entries : List Row) (schema : List Wanted) (place : ℕ) (w : Wanted) → slice_get schema place ≡ Some w → get_or (roots_in entries schema) place 0 ≡ root_in entries w
root_there entries [] place w at = absurd (none-some w at)
root_there entries (v ∷ schema) zero w at = ap (root_in entries) (same_Some v w at)
root_there entries (v ∷ schema) (suc place) w at = root_there entries schema place w at
