-- What the next row of the list of objects tells.
use Rattle.std.proofs.Common.{◌≡◌, ℕ, ◌+◌, ◌<◌, Bool, true, false, not, ◌&&◌, ◌||◌, Option, None, Some, List, [], ◌∷◌, ◌++◌, length, drop, get_or, refl, sym, ap, subst, ◌∙◌}
use Rattle.std.specs.Prelude.{is_some}
use Rattle.std.specs.List.{list_any}
use Rattle.std.proofs.lemmas.List.{append_assoc, drop_more}
use Rattle.sqlite_value.specs.Order.{Row}
use Rattle.sqlite_schema.specs.declared.schema.Index.{Index}
use Rattle.osm_tree_writes.specs.Added.{is_on_a_store, is_refused, plain_index, plain_indexes, with_index}

-- these indexes are those of the rows before what is left
abbrev Told : List Index → List Row → List Row → Type 0
Told indexes left rows = (indexes ++ plain_indexes left ≡ plain_indexes rows) × (list_any is_refused left ≡ list_any is_refused rows)

next_row : (rows : List Row) (at : ℕ) (row : Row) → at < length rows → row ≡ get_or rows at row → drop at rows ≡ row ∷ drop (at + 1) rows
next_row rows at row within is = drop_more rows at row within ∙ ap (λ (r : Row). r ∷ drop (at + 1) rows) (sym is)

and_false : (b : Bool) → b && false ≡ false
and_false true = refl
and_false false = refl

one_told : (indexes : List Index) (i : Index) (row : Row) (rest rows : List Row) → plain_index row ≡ Some i → Told indexes (row ∷ rest) rows → Told (indexes ++ i ∷ []) rest rows
one_told indexes i row rest rows is told = (
  append_assoc indexes (i ∷ []) (plain_indexes rest) ∙ subst (λ (o : Option Index). indexes ++ with_index o (plain_indexes rest) ≡ plain_indexes rows) is told.0,
  subst (λ (b : Bool). (b || list_any is_refused rest) ≡ list_any is_refused rows) (and_false (is_on_a_store row))
      (subst (λ (o : Option Index). ((is_on_a_store row && not (is_some o)) || list_any is_refused rest) ≡ list_any is_refused rows) is told.1),
)

none_told : (indexes : List Index) (row : Row) (rest rows : List Row) → plain_index row ≡ None → is_on_a_store row ≡ false → Told indexes (row ∷ rest) rows → Told indexes rest rows
none_told indexes row rest rows is off told = (
  subst (λ (o : Option Index). indexes ++ with_index o (plain_indexes rest) ≡ plain_indexes rows) is told.0,
  subst (λ (b : Bool). ((b && not (is_some (plain_index row))) || list_any is_refused rest) ≡ list_any is_refused rows) off told.1,
)

-- the next row tells of an index that a put keeps
pub told_more : (indexes : List Index) (i : Index) (rows : List Row) (at : ℕ) (row : Row) → at < length rows → row ≡ get_or rows at row → plain_index row ≡ Some i → Told indexes (drop at rows) rows
    → Told (indexes ++ i ∷ []) (drop (at + 1) rows) rows
told_more indexes i rows at row within here is told = one_told indexes i row (drop (at + 1) rows) rows is (subst (λ left. Told indexes left rows) (next_row rows at row within here) told)

-- it tells of none
pub told_still : (indexes : List Index) (rows : List Row) (at : ℕ) (row : Row) → at < length rows → row ≡ get_or rows at row → plain_index row ≡ None → is_on_a_store row ≡ false → Told indexes (drop at rows) rows
    → Told indexes (drop (at + 1) rows) rows
told_still indexes rows at row within here is off told = none_told indexes row (drop (at + 1) rows) rows is off (subst (λ left. Told indexes left rows) (next_row rows at row within here) told)
