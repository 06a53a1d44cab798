-- The order of the rows of elements, of tags and of links, and the columns that their primary keys have.
use Rattle.std.proofs.Common.{◌≡◌, inl, inr, pos, Less, Equal, List, [], ◌∷◌, map, drop, refl, ap, ap₂, ◌∙◌}
use Rattle.std.specs.Ordering.{ordering_then}
use Rattle.sqlite_value.specs.declared.value.Value.TheVariants.{Int}
use Rattle.sqlite_value.specs.Order.{Row, column, value_cmp, row_cmp}
use Rattle.sqlite_value.specs.Keys.{plain, entry_cmp}
use Rattle.sqlite_value.proofs.KeyLemmas.{entry_cmp-plain}
use Rattle.osm_rows.specs.Rows.{Placed, IsBefore}
use Rattle.osm_rows.specs.TableRows.{Part}
use Rattle.osm_rows.proofs.ListLemmas.NumberOrder.{numbers_below, numbers_tied}
use Rattle.osm_rows.proofs.MapLemmas.PartLaws.{IsPartBefore}

pub same_all : {A : Type 0} (xs : List A) → map (λ (x : A). x) xs ≡ xs
same_all [] = refl
same_all (x ∷ xs) = ap (λ l. x ∷ l) (same_all xs)

-- the key's columns, with the rowid and without it
pub by_place : (r : Row) → map (column (drop 1 r)) (0 ∷ 1 ∷ []) ≡ map (column r) (1 ∷ 2 ∷ [])
by_place [] = refl
by_place (x ∷ r) = refl

pub by_part : (r : Row) → map (column (drop 1 r)) (0 ∷ 1 ∷ 2 ∷ []) ≡ map (column r) (1 ∷ 2 ∷ 3 ∷ [])
by_part [] = refl
by_part (x ∷ r) = refl

pub elements_rise : (a b : Placed) (e f : Row) → IsBefore a b → entry_cmp plain (Int (pos a.0) ∷ Int (pos a.1) ∷ e) (Int (pos b.0) ∷ Int (pos b.1) ∷ f) ≡ Less
elements_rise a b e f (inl low) =
    entry_cmp-plain (Int (pos a.0) ∷ Int (pos a.1) ∷ e) (Int (pos b.0) ∷ Int (pos b.1) ∷ f) ∙ ap (λ o. ordering_then o (ordering_then (value_cmp (Int (pos a.1)) (Int (pos b.1))) (row_cmp e f))) (numbers_below a.0 b.0 low)
elements_rise a b e f (inr at) =
    entry_cmp-plain (Int (pos a.0) ∷ Int (pos a.1) ∷ e) (Int (pos b.0) ∷ Int (pos b.1) ∷ f)
    ∙ ap₂ (λ o p. ordering_then o (ordering_then p (row_cmp e f))) (numbers_tied a.0 b.0 at.0) (numbers_below a.1 b.1 at.1)

pub parts_rise : {A : Type 0} (x y : Part A) → IsPartBefore x y → entry_cmp plain (Int (pos x.off) ∷ Int (pos x.position) ∷ Int (pos x.number) ∷ []) (Int (pos y.off) ∷ Int (pos y.position) ∷ Int (pos y.number) ∷ []) ≡ Less
parts_rise x y (inl low) =
    entry_cmp-plain (Int (pos x.off) ∷ Int (pos x.position) ∷ Int (pos x.number) ∷ []) (Int (pos y.off) ∷ Int (pos y.position) ∷ Int (pos y.number) ∷ [])
    ∙ ap (λ o. ordering_then o (ordering_then (value_cmp (Int (pos x.position)) (Int (pos y.position))) (ordering_then (value_cmp (Int (pos x.number)) (Int (pos y.number))) Equal))) (numbers_below x.off y.off low)
parts_rise x y (inr (off, inl low)) =
    entry_cmp-plain (Int (pos x.off) ∷ Int (pos x.position) ∷ Int (pos x.number) ∷ []) (Int (pos y.off) ∷ Int (pos y.position) ∷ Int (pos y.number) ∷ [])
    ∙ ap₂ (λ o p. ordering_then o (ordering_then p (ordering_then (value_cmp (Int (pos x.number)) (Int (pos y.number))) Equal))) (numbers_tied x.off y.off off) (numbers_below x.position y.position low)
parts_rise x y (inr (off, inr (position, low))) =
    entry_cmp-plain (Int (pos x.off) ∷ Int (pos x.position) ∷ Int (pos x.number) ∷ []) (Int (pos y.off) ∷ Int (pos y.position) ∷ Int (pos y.number) ∷ [])
    ∙ ap₂ (λ o p. ordering_then o (ordering_then p (ordering_then (value_cmp (Int (pos x.number)) (Int (pos y.number))) Equal))) (numbers_tied x.off y.off off) (numbers_tied x.position y.position position)
    ∙ ap (λ o. ordering_then Equal (ordering_then Equal (ordering_then o Equal))) (numbers_below x.number y.number low)
