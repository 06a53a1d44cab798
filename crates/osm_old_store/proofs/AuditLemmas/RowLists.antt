-- A loop that compares rows with those that items stand for, one after the other.
use Rattle.std.proofs.Common.{◌≡◌, ℕ, zero, suc, ◌+◌, ◌<◌, List, [], ◌∷◌, ◌++◌, length, map, take, get_or, refl, sym, ap, ap₂, ◌∙◌, arith}
use Rattle.std.proofs.lemmas.List.{get_or-map, length-map}
use Rattle.sqlite.specs.Order.{Row}
use Rattle.osm_value.specs.declared.element.Element.{Element}
use Rattle.osm_rows.specs.Rows.{Placed, placed}
use Rattle.osm_rows.proofs.PutLemmas.Placing.{next_taken, first_rows_more}

-- the same of the elements of a blob, each at its position
placed_get : (off position : ℕ) (es : List Element) (at : ℕ) (e : Element) (p : Placed) → at < length es → get_or (placed off position es) at p ≡ (off, position + at, get_or es at e)
placed_get off position [] at e p low = absurd (omega (arith, low))
placed_get off position (x ∷ es) zero e p low = ap (λ n. (off, n, x)) (let it : position ≡ position + 0 = omega arith in it)
placed_get off position (x ∷ es) (suc at) e p low =
    placed_get off (position + 1) es at e p (omega (arith, low)) ∙ ap (λ n. (off, n, get_or es at e)) (let it : position + 1 + at ≡ position + suc at = omega arith in it)

placed_long : (off position : ℕ) (es : List Element) → length (placed off position es) ≡ length es
placed_long off position [] = refl
placed_long off position (e ∷ es) = ap suc (placed_long off (position + 1) es)

module _ (row : Placed → Row) (off : ℕ) (rows : List Row) (es : List Element) where
  pub placed_same_more : (at : ℕ) (r : Row) (e : Element) → at < length rows → at < length es → r ≡ get_or rows at r → e ≡ get_or es at e → take at rows ≡ map row (placed off 0 (take at es)) → r ≡ row (off, at, e)
      → take (at + 1) rows ≡ map row (placed off 0 (take (at + 1) es))
  placed_same_more at r e low below is here before same =
      next_taken rows at r low is ∙ ap₂ (λ a b. a ++ b) before (ap (λ z. z ∷ []) same) ∙ sym (first_rows_more row off es at e below here)

  pub placed_same_at : (at : ℕ) (r : Row) (e : Element) → at < length es → r ≡ get_or rows at r → e ≡ get_or es at e → rows ≡ map row (placed off 0 es) → r ≡ row (off, at, e)
  placed_same_at at r e below is here all =
      let within : at < length (placed off 0 es) = omega (arith, below, placed_long off 0 es) in
      let p : Placed = (off, at, e) in
      is ∙ ap (λ l. get_or l at r) all ∙ get_or-map row (placed off 0 es) at p r within ∙ ap row (placed_get off 0 es at e p below ∙ ap₂ (λ n x. (off, n, x)) (let it : 0 + at ≡ at = omega arith in it) (sym here))

  pub placed_same_length : rows ≡ map row (placed off 0 es) → length rows ≡ length es
  placed_same_length all = ap length all ∙ length-map (placed off 0 es) row ∙ placed_long off 0 es
