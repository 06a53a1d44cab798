-- The rows of a blob's elements, where those of a few are looked for at once.
use Rattle.std.proofs.Common.{◌≡◌, ℕ, ◌+◌, List, [], ◌∷◌, ◌++◌, map, flat_map, length, refl, sym, ap, ◌∙◌, append-nil, append_assoc, arith}
use Rattle.std.specs.Prelude.{◌↔◌}
use Rattle.std.proofs.lemmas.List.{map-append, append_cancel_left}
use Rattle.std.proofs.lemmas.List.Concat.{flat_map-append}
use Rattle.sqlite_value.specs.Order.{Row}
use Rattle.osm_value.specs.declared.element.Element.{Element}
use Rattle.osm_rows.specs.Rows.{Placed, placed}
use Rattle.osm_rows.specs.TableRows.{element_row, tag_row, link_row, tags_at, links_at}
use Rattle.osm_rows.proofs.PutLemmas.Placing.{placed-append}
use Rattle.osm_tree_audits.specs.declared.tables.ElementTable.{ElementTable}
use Rattle.osm_tree_audits.specs.declared.tables.ElementTable.TheVariants.{Elements, Tags, Links}
use Rattle.osm_tree_audits.specs.ElementTables.{rows_in}
use Rattle.osm_tree_audits.proofs.Reaching.{longer}

nothing : (of : ElementTable) → rows_in of [] ≡ []
nothing Elements = refl
nothing Tags = refl
nothing Links = refl

-- no elements have no rows
pub no_rows : (of : ElementTable) (off : ℕ) (es : List Element) → length es ≡ 0 → rows_in of (placed off 0 es) ≡ []
no_rows of off [] none = nothing of
no_rows of off (e ∷ es) none = absurd (omega arith)

rows_both : (of : ElementTable) (ps qs : List Placed) → rows_in of (ps ++ qs) ≡ rows_in of ps ++ rows_in of qs
rows_both Elements ps qs = map-append element_row ps qs
rows_both Tags ps qs = ap (map tag_row) (flat_map-append tags_at ps qs) ∙ map-append tag_row (flat_map tags_at ps) (flat_map tags_at qs)
rows_both Links ps qs = ap (map link_row) (flat_map-append links_at ps qs) ∙ map-append link_row (flat_map links_at ps) (flat_map links_at qs)

module _ (of : ElementTable) (off : ℕ) where
  abbrev rows : ℕ → List Element → List Row
  rows first es = rows_in of (placed off first es)

  both : (first : ℕ) (es more : List Element) → rows first (es ++ more) ≡ rows first es ++ rows (first + length es) more
  both first es more = ap (rows_in of) (placed-append off first es more) ∙ rows_both of (placed off first es) (placed off (first + length es) more)

  -- the rows of some elements follow those of the elements before
  pub more_found : (done some : List Element) (whole now new : List Row) → whole ≡ rows 0 done ++ now → now ≡ rows (0 + length done) some ++ new → whole ≡ rows 0 (done ++ some) ++ new
  more_found done some whole now new is next =
      is ∙ ap (λ l. rows 0 done ++ l) next ∙ sym (append_assoc (rows 0 done) (rows (0 + length done) some) new) ∙ ap (λ l. l ++ new) (sym (both 0 done some))

  -- or don't, and then the rows are not those of all elements
  pub not_found : (done some after : List Element) (whole now : List Row) → whole ≡ rows 0 done ++ now → ((left : List Row) → ¬ (now ≡ rows (0 + length done) some ++ left)) → ¬ (whole ≡ rows 0 (done ++ (some ++ after)))
  not_found done some after whole now is differ same =
      let first = 0 + length done in
      let left = rows (first + length some) after in
      differ left (append_cancel_left (rows 0 done) now (rows first some ++ left) (sym is ∙ same ∙ both 0 done (some ++ after) ∙ ap (λ l. rows 0 done ++ l) (both first some after)))

-- no row is left behind those of all elements
pub all_found : {T : Type 0} (whole done now : List Row) → whole ≡ done ++ now → T ↔ (now ≡ []) → T ↔ (whole ≡ done)
all_found whole done [] is told = ((λ t. is ∙ append-nil done), λ same. told.1 refl)
all_found whole done (r ∷ now) is told = ((λ t. is ∙ ap (λ l. done ++ l) (told.0 t) ∙ append-nil done), λ same. absurd (longer done r now (sym is ∙ same)))

-- once no element is left, all are done
pub all_done : (rest done all : List Element) → length rest ≡ 0 → all ≡ done ++ rest → all ≡ done
all_done [] done all none whole = rw append-nil at whole
all_done (x ∷ rest) done all none whole = absurd (omega arith)
