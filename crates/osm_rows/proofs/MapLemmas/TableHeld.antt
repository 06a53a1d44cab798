-- What the tables of a held map have in the layout of tables, and which of their rows are those of one blob.
use Rattle.std.proofs.Common.{◌≡◌, inl, inr, ℕ, Bool, true, false, cond, ◌==◌, List, [], ◌∷◌, ◌++◌, map, drop, refl, sym, ap, ap₂, subst, ◌∙◌, IsPermutation}
use Rattle.std.specs.Prelude.{flat_map, filter}
use Rattle.std.specs.List.{AllByRecursion}
use Rattle.std.proofs.lemmas.Bool.{cases_Bool}
use Rattle.std.proofs.lemmas.List.Elements.{filter-append}
use Rattle.std.proofs.lemmas.List.Sorted.{IsPermutation-sym}
use Rattle.sqlite.specs.declared.types.Value.{Value}
use Rattle.sqlite.specs.Order.{Row, column}
use Rattle.sqlite.specs.Effect.{Database}
use Rattle.sqlite_trees.proofs.ListLemmas.{all_weaker, all-permutation, filter_all, filter_none}
use Rattle.osm_value.specs.Value.{Text, MemberValue}
use Rattle.osm_rows.specs.declared.schema.layout.Layout.TheVariants.{Tables}
use Rattle.osm_rows.specs.Held.{HeldMap}
use Rattle.osm_rows.specs.Schema.Tables.{table_schema}
use Rattle.osm_rows.specs.Rows.{Placed, placed_in, is_in}
use Rattle.osm_rows.specs.TableRows.{Part, element_row, tags_at, tag_row, links_at, link_row}
use Rattle.osm_rows.specs.LayoutHolding.{HasRows, HoldElements}
use Rattle.osm_rows.proofs.MapLemmas.PlacedLaws.{placed_in_rise}
use Rattle.osm_rows.proofs.MapLemmas.PartLaws.{parts_own, parts_in}
use Rattle.osm_rows.proofs.LoadLemmas.ShownRows.{columns_at, twelve_places, five_places, six_places, HasTables}

-- ---- a row without its rowid shows all its columns

module _ (places shown : List ℕ) (same : (x : Value) (r : Row) → columns_at places (x ∷ r) ≡ map (column r) shown) (some : map (column []) shown ≡ [] → ⊥) where
  abbrev Whole : Row → Type 0
  Whole r = map (column r) shown ≡ r

  all_seen : (rows : List Row) → AllByRecursion Whole (map (drop 1) rows) → map (columns_at places) rows ≡ map (drop 1) rows
  all_seen [] h = refl
  all_seen ([] ∷ rows) h = absurd (some h.0)
  all_seen ((x ∷ r) ∷ rows) h = ap₂ ◌∷◌ (same x r ∙ h.0) (all_seen rows h.1)

  seen : (rows table : List Row) → AllByRecursion Whole rows → HasRows rows table → IsPermutation (map (columns_at places) table) rows
  seen rows table whole has =
      subst (λ all. IsPermutation all rows) (sym (all_seen table (all-permutation Whole rows (map (drop 1) table) has whole))) (IsPermutation-sym _ _ has)

abbrev twelve_shown : List ℕ
twelve_shown = 0 ∷ 1 ∷ 2 ∷ 3 ∷ 4 ∷ 5 ∷ 6 ∷ 7 ∷ 8 ∷ 9 ∷ 10 ∷ 11 ∷ []

abbrev five_shown : List ℕ
five_shown = 0 ∷ 1 ∷ 2 ∷ 3 ∷ 4 ∷ []

abbrev six_shown : List ℕ
six_shown = 0 ∷ 1 ∷ 2 ∷ 3 ∷ 4 ∷ 5 ∷ []

whole_elements : (ps : List Placed) → AllByRecursion (λ (r : Row). map (column r) twelve_shown ≡ r) (map element_row ps)
whole_elements [] = tt
whole_elements (p ∷ ps) = (refl, whole_elements ps)

whole_tags : (xs : List (Part (Text × Text))) → AllByRecursion (λ (r : Row). map (column r) five_shown ≡ r) (map tag_row xs)
whole_tags [] = tt
whole_tags (x ∷ xs) = (refl, whole_tags xs)

whole_links : (xs : List (Part MemberValue)) → AllByRecursion (λ (r : Row). map (column r) six_shown ≡ r) (map link_row xs)
whole_links [] = tt
whole_links (x ∷ xs) = (refl, whole_links xs)

-- whatever else the trees are
pub tables_among : (db : Database) (held : HeldMap) → db.schema ≡ table_schema → HoldElements Tables (placed_in held) db.trees → HasTables db (placed_in held)
tables_among db held schema elements = record {
  schema = schema;
  elements = seen twelve_places twelve_shown (λ x r. refl) (λ e. cc) (map element_row (placed_in held)) (db.trees 2) (whole_elements (placed_in held)) elements.0;
  tags = seen five_places five_shown (λ x r. refl) (λ e. cc) (map tag_row (flat_map tags_at (placed_in held))) (db.trees 4) (whole_tags (flat_map tags_at (placed_in held))) elements.1;
  links = seen six_places six_shown (λ x r. refl) (λ e. cc) (map link_row (flat_map links_at (placed_in held))) (db.trees 6) (whole_links (flat_map links_at (placed_in held))) elements.2;
  ascending = placed_in_rise held;
}

-- ---- the parts of one blob

module _ {A : Type 0} (items : Placed → List A) (off : ℕ) where
  of_one : (p : Placed) → filter (λ (x : Part A). x.off == off) (parts_in items p) ≡ cond (p.0 == off) (parts_in items p) []
  of_one p = elim (cases_Bool (p.0 == off)) [
    | inl here ↦
        filter_all (λ (x : Part A). x.off == off) _ (all_weaker _ _ (λ x at. ap (λ n. n == off) at.0 ∙ here) _ (parts_own p 0 (items p)))
        ∙ ap (λ b. cond b (parts_in items p) []) (sym here)
    | inr other ↦
        filter_none (λ (x : Part A). x.off == off) _ (all_weaker _ _ (λ x at. ap (λ n. n == off) at.0 ∙ other) _ (parts_own p 0 (items p)))
        ∙ ap (λ b. cond b (parts_in items p) []) (sym other)
  ]

  chosen : (b : Bool) (p : Placed) (ps : List Placed) → cond b (parts_in items p) [] ++ flat_map (parts_in items) ps ≡ flat_map (parts_in items) (cond b (p ∷ ps) ps)
  chosen true p ps = refl
  chosen false p ps = refl

  pub parts_of_blob : (ps : List Placed) → filter (λ (x : Part A). x.off == off) (flat_map (parts_in items) ps) ≡ flat_map (parts_in items) (filter (is_in off) ps)
  parts_of_blob [] = refl
  parts_of_blob (p ∷ ps) =
      filter-append (λ (x : Part A). x.off == off) (parts_in items p) (flat_map (parts_in items) ps) ∙ ap₂ ◌++◌ (of_one p) (parts_of_blob ps) ∙ chosen (p.0 == off) p (filter (is_in off) ps)
