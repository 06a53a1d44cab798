-- What the tables of a held map have.
use Rattle.std.proofs.Common.{◌≡◌, inl, inr, ℕ, suc, ◌+◌, ◌<◌, List, [], ◌∷◌, ◌++◌, Option, Some, None, ◌==◌, false, slice_get, cond, eqb, map, drop, length, refl, sym, ap, ap₂, subst, ◌∙◌, arith, IsPermutation}
use Rattle.std.specs.Prelude.{filter, flat_map}
use Rattle.std.specs.List.{AllByRecursion}
use Rattle.std.specs.Ordering.{nat_cmp}
use Rattle.std.specs.Cmp.{unsigned_tied}
use Rattle.std.specs.FinMap.{entries, get, find, get-entries}
use Rattle.std.proofs.lemmas.Bool.Decides.{eqb_tells, nat_tests}
use Rattle.std.proofs.lemmas.List.Elements.{filter-append}
use Rattle.std.proofs.lemmas.List.Sorted.{IsPermutation-sym}
use Rattle.sqlite.specs.Order.{Row, column}
use Rattle.sqlite.specs.Effect.{Database}
use Rattle.sqlite_trees.specs.Tree.{IsAscending}
use Rattle.sqlite_trees.proofs.ListLemmas.{all_from_map, all_weaker, all-permutation, ascending-map, filter_none, IsPermutation-same}
use Rattle.osm_value.specs.declared.element.Element.{Element}
use Rattle.osm_rows.specs.declared.keeper.Extent.{Extent}
use Rattle.osm_rows.specs.Held.{Blob, HeldMap}
use Rattle.osm_rows.specs.Keeping.{extent_of, extents_of}
use Rattle.osm_rows.specs.Rows.{Placed, placed, placed_in, is_in, body_row, extent_row, extent_columns}
use Rattle.osm_rows.specs.declared.schema.layout.Layout.{Layout}
use Rattle.osm_rows.specs.declared.schema.layout.Layout.TheVariants.{Bodies}
use Rattle.osm_rows.specs.Schema.Layouts.{schema_of}
use Rattle.osm_rows.specs.Schema.Bodies.{body_schema}
use Rattle.osm_rows.specs.LayoutHolding.{HoldElements}
use Rattle.osm_rows.proofs.MapLemmas.PlacedLaws.{Entry, within, entries_rise, placed_in_rise, here, by_position}
use Rattle.osm_rows.proofs.ListLemmas.NestedLists.{nested_at}
use Rattle.osm_rows.proofs.LoadLemmas.ShownRows.{columns_at, HasExtents, HasElements}

-- ---- the tables

blob_shown : (extents : List Extent) → map (columns_at (0 ∷ 2 ∷ 3 ∷ 4 ∷ 5 ∷ [])) (map extent_row extents) ≡ map extent_columns extents
blob_shown [] = refl
blob_shown (e ∷ extents) = ap (λ rows. extent_columns e ∷ rows) (blob_shown extents)

extents_rise : (held : HeldMap) → IsAscending (λ (a b : Extent). a.off < b.off) (extents_of held)
extents_rise held = ascending-map _ extent_of (entries held) (entries_rise held)

-- whatever else the trees are
pub extents_among : (layout : Layout) (db : Database) (held : HeldMap) → db.schema ≡ schema_of layout → db.trees 1 ≡ map extent_row (extents_of held) → HasExtents layout db (extents_of held)
extents_among layout db held schema blob = record {
  schema = schema;
  rows = IsPermutation-same _ _ (ap (map (columns_at (0 ∷ 2 ∷ 3 ∷ 4 ∷ 5 ∷ []))) blob ∙ blob_shown (extents_of held));
  ascending = extents_rise held;
}

five : (row : Row) → length row ≡ 5 → map (column row) (0 ∷ 1 ∷ 2 ∷ 3 ∷ 4 ∷ []) ≡ row
five [] e = absurd (cc)
five (a ∷ []) e = absurd (cc)
five (a ∷ b ∷ []) e = absurd (cc)
five (a ∷ b ∷ c ∷ []) e = absurd (cc)
five (a ∷ b ∷ c ∷ d ∷ []) e = absurd (cc)
five (a ∷ b ∷ c ∷ d ∷ f ∷ []) e = refl
five (a ∷ b ∷ c ∷ d ∷ f ∷ g ∷ row) e = absurd (cc)

-- a row without its rowid shows all its columns
dropped : (row : Row) → length (drop 1 row) ≡ 5 → columns_at (1 ∷ 2 ∷ 3 ∷ 4 ∷ 5 ∷ []) row ≡ drop 1 row
dropped [] e = absurd (cc)
dropped (x ∷ row) e = five row e

all_dropped : (rows : List Row) → AllByRecursion (λ row. length (drop 1 row) ≡ 5) rows → map (columns_at (1 ∷ 2 ∷ 3 ∷ 4 ∷ 5 ∷ [])) rows ≡ map (drop 1) rows
all_dropped [] h = refl
all_dropped (row ∷ rows) h = ap₂ ◌∷◌ (dropped row h.0) (all_dropped rows h.1)

each_five : (ps : List Placed) → AllByRecursion (λ (row : Row). length row ≡ 5) (map body_row ps)
each_five [] = tt
each_five (p ∷ ps) = (refl, each_five ps)

pub elements_among : (db : Database) (held : HeldMap) → db.schema ≡ body_schema → HoldElements Bodies (placed_in held) db.trees → HasElements db (placed_in held)
elements_among db held schema elements =
    let fives = all_from_map (λ (row : Row). length row ≡ 5) (drop 1) (db.trees 2) (all-permutation _ (map body_row (placed_in held)) (map (drop 1) (db.trees 2)) elements (each_five (placed_in held))) in
    record {
      schema = schema;
      rows = subst (λ rows. IsPermutation rows (map body_row (placed_in held))) (sym (all_dropped (db.trees 2) fives)) (IsPermutation-sym _ _ elements);
      ascending = placed_in_rise held;
    }

-- ---- the rows of one blob

pub elements_of : (off position : ℕ) (es : List Element) → map (λ (p : Placed). p.2) (placed off position es) ≡ es
elements_of off position [] = refl
elements_of off position (e ∷ es) = ap (λ l. e ∷ l) (elements_of off (position + 1) es)

at_entry : (es : List Entry) (off : ℕ) (blob : Blob) → find nat_cmp off es ≡ Some blob → (k : ℕ) × (slice_get es k ≡ Some (off, blob))
at_entry [] off blob is = absurd (cc)
at_entry (e ∷ es) off blob is =
    let known : cond (eqb off e.0) (Some e.1) (find nat_cmp off es) ≡ Some blob = ap (λ b. cond b (Some e.1) (find nat_cmp off es)) (sym (unsigned_tied off e.0)) ∙ is in
    elim (eqb_tells off e.0) [
      | inl (test, same) ↦
          let there : Some e.1 ≡ Some blob = ap (λ b. cond b (Some e.1) (find nat_cmp off es)) (sym test) ∙ known in
          let one : e.1 ≡ blob = cc in
          let make : ℕ → Blob → Entry = λ n b. (n, b) in
          (0, ap Some (ap₂ make (sym same) one))
      | inr (test, apart) ↦
          let later = at_entry es off blob (ap (λ b. cond b (Some e.1) (find nat_cmp off es)) (sym test) ∙ known) in
          (suc later.0, later.1)
    ]

-- the elements at an offset are those of the blob there, each at its position
pub placed_at : (held : HeldMap) (off : ℕ) (blob : Blob) → get held off ≡ Some blob → filter (is_in off) (placed_in held) ≡ placed off 0 blob.elements
placed_at held off blob is =
    let there = at_entry (entries held) off blob (sym (get-entries held off) ∙ is) in
    nested_at (λ (e : Entry). e.0) (λ (p : Placed). p.0) (λ (a b : Placed). a.1 < b.1) within here by_position (entries held) there.0 (off, blob) (entries_rise held) there.1

-- where none is held there is none
unequal : (m n : ℕ) → (m ≡ n → ⊥) → (m == n) ≡ false
unequal m n e = grind (arith, nat_tests)

none_at : (es : List Entry) (off : ℕ) → ◌≡◌ {A = Option Blob} (find nat_cmp off es) None → filter (is_in off) (flat_map within es) ≡ []
none_at [] off none = refl
none_at (e ∷ es) off none =
    let known : cond (eqb off e.0) (Some e.1) (find nat_cmp off es) ≡ None = ap (λ b. cond b (Some e.1) (find nat_cmp off es)) (sym (unsigned_tied off e.0)) ∙ none in
    elim (eqb_tells off e.0) [
      | inl (test, same) ↦
          let there : ◌≡◌ {A = Option Blob} (Some e.1) None = ap (λ b. cond b (Some e.1) (find nat_cmp off es)) (sym test) ∙ known in
          absurd (cc)
      | inr (test, apart) ↦
          let others = none_at es off (ap (λ b. cond b (Some e.1) (find nat_cmp off es)) (sym test) ∙ known) in
          let own = filter_none (is_in off) (within e) (all_weaker _ _ (λ (p : Placed) at. unequal p.0 off (λ same. apart (sym same ∙ at))) (within e) (here e)) in
          filter-append (is_in off) (within e) (flat_map within es) ∙ ap₂ ◌++◌ own others
    ]

-- the elements at any offset are at the positions 0, 1, 2, ..
pub counted_at : (held : HeldMap) (off : ℕ) → (es : List Element) × (filter (is_in off) (placed_in held) ≡ placed off 0 es)
counted_at held off = elim (get held off) as (λ o. get held off ≡ o → (es : List Element) × (filter (is_in off) (placed_in held) ≡ placed off 0 es)) [
  | Some blob ↦ λ is. (blob.elements, placed_at held off blob is)
  | None ↦ λ none. ([], none_at (entries held) off (sym (get-entries held off) ∙ none))
] refl
