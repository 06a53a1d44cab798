-- Rows that are those of each blob at its offset, and no more rows than these, are those of the map.
use Rattle.std.proofs.Common.{◌≡◌, inl, inr, ℕ, suc, ◌+◌, ◌-◌, ◌^◌, ◌<◌, min, pos, Bool, false, not, ◌==◌, List, [], ◌∷◌, ◌++◌, map, length, length-append, refl, sym, ap, ap₂, subst, ◌∙◌, arith, IsPermutation}
use Rattle.std.specs.Prelude.{filter, flat_map, sum_by}
use Rattle.std.specs.FinMap.{entries}
use Rattle.std.specs.List.{AllByRecursion}
use Rattle.std.proofs.lemmas.Bool.{cases_Bool}
use Rattle.std.proofs.lemmas.Bool.Decides.{nat_tests}
use Rattle.std.proofs.lemmas.List.{map-append, length-map}
use Rattle.std.proofs.lemmas.List.Concat.{flat_map-append}
use Rattle.std.proofs.lemmas.List.Sums.{sum_by-cons}
use Rattle.std.proofs.lemmas.List.Filters.{length-filter_both}
use Rattle.std.proofs.lemmas.List.Sorted.{IsPermutation-sym, IsPermutation-trans, IsPermutation-append, IsPermutation-filter_both, length_permutation}
use Rattle.sqlite.specs.declared.types.Value.TheVariants.{Int}
use Rattle.sqlite.specs.Collation.TheVariants.{Binary}
use Rattle.sqlite.specs.Ops.{binary, is_true}
use Rattle.sqlite.specs.Order.{Row, column}
use Rattle.sqlite.specs.Tree.{Trees}
use Rattle.sqlite_sql.specs.declared.ops.CompareOp.TheVariants.{Eq}
use Rattle.sqlite_sql.specs.declared.ops.BinaryOp.TheVariants.{Compare}
use Rattle.sqlite_trees.specs.Tree.{IsAscending}
use Rattle.sqlite_trees.proofs.ListLemmas.{all_weaker, all_both, all-permutation, all-map, all-flat_map, IsPermutation-same}
use Rattle.osm_value.specs.declared.element.Element.{Element}
use Rattle.osm_value.specs.Elements.{tags_of_element}
use Rattle.osm_rows.specs.Audit.{is_at, HasAt, HasCount, ShowsBlob, ShowsCounts, ShowsMap, capped, counts_of, seen, seen_extents}
use Rattle.osm_rows.specs.declared.schema.layout.Layout.{Layout}
use Rattle.osm_rows.specs.declared.schema.layout.Layout.TheVariants.{Bodies, Tables}
use Rattle.osm_rows.specs.Held.{HeldMap}
use Rattle.osm_rows.specs.Keeping.{extent_of}
use Rattle.osm_rows.specs.Rows.{Placed, placed, body_row, extent_columns}
use Rattle.osm_rows.specs.TableRows.{Part, parts, element_row, tag_row, link_row, links_of}
use Rattle.osm_rows.proofs.ListLemmas.CompareLemmas.{same_number}
use Rattle.osm_rows.proofs.MapLemmas.PartLaws.{parts_own}
use Rattle.osm_rows.proofs.MapLemmas.PlacedLaws.{Entry, entries_rise, within, here}

-- ---- rows at several offsets

abbrev Stands : ℕ → Row → Type 0
Stands off row = column row 0 ≡ Int (pos off)

not_same : (m n : ℕ) → n < m → (m == n) ≡ false
not_same m n low = grind (arith, nat_tests)

elsewhere : (off at : ℕ) (row : Row) → off < at → Stands at row → is_at off row ≡ false
elsewhere off at row low is = ap (λ v. is_true (binary (Compare Eq Binary) v (Int (pos off)))) is ∙ same_number at off ∙ not_same at off low

-- what a test drops that none of these pass
filter_within : (p q : Row → Bool) (xs : List Row) → AllByRecursion (λ x. q x ≡ false) (filter p xs) → filter p (filter (λ x. not (q x)) xs) ≡ filter p xs
filter_within p q [] h = refl
filter_within p q (x ∷ xs) h = elim (cases_Bool (p x)) [
  | inl passes ↦ (let k = rw passes at h in rw (k.0, passes) (ap (λ l. x ∷ l) (filter_within p q xs k.1)))
  | inr fails ↦
      let k = rw fails at h in
      elim (cases_Bool (q x)) [
        | inl dropped ↦ rw (dropped, fails) (filter_within p q xs k)
        | inr kept ↦ rw (kept, fails) (filter_within p q xs k)
      ]
]

no_rows : (table : List Row) → length table ≡ 0 → table ≡ []
no_rows [] e = refl
no_rows (r ∷ table) e = absurd (omega (arith, e))

module _ (rows : Entry → List Row) (stands : (e : Entry) → AllByRecursion (Stands e.0) (rows e)) where
  keeps : (table : List Row) (e d : Entry) → e.0 < d.0 → HasAt d.0 (rows d) table → HasAt d.0 (rows d) (filter (λ r. not (is_at e.0 r)) table)
  keeps table e d low has =
      let theirs : AllByRecursion (Stands d.0) (filter (is_at d.0) table) = all-permutation _ _ _ has (stands d) in
      let apart : AllByRecursion (λ r. is_at e.0 r ≡ false) (filter (is_at d.0) table) = all_weaker _ _ (λ r is. elsewhere e.0 d.0 r low is) _ theirs in
      subst (IsPermutation (rows d)) (sym (filter_within (is_at d.0) (is_at e.0) table apart)) has

  module _ (all : List Entry → List Row) (none : all [] ≡ []) (more : (e : Entry) (es : List Entry) → all (e ∷ es) ≡ rows e ++ all es) where
    pub covers : (es : List Entry) (table : List Row) → IsAscending (λ (a b : Entry). a.0 < b.0) es → AllByRecursion (λ (e : Entry). HasAt e.0 (rows e) table) es → length table ≡ length (all es)
        → IsPermutation (all es) table
    covers [] table up at long = IsPermutation-same _ _ (none ∙ sym (no_rows table (long ∙ ap length none)))
    covers (e ∷ es) table up at long =
        let own = filter (is_at e.0) table in
        let rest = filter (λ r. not (is_at e.0 r)) table in
        let split : IsPermutation table (own ++ rest) = IsPermutation-filter_both (is_at e.0) (λ r. not (is_at e.0 r)) (λ r. refl) table in
        let later = all_both _ _ _ (λ (d : Entry) low has. keeps table e d low has) es up.0 at.1 in
        let both : length own + length rest ≡ length table = length-filter_both (is_at e.0) (λ r. not (is_at e.0 r)) (λ r. refl) table in
        let mine : length own ≡ length (rows e) = length_permutation _ _ at.0 in
        let whole : length (all (e ∷ es)) ≡ length (rows e) + length (all es) = ap length (more e es) ∙ length-append (rows e) (all es) in
        let left : length rest ≡ length (all es) = omega (arith, both, mine, whole, long) in
        let joined : IsPermutation (rows e ++ all es) (own ++ rest) = IsPermutation-append _ _ _ _ at.0 (covers es rest up.1 later left) in
        subst (λ xs. IsPermutation xs table) (sym (more e es)) (IsPermutation-trans _ _ _ joined (IsPermutation-sym _ _ split))

-- ---- the rows of each table

stand_placed : (row : Placed → Row) → ((p : Placed) → column (row p) 0 ≡ Int (pos p.0)) → (e : Entry) → AllByRecursion (Stands e.0) (map row (within e))
stand_placed row first e = all-map (Stands e.0) row (within e) (all_weaker _ _ (λ (p : Placed) at. first p ∙ ap (λ n. Int (pos n)) at) (within e) (here e))

stand_parts : {A : Type 0} (row : Part A → Row) (items : Placed → List A) → ((x : Part A) → column (row x) 0 ≡ Int (pos x.off)) → (e : Entry)
    → AllByRecursion (Stands e.0) (map row (flat_map (λ p. parts p.0 p.1 0 (items p)) (within e)))
stand_parts row items first e =
    all-map (Stands e.0) row _ (all-flat_map _ (λ (p : Placed). parts p.0 p.1 0 (items p)) (within e)
    (all_weaker _ _ (λ (p : Placed) at. all_weaker _ _ (λ x own. first x ∙ ap (λ n. Int (pos n)) (own.0 ∙ at)) _ (parts_own p 0 (items p))) (within e) (here e)))

abbrev pub elements_in : List Entry → List Placed
elements_in es = flat_map within es

placed_more : (row : Placed → Row) (e : Entry) (es : List Entry) → map row (elements_in (e ∷ es)) ≡ map row (within e) ++ map row (elements_in es)
placed_more row e es = map-append row (within e) (elements_in es)

parts_more : {A : Type 0} (row : Part A → Row) (inner : Placed → List (Part A)) (e : Entry) (es : List Entry)
    → map row (flat_map inner (elements_in (e ∷ es))) ≡ map row (flat_map inner (within e)) ++ map row (flat_map inner (elements_in es))
parts_more row inner e es = ap (map row) (flat_map-append inner (within e) (elements_in es)) ∙ map-append row (flat_map inner (within e)) (flat_map inner (elements_in es))

-- ---- how many they are

abbrev pub elements_of : Entry → List Element
elements_of e = e.1.elements

placed_length : (off position : ℕ) (es : List Element) → length (placed off position es) ≡ length es
placed_length off position [] = refl
placed_length off position (e ∷ es) = ap suc (placed_length off (position + 1) es)

parts_length : {A : Type 0} (off position number : ℕ) (xs : List A) → length (parts off position number xs) ≡ length xs
parts_length off position number [] = refl
parts_length off position number (x ∷ xs) = ap suc (parts_length off position (number + 1) xs)

pub count_elements : (es : List Entry) → length (elements_in es) ≡ sum_by length (map elements_of es)
count_elements [] = refl
count_elements (e ∷ es) = length-append (within e) (elements_in es) ∙ ap₂ (λ m n. m + n) (placed_length e.0 0 e.1.elements) (count_elements es) ∙ sym (sum_by-cons length e.1.elements (map elements_of es))

count_parts_at : {A : Type 0} (items : Element → List A) (off position : ℕ) (es : List Element) → length (flat_map (λ (p : Placed). parts p.0 p.1 0 (items p.2)) (placed off position es)) ≡ sum_by (λ e. length (items e)) es
count_parts_at items off position [] = refl
count_parts_at items off position (e ∷ es) =
    length-append (parts off position 0 (items e)) _ ∙ ap₂ (λ m n. m + n) (parts_length off position 0 (items e)) (count_parts_at items off (position + 1) es) ∙ sym (sum_by-cons (λ e. length (items e)) e es)

pub count_parts : {A : Type 0} (items : Element → List A) (es : List Entry) → length (flat_map (λ (p : Placed). parts p.0 p.1 0 (items p.2)) (elements_in es)) ≡ sum_by (λ elements. sum_by (λ e. length (items e)) elements) (map elements_of es)
count_parts items [] = refl
count_parts items (e ∷ es) =
    ap length (flat_map-append (λ (p : Placed). parts p.0 p.1 0 (items p.2)) (within e) (elements_in es))
    ∙ length-append (flat_map (λ (p : Placed). parts p.0 p.1 0 (items p.2)) (within e)) _
    ∙ ap₂ (λ m n. m + n) (count_parts_at items e.0 0 e.1.elements) (count_parts items es)
    ∙ sym (sum_by-cons (λ elements. sum_by (λ e. length (items e)) elements) e.1.elements (map elements_of es))

-- a count below the most that SQL counts has not stopped
exact : (n many : ℕ) → (many ≡ min n (2 ^ 64 - 1)) × (min n (2 ^ 64 - 1) < 2 ^ 63 - 1) → many ≡ n
exact n many h = omega (arith, h.0, h.1)

seen_length : (places : List ℕ) (table rows : List Row) (n : ℕ) → HasCount table (capped n) → length rows ≡ n → length (seen places table) ≡ length rows
seen_length places table rows n count many = length-map table (λ (row : Row). map (column row) places) ∙ exact n (length table) count ∙ sym many

-- ---- the whole

module _ (layout : Layout) (db : Trees) (held : HeldMap) where
  abbrev es : List Entry
  es = entries held

  extents_shown : AllByRecursion (λ (e : Entry). HasAt e.0 (extent_columns (extent_of e) ∷ []) (seen_extents db)) es → HasCount (db 1) (capped (length (map elements_of es))) → IsPermutation (map extent_columns (map extent_of es)) (seen_extents db)
  extents_shown at count =
      covers (λ (e : Entry). extent_columns (extent_of e) ∷ []) (λ e. (refl, tt)) (λ es. map extent_columns (map extent_of es)) refl (λ e es. refl) es (seen_extents db) (entries_rise held) at
      (seen_length (0 ∷ 2 ∷ 3 ∷ 4 ∷ 5 ∷ []) (db 1) (map extent_columns (map extent_of es)) _ count (length-map (map extent_of es) extent_columns ∙ length-map es extent_of ∙ sym (length-map es elements_of)))

  module _ (row : Placed → Row) (first : (p : Placed) → column (row p) 0 ≡ Int (pos p.0)) (places : List ℕ) (table : List Row) where
    placed_shown : AllByRecursion (λ (e : Entry). HasAt e.0 (map row (within e)) (seen places table)) es → HasCount table (capped (sum_by length (map elements_of es))) → IsPermutation (map row (elements_in es)) (seen places table)
    placed_shown at count =
        covers (λ (e : Entry). map row (within e)) (stand_placed row first) (λ es. map row (elements_in es)) refl (placed_more row) es (seen places table) (entries_rise held) at
        (seen_length places table (map row (elements_in es)) _ count (length-map (elements_in es) row ∙ count_elements es))

  module _ {A : Type 0} (row : Part A → Row) (first : (x : Part A) → column (row x) 0 ≡ Int (pos x.off)) (items : Element → List A) (places : List ℕ) (table : List Row) where
    abbrev inner : Placed → List (Part A)
    inner p = parts p.0 p.1 0 (items p.2)

    parts_shown : AllByRecursion (λ (e : Entry). HasAt e.0 (map row (flat_map inner (within e))) (seen places table)) es → HasCount table (capped (sum_by (λ elements. sum_by (λ e. length (items e)) elements) (map elements_of es)))
        → IsPermutation (map row (flat_map inner (elements_in es))) (seen places table)
    parts_shown at count =
        covers (λ (e : Entry). map row (flat_map inner (within e))) (stand_parts row (λ p. items p.2) first) (λ es. map row (flat_map inner (elements_in es))) refl (parts_more row inner) es (seen places table) (entries_rise held) at
        (seen_length places table (map row (flat_map inner (elements_in es))) _ count (length-map (flat_map inner (elements_in es)) row ∙ count_parts items es))

pub shows_map : (layout : Layout) (db : Trees) (held : HeldMap) → AllByRecursion (λ (e : Entry). ShowsBlob layout db e.0 e.1) (entries held) → ShowsCounts layout db (counts_of (map elements_of (entries held))) → ShowsMap layout db held
shows_map Bodies db held at counts = record {
  extents = extents_shown Bodies db held (all_weaker _ _ (λ (e : Entry) shown. shown.extent) (entries held) at) counts.0;
  elements = placed_shown Bodies db held body_row (λ p. refl) (1 ∷ 2 ∷ 3 ∷ 4 ∷ 5 ∷ []) (db 2) (all_weaker _ _ (λ (e : Entry) shown. shown.elements) (entries held) at) counts.1;
}
shows_map Tables db held at counts = record {
  extents = extents_shown Tables db held (all_weaker _ _ (λ (e : Entry) shown. shown.extent) (entries held) at) counts.0;
  elements = (
    placed_shown Tables db held element_row (λ p. refl) (1 ∷ 2 ∷ 3 ∷ 4 ∷ 5 ∷ 6 ∷ 7 ∷ 8 ∷ 9 ∷ 10 ∷ 11 ∷ 12 ∷ []) (db 2) (all_weaker _ _ (λ (e : Entry) shown. shown.elements.0) (entries held) at) counts.1,
    parts_shown Tables db held tag_row (λ x. refl) tags_of_element (1 ∷ 2 ∷ 3 ∷ 4 ∷ 5 ∷ []) (db 4) (all_weaker _ _ (λ (e : Entry) shown. shown.elements.1) (entries held) at) counts.2,
    parts_shown Tables db held link_row (λ x. refl) links_of (1 ∷ 2 ∷ 3 ∷ 4 ∷ 5 ∷ 6 ∷ []) (db 6) (all_weaker _ _ (λ (e : Entry) shown. shown.elements.2) (entries held) at) counts.3,
  );
}
