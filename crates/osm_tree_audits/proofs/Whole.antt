-- Where the rows at the offset of each blob of a map are kept, and the tables have no more rows, these are the rows of the map.
use Rattle.std.proofs.Common.{◌≡◌, ℕ, ◌-◌, ◌^◌, ◌<◌, min, pos, false, Less, is_gt, List, [], ◌∷◌, map, flat_map, filter, drop, length, refl, sym, ap, subst, ◌∙◌, arith, IsPermutation}
use Rattle.std.specs.Prelude.{sum_by}
use Rattle.std.specs.FinMap.{entries}
use Rattle.std.specs.List.{AllByRecursion}
use Rattle.std.specs.Cmp.{IsTotalOrder}
use Rattle.std.proofs.lemmas.Cmp.{on_total}
use Rattle.std.proofs.lemmas.List.{map-append, length-map}
use Rattle.std.proofs.lemmas.List.Concat.{flat_map-append}
use Rattle.std.proofs.lemmas.List.Sorted.{IsPermutation-refl}
use Rattle.sqlite_value.specs.declared.value.Value.TheVariants.{Int}
use Rattle.sqlite_value.specs.Order.{Row, column, value_cmp}
use Rattle.sqlite_value.proofs.OrderLemmas.{value_cmp_total}
use Rattle.sqlite_trees.specs.declared.store.Shape.TheVariants.{Table}
use Rattle.sqlite_trees.specs.Tree.{Trees, IsAscending, rowid, has_rowid}
use Rattle.sqlite_trees.specs.View.{IsShaped}
use Rattle.sqlite_trees.proofs.ListLemmas.{all_weaker, all-map, all-flat_map, ascending-map, ascending_weaker}
use Rattle.sqlite_exec.proofs.PartitionLemmas.{sorted_from_ascending}
use Rattle.osm_value.specs.declared.element.Element.{Element}
use Rattle.osm_value.specs.Elements.{tags_of_element}
use Rattle.osm_rows.specs.Audit.{is_at, HasAt, HasCount, ShowsCounts, capped, counts_of, elements_held}
use Rattle.osm_rows.specs.declared.schema.layout.Layout.TheVariants.{Tables}
use Rattle.osm_rows.specs.Held.{HeldMap}
use Rattle.osm_rows.specs.Keeping.{extent_of, extents_of}
use Rattle.osm_rows.specs.LayoutHolding.{HasRows, HoldElements}
use Rattle.osm_rows.specs.Rows.{Placed, placed_in, extent_row}
use Rattle.osm_rows.specs.TableRows.{Part, parts, element_row, tag_row, link_row, links_of}
use Rattle.osm_rows.proofs.AuditLemmas.AllRows.{covers, elements_in, elements_of, count_elements, count_parts}
use Rattle.osm_rows.proofs.ListLemmas.NumberOrder.{numbers_below}
use Rattle.osm_rows.proofs.ListLemmas.SortedLists.{sorted_is}
use Rattle.osm_rows.proofs.MapLemmas.PartLaws.{parts_own}
use Rattle.osm_rows.proofs.MapLemmas.PlacedLaws.{Entry, entries_rise, within, here}
use Rattle.osm_rows.proofs.AuditLemmas.HeldRows.{filter_same}
use Rattle.osm_tree_audits.specs.Auditing.{KeepsAt, KeepsBlob}
use Rattle.osm_tree_audits.proofs.AtOffset.{equal_is}

abbrev Stands : ℕ → Row → Type 0
Stands off row = column row 0 ≡ Int (pos off)

-- a count below the most that SQL counts has not stopped
exact : (n many : ℕ) → (many ≡ min n (2 ^ 64 - 1)) × (min n (2 ^ 64 - 1) < 2 ^ 63 - 1) → many ≡ n
exact n many h = omega (arith, h.0, h.1)

kept_length : (table rows : List Row) (n : ℕ) → HasCount table (capped n) → length rows ≡ n → length (map (drop 1) table) ≡ length rows
kept_length table rows n count many = length-map table (drop 1) ∙ exact n (length table) count ∙ sym many

module _ (row : Placed → Row) (first : (p : Placed) → column (row p) 0 ≡ Int (pos p.0)) (es : List Entry) (up : IsAscending (λ (a b : Entry). a.0 < b.0) es) (table : List Row) where
  stand_placed : (e : Entry) → AllByRecursion (Stands e.0) (map row (within e))
  stand_placed e = all-map (Stands e.0) row (within e) (all_weaker _ _ (λ (p : Placed) at. first p ∙ ap (λ n. Int (pos n)) at) (within e) (here e))

  pub placed_kept : AllByRecursion (λ (e : Entry). KeepsAt e.0 (map row (within e)) table) es → HasCount table (capped (sum_by length (map elements_of es))) → HasRows (map row (elements_in es)) table
  placed_kept at count =
      covers (λ (e : Entry). map row (within e)) stand_placed (λ es. map row (elements_in es)) refl (λ e es. map-append row (within e) (elements_in es)) es (map (drop 1) table) up at
      (kept_length table (map row (elements_in es)) _ count (length-map (elements_in es) row ∙ count_elements es))

module _ {A : Type 0} (row : Part A → Row) (first : (x : Part A) → column (row x) 0 ≡ Int (pos x.off)) (items : Element → List A) (es : List Entry) (up : IsAscending (λ (a b : Entry). a.0 < b.0) es) (table : List Row) where
  abbrev inner : Placed → List (Part A)
  inner p = parts p.0 p.1 0 (items p.2)

  stand_parts : (e : Entry) → AllByRecursion (Stands e.0) (map row (flat_map inner (within e)))
  stand_parts e =
      all-map (Stands e.0) row _ (all-flat_map _ inner (within e)
      (all_weaker _ _ (λ (p : Placed) at. all_weaker _ _ (λ x own. first x ∙ ap (λ n. Int (pos n)) (own.0 ∙ at)) _ (parts_own p 0 (items p.2))) (within e) (here e)))

  pub parts_kept : AllByRecursion (λ (e : Entry). KeepsAt e.0 (map row (flat_map inner (within e))) table) es → HasCount table (capped (sum_by (λ elements. sum_by (λ e. length (items e)) elements) (map elements_of es)))
      → HasRows (map row (flat_map inner (elements_in es))) table
  parts_kept at count =
      covers (λ (e : Entry). map row (flat_map inner (within e))) stand_parts (λ es. map row (flat_map inner (elements_in es))) refl
      (λ e es. ap (map row) (flat_map-append inner (within e) (elements_in es)) ∙ map-append row (flat_map inner (within e)) (flat_map inner (elements_in es))) es (map (drop 1) table) up at
      (kept_length table (map row (flat_map inner (elements_in es))) _ count (length-map (flat_map inner (elements_in es)) row ∙ count_parts items es))

-- ---- the table `blob`, whose rows stand by their offsets

by_rowid : Row → Row → Rattle.std.proofs.Common.Ordering
by_rowid r s = value_cmp (rowid r) (rowid s)

by_rowid_total : IsTotalOrder by_rowid
unfolding by_rowid
by_rowid_total = on_total rowid value_cmp_total

not_gt : (o : Rattle.std.proofs.Common.Ordering) → o ≡ Less → is_gt o ≡ false
not_gt o low = ap is_gt low

extents_kept : (es : List Entry) (table : List Row) → IsAscending (λ (a b : Entry). a.0 < b.0) es → IsShaped Table table → AllByRecursion (λ (e : Entry). filter (has_rowid (pos e.0)) table ≡ extent_row (extent_of e) ∷ []) es
    → HasCount table (capped (length (map elements_of es))) → table ≡ map extent_row (map extent_of es)
unfolding by_rowid
extents_kept es table up shaped at count =
    let each : AllByRecursion (λ (e : Entry). HasAt e.0 (extent_row (extent_of e) ∷ []) table) es =
    all_weaker _ _ (λ (e : Entry) is. subst (IsPermutation (extent_row (extent_of e) ∷ [])) (sym (filter_same (is_at e.0) (has_rowid (pos e.0)) (λ r. equal_is (column r 0) (pos e.0)) table ∙ is)) (IsPermutation-refl (extent_row (extent_of e) ∷ []))) es at in
    let long : length table ≡ length (map extent_row (map extent_of es)) = exact _ (length table) count ∙ length-map es elements_of ∙ sym (length-map es extent_of) ∙ sym (length-map (map extent_of es) extent_row) in
    let same = covers (λ (e : Entry). extent_row (extent_of e) ∷ []) (λ e. (refl, tt)) (λ es. map extent_row (map extent_of es)) refl (λ e es. refl) es table up each long in
    let rises = ascending-map _ extent_row (map extent_of es) (ascending-map _ extent_of es (ascending_weaker _ (λ (a b : Entry). by_rowid (extent_row (extent_of a)) (extent_row (extent_of b)) ≡ Less) (λ (a b : Entry) low. numbers_below a.0 b.0 low) es up)) in
    let sorted = sorted_from_ascending by_rowid by_rowid_total table (ascending_weaker _ _ (λ r s low. not_gt (by_rowid r s) low) table shaped.0) in
    sorted_is by_rowid by_rowid_total (map extent_row (map extent_of es)) table rises same sorted

module _ (db : Trees) (held : HeldMap) (at : AllByRecursion (λ (e : Entry). KeepsBlob db (extent_of e) e.1.elements) (entries held)) (counts : ShowsCounts Tables db (counts_of (elements_held held))) where
  pub blobs_are : IsShaped Table (db 1) → db 1 ≡ map extent_row (extents_of held)
  blobs_are shaped = extents_kept (entries held) (db 1) (entries_rise held) shaped (all_weaker _ _ (λ (e : Entry) kept. kept.extent) (entries held) at) counts.0

  pub elements_are : HoldElements Tables (placed_in held) db
  elements_are = (
    placed_kept element_row (λ p. refl) (entries held) (entries_rise held) (db 2) (all_weaker _ _ (λ (e : Entry) kept. kept.elements) (entries held) at) counts.1,
    parts_kept tag_row (λ x. refl) tags_of_element (entries held) (entries_rise held) (db 4) (all_weaker _ _ (λ (e : Entry) kept. kept.tags) (entries held) at) counts.2,
    parts_kept link_row (λ x. refl) links_of (entries held) (entries_rise held) (db 6) (all_weaker _ _ (λ (e : Entry) kept. kept.links) (entries held) at) counts.3,
  )
