-- The rows at an offset of a held map are those of the blob there and of no other, and the tables have as many rows as the map.
use Rattle.std.proofs.Common.{◌≡◌, inl, inr, ℕ, ◌+◌, ◌-◌, ◌^◌, ◌<◌, ◌==◌, min, pos, Bool, true, false, cond, eqb, List, [], ◌∷◌, map, length, Option, Some, None, refl, sym, ap, subst, ◌∙◌, arith, IsPermutation}
use Rattle.std.specs.Prelude.{filter, flat_map}
use Rattle.std.specs.Ordering.{nat_cmp}
use Rattle.std.specs.Cmp.{unsigned_tied}
use Rattle.std.specs.FinMap.{entries, get, find, get-entries}
use Rattle.std.specs.List.{AllByRecursion}
use Rattle.std.proofs.lemmas.Bool.{cases_Bool}
use Rattle.std.proofs.lemmas.Bool.Decides.{eqb_tells, nat_tests}
use Rattle.std.proofs.lemmas.List.{length-map}
use Rattle.std.proofs.lemmas.List.Sorted.{IsPermutation-sym, length_permutation}
use Rattle.sqlite.specs.declared.types.Value.TheVariants.{Int}
use Rattle.sqlite.specs.Collation.TheVariants.{Binary}
use Rattle.sqlite.specs.Effect.{Database}
use Rattle.sqlite.specs.Ops.{binary, is_true}
use Rattle.sqlite.specs.Order.{Row, column}
use Rattle.sqlite.specs.Tree.{Trees}
use Rattle.sqlite_sql.specs.declared.ops.CompareOp.TheVariants.{Eq}
use Rattle.sqlite_sql.specs.declared.ops.BinaryOp.TheVariants.{Compare}
use Rattle.sqlite_trees.specs.Tree.{IsAscending}
use Rattle.sqlite_trees.proofs.ListLemmas.{all_weaker, all-permutation, filter-map, filter_none, IsPermutation-filter}
use Rattle.osm_value.specs.declared.element.Element.{Element}
use Rattle.osm_value.specs.Elements.{tags_of_element}
use Rattle.osm_write.specs.Canon.{canon}
use Rattle.osm_rows.specs.Audit.{is_at, seen, HasAt, ShowsBlob, ShowsCounts, ShowElementsAt, AreCountable, IsPlain, counts_of, elements_held}
use Rattle.osm_rows.specs.declared.keeper.Extent.{Extent}
use Rattle.osm_rows.specs.declared.schema.layout.Layout.{Layout}
use Rattle.osm_rows.specs.declared.schema.layout.Layout.TheVariants.{Bodies, Tables}
use Rattle.osm_rows.specs.Held.{Blob, HeldMap}
use Rattle.osm_rows.specs.Keeping.{extent_of, extents_of}
use Rattle.osm_rows.specs.LayoutHolding.{HoldElements, IsBlob, IsKept}
use Rattle.osm_rows.specs.Rows.{Placed, IsBefore, IsStored, placed, placed_in, body_row, extent_columns, extent_row, blob_code}
use Rattle.osm_rows.specs.Schema.Layouts.{schema_of}
use Rattle.osm_rows.specs.TableRows.{element_row, tags_at, tag_row, tag_rows, links_at, links_of, link_row, link_rows}
use Rattle.osm_rows.proofs.AuditLemmas.AllRows.{count_elements, count_parts}
use Rattle.osm_rows.proofs.ListLemmas.CompareLemmas.{same_number}
use Rattle.osm_rows.proofs.LoadLemmas.ShownRows.{ascending_among}
use Rattle.osm_rows.proofs.MapLemmas.HeldLemmas.{extents_among, elements_among, placed_at, elements_of}
use Rattle.osm_rows.proofs.MapLemmas.OneMap.{body_before, element_before, rises, tags_rise, links_rise, same_rows, same_bodies, same_kind, same_blob}
use Rattle.osm_rows.proofs.MapLemmas.PlacedLaws.{Entry, all_held, by_position, entries_rise, here}
use Rattle.osm_rows.proofs.MapLemmas.SameElements.{same_tables}
use Rattle.osm_rows.proofs.MapLemmas.StoredElements.{stored_both}
use Rattle.osm_rows.proofs.MapLemmas.TableHeld.{tables_among, parts_of_blob}

-- ---- the rows of a table at an offset

pub filter_same : {X : Type 0} (p q : X → Bool) → ((x : X) → p x ≡ q x) → (xs : List X) → filter p xs ≡ filter q xs
filter_same p q same [] = refl
filter_same p q same (x ∷ xs) = elim (cases_Bool (q x)) [
  | inl passes ↦ rw (same x ∙ passes, passes) (ap (λ l. x ∷ l) (filter_same p q same xs))
  | inr fails ↦ rw (same x ∙ fails, fails) (filter_same p q same xs)
]

module _ {X : Type 0} (row : X → Row) (of : X → ℕ) (first : (x : X) → column (row x) 0 ≡ Int (pos (of x))) (off : ℕ) where
  at_offset : (xs : List X) → filter (is_at off) (map row xs) ≡ map row (filter (λ x. of x == off) xs)
  at_offset xs =
      filter-map (is_at off) row xs
      ∙ ap (map row) (filter_same (λ x. is_at off (row x)) (λ x. of x == off) (λ x. ap (λ v. is_true (binary (Compare Eq Binary) v (Int (pos off)))) (first x) ∙ same_number (of x) off) xs)

  pub shown_at : (table : List Row) (xs own : List X) → IsPermutation table (map row xs) → filter (λ x. of x == off) xs ≡ own → HasAt off (map row own) table
  shown_at table xs own same is =
      subst (λ rows. IsPermutation rows (filter (is_at off) table)) (at_offset xs ∙ ap (map row) is) (IsPermutation-sym _ _ (IsPermutation-filter (is_at off) table (map row xs) same))

-- ---- the entry at an offset

abbrev pub entry_at : ℕ → Option Blob → List Entry
entry_at off (Some blob) = (off, blob) ∷ []
entry_at off None = []

unequal : (m n : ℕ) → (m ≡ n → ⊥) → (m == n) ≡ false
unequal m n e = grind (arith, nat_tests)

equal : (m n : ℕ) → m ≡ n → (m == n) ≡ true
equal m n e = grind (arith, nat_tests)

apart_from : (off m n : ℕ) → off ≡ m → m < n → n ≡ off → ⊥
apart_from off m n is low same = omega (arith, is, low, same)

entries_at : (es : List Entry) (off : ℕ) → IsAscending (λ (a b : Entry). a.0 < b.0) es → filter (λ (e : Entry). e.0 == off) es ≡ entry_at off (find nat_cmp off es)
entries_at [] off up = refl
entries_at (e ∷ es) off up =
    let known : find nat_cmp off (e ∷ es) ≡ cond (eqb off e.0) (Some e.1) (find nat_cmp off es) = ap (λ b. cond b (Some e.1) (find nat_cmp off es)) (unsigned_tied off e.0) in
    let make : ℕ → Blob → Entry = λ n b. (n, b) in
    elim (eqb_tells off e.0) [
      | inl (test, same) ↦
          let none : filter (λ (d : Entry). d.0 == off) es ≡ [] = filter_none _ es (all_weaker _ _ (λ (d : Entry) low. unequal d.0 off (apart_from off e.0 d.0 same low)) es up.0) in
          let own : filter (λ (d : Entry). d.0 == off) (e ∷ es) ≡ e ∷ [] = rw (equal e.0 off (sym same)) (ap (λ l. e ∷ l) none) in
          own ∙ ap (λ n. make n e.1 ∷ []) (sym same) ∙ sym (ap (entry_at off) (known ∙ ap (λ b. cond b (Some e.1) (find nat_cmp off es)) test))
      | inr (test, apart) ↦
          let rest : filter (λ (d : Entry). d.0 == off) (e ∷ es) ≡ filter (λ (d : Entry). d.0 == off) es = rw (unequal e.0 off (λ is. apart (sym is))) refl in
          rest ∙ entries_at es off up.1 ∙ sym (ap (entry_at off) (known ∙ ap (λ b. cond b (Some e.1) (find nat_cmp off es)) test))
    ]

pub extents_at : (held : HeldMap) (off : ℕ) → filter (λ (e : Extent). e.off == off) (extents_of held) ≡ map extent_of (entry_at off (get held off))
extents_at held off =
    filter-map (λ (e : Extent). e.off == off) extent_of (entries held)
    ∙ ap (map extent_of) (entries_at (entries held) off (entries_rise held) ∙ sym (ap (entry_at off) (get-entries held off)))

-- ---- what a map shows

-- the tables have the rows of the map, whatever else the trees are
pub record HasRowsOf (layout : Layout) (held : HeldMap) (db : Trees) : Type 0 where
  pub blob : db 1 ≡ map extent_row (extents_of held)
  pub elements : HoldElements layout (placed_in held) db

module _ (db : Database) (held : HeldMap) (off : ℕ) where
  extent_shown : (layout : Layout) → db.schema ≡ schema_of layout → HasRowsOf layout held db.trees → HasAt off (map extent_columns (map extent_of (entry_at off (get held off)))) (seen (0 ∷ 2 ∷ 3 ∷ 4 ∷ 5 ∷ []) (db.trees 1))
  extent_shown layout schema tables =
      shown_at extent_columns (λ (e : Extent). e.off) (λ e. refl) off (seen (0 ∷ 2 ∷ 3 ∷ 4 ∷ 5 ∷ []) (db.trees 1)) (extents_of held) _ (extents_among layout db held schema tables.blob).rows (extents_at held off)

  elements_shown : (layout : Layout) (blob : Blob) → db.schema ≡ schema_of layout → HasRowsOf layout held db.trees → get held off ≡ Some blob → ShowElementsAt layout off (placed off 0 blob.elements) db.trees
  elements_shown Bodies blob schema tables is =
      shown_at body_row (λ (p : Placed). p.0) (λ p. refl) off (seen (1 ∷ 2 ∷ 3 ∷ 4 ∷ 5 ∷ []) (db.trees 2)) (placed_in held) _ (elements_among db held schema tables.elements).rows (placed_at held off blob is)
  elements_shown Tables blob schema tables is =
      let has = tables_among db held schema tables.elements in
      let here = placed_at held off blob is in (
        shown_at element_row (λ (p : Placed). p.0) (λ p. refl) off (seen (1 ∷ 2 ∷ 3 ∷ 4 ∷ 5 ∷ 6 ∷ 7 ∷ 8 ∷ 9 ∷ 10 ∷ 11 ∷ 12 ∷ []) (db.trees 2)) (placed_in held) _ has.elements here,
        shown_at tag_row (λ x. x.off) (λ x. refl) off (seen (1 ∷ 2 ∷ 3 ∷ 4 ∷ 5 ∷ []) (db.trees 4)) (flat_map tags_at (placed_in held)) _ has.tags
            (parts_of_blob (λ (p : Placed). tags_of_element p.2) off (placed_in held) ∙ ap (flat_map tags_at) here),
        shown_at link_row (λ x. x.off) (λ x. refl) off (seen (1 ∷ 2 ∷ 3 ∷ 4 ∷ 5 ∷ 6 ∷ []) (db.trees 6)) (flat_map links_at (placed_in held)) _ has.links
            (parts_of_blob (λ (p : Placed). links_of p.2) off (placed_in held) ∙ ap (flat_map links_at) here),
      )

-- the rows at the offset of a held blob are its rows
pub held_shown : (layout : Layout) (db : Database) (held : HeldMap) → db.schema ≡ schema_of layout → HasRowsOf layout held db.trees → (off : ℕ) (blob : Blob) → get held off ≡ Some blob → ShowsBlob layout db.trees off blob
held_shown layout db held schema tables off blob is = record {
  extent = subst (λ o. HasAt off (map extent_columns (map extent_of (entry_at off o))) (seen (0 ∷ 2 ∷ 3 ∷ 4 ∷ 5 ∷ []) (db.trees 1))) is (extent_shown db held off layout schema tables);
  elements = elements_shown db held off layout blob schema tables is;
}

-- ---- rows are those of one blob

placed_before : (off : ℕ) (blob : Blob) → IsAscending IsBefore (placed off 0 blob.elements)
placed_before off blob =
    ascending_among (λ (p : Placed). p.0 ≡ off) (λ (a b : Placed). a.1 < b.1) IsBefore (λ a b there too low. inr (there ∙ sym too, low)) (placed off 0 blob.elements) (here (off, blob)) (by_position (off, blob))

each_placed : (P : Element → Type 0) (off position : ℕ) (es : List Element) → AllByRecursion P es → AllByRecursion (λ (p : Placed). P p.2) (placed off position es)
each_placed P off position [] all = tt
each_placed P off position (e ∷ es) all = (all.0, each_placed P off (position + 1) es all.1)

-- what has the same block as a stored element is short too
stored_too : (ps qs : List Placed) → AllByRecursion (λ (p : Placed). IsStored Bodies p.2) ps → AllByRecursion (λ (p : Placed). IsPlain p.2) qs → map body_row ps ≡ map body_row qs → AllByRecursion (λ (p : Placed). IsStored Bodies p.2) qs
stored_too ps [] hp hq is = tt
stored_too [] (q ∷ qs) hp hq is = absurd (cc)
stored_too (p ∷ ps) (q ∷ qs) hp hq is =
    let block : canon (p.2 ∷ []) ≡ canon (q.2 ∷ []) = cc in
    let more : map body_row ps ≡ map body_row qs = cc in
    ((record { in_range = hq.0.0; short = subst (λ (w : List ℕ). length w < 2 ^ 64) block hp.0.0.short }, hq.0.1), stored_too ps qs hp.1 hq.1 more)

same_list : (off : ℕ) (xs ys : List Element) → placed off 0 xs ≡ placed off 0 ys → xs ≡ ys
same_list off xs ys is = sym (elements_of off 0 xs) ∙ ap (map (λ (p : Placed). p.2)) is ∙ elements_of off 0 ys

same_shown : (layout : Layout) (db : Trees) (off : ℕ) (one other : Blob) → AllByRecursion (IsStored layout) one.elements → AllByRecursion IsPlain other.elements → ShowElementsAt layout off (placed off 0 one.elements) db
    → ShowElementsAt layout off (placed off 0 other.elements) db → placed off 0 one.elements ≡ placed off 0 other.elements
same_shown Bodies db off one other stored plain shows shows_too =
    let ps = placed off 0 one.elements in
    let qs = placed off 0 other.elements in
    let up = rises (0 ∷ 1 ∷ []) IsBefore body_row body_before ps (placed_before off one) in
    let vp = rises (0 ∷ 1 ∷ []) IsBefore body_row body_before qs (placed_before off other) in
    let rows = same_rows (0 ∷ 1 ∷ []) (map body_row ps) (map body_row qs) _ up vp shows shows_too in
    let all = each_placed (IsStored Bodies) off 0 one.elements stored in
    same_bodies ps qs all (stored_too ps qs all (each_placed IsPlain off 0 other.elements plain) rows) rows
same_shown Tables db off one other stored plain shows shows_too =
    let ps = placed off 0 one.elements in
    let qs = placed off 0 other.elements in
    let rise = placed_before off one in
    let rise_too = placed_before off other in
    let up = rises (0 ∷ 1 ∷ []) IsBefore element_row element_before ps rise in
    let vp = rises (0 ∷ 1 ∷ []) IsBefore element_row element_before qs rise_too in
    same_tables ps qs rise rise_too (same_rows (0 ∷ 1 ∷ []) (map element_row ps) (map element_row qs) _ up vp shows.0 shows_too.0)
    (same_rows (0 ∷ 1 ∷ 2 ∷ []) (tag_rows ps) (tag_rows qs) _ (tags_rise ps rise) (tags_rise qs rise_too) shows.1 shows_too.1)
    (same_rows (0 ∷ 1 ∷ 2 ∷ []) (link_rows ps) (link_rows qs) _ (links_rise ps rise) (links_rise qs rise_too) shows.2 shows_too.2)

one_row : (table : List Row) (a b : Row) → IsPermutation (a ∷ []) table → IsPermutation (b ∷ []) table → b ≡ a
one_row table a b has has_too = (all-permutation (λ r. r ≡ a) table (b ∷ []) (IsPermutation-sym _ _ has_too) (all-permutation (λ r. r ≡ a) (a ∷ []) table has (refl, tt))).0

same_extent : (off : ℕ) (one other : Blob) → extent_columns (extent_of (off, one)) ≡ extent_columns (extent_of (off, other)) → one.elements ≡ other.elements → one ≡ other
same_extent off one other is elements =
    let fin : one.fin ≡ other.fin = cc in
    let digest : one.digest ≡ other.digest = cc in
    let code : blob_code one.kind ≡ blob_code other.kind = cc in
    same_blob one other fin digest (same_kind one.kind other.kind code) elements

stored_at : (layout : Layout) (held : HeldMap) → IsKept layout held → (off : ℕ) (blob : Blob) → get held off ≡ Some blob → AllByRecursion (IsStored layout) blob.elements
stored_at layout held kept off blob is =
    let kept_blob = all_held (λ (entry : Entry). IsBlob layout entry.1) held off blob kept.blobs is in
    stored_both layout blob.elements kept_blob.can_store kept_blob.few_texts

-- where the rows at an offset are those of a blob, the map has that blob there
pub shown_held : (layout : Layout) (db : Database) (held : HeldMap) → db.schema ≡ schema_of layout → HasRowsOf layout held db.trees → IsKept layout held → (off : ℕ) (blob : Blob) → AllByRecursion IsPlain blob.elements
    → ShowsBlob layout db.trees off blob → get held off ≡ Some blob
shown_held layout db held schema tables kept off blob plain shown = elim (get held off) as (λ o. get held off ≡ o → get held off ≡ Some blob) [
  | Some found ↦ λ is.
      let has = held_shown layout db held schema tables off found is in
      let row = one_row _ _ _ has.extent shown.extent in
      let elements = same_list off found.elements blob.elements (same_shown layout db.trees off found blob (stored_at layout held kept off found is) plain has.elements shown.elements) in
      is ∙ ap Some (same_extent off found blob (sym row) elements)
  | None ↦ λ none.
      let nothing : HasAt off [] (seen (0 ∷ 2 ∷ 3 ∷ 4 ∷ 5 ∷ []) (db.trees 1)) = subst (λ o. HasAt off (map extent_columns (map extent_of (entry_at off o))) (seen (0 ∷ 2 ∷ 3 ∷ 4 ∷ 5 ∷ []) (db.trees 1))) none (extent_shown db held off layout schema tables) in
      let zero = length_permutation _ _ nothing in
      let one = length_permutation _ _ shown.extent in
      absurd (omega (arith, zero, one))
] refl

-- ---- how many rows there are

seen_many : {X : Type 0} (row : X → Row) (places : List ℕ) (table : List Row) (xs : List X) → IsPermutation (seen places table) (map row xs) → length table ≡ length xs
seen_many row places table xs same = sym (length-map table (λ (r : Row). map (column r) places)) ∙ length_permutation _ _ (IsPermutation-sym _ _ same) ∙ length-map xs row

-- a count that SQL can count has not stopped
uncapped : (n many : ℕ) → many ≡ n → min n (2 ^ 64 - 1) < 2 ^ 63 - 1 → (many ≡ min n (2 ^ 64 - 1)) × (min n (2 ^ 64 - 1) < 2 ^ 63 - 1)
uncapped n many is low = (omega (arith, is, low), low)

-- each table has as many rows as the map
pub held_counted : (layout : Layout) (db : Database) (held : HeldMap) → db.schema ≡ schema_of layout → HasRowsOf layout held db.trees → AreCountable (counts_of (elements_held held)) → ShowsCounts layout db.trees (counts_of (elements_held held))
held_counted Bodies db held schema tables few = (
  uncapped _ _ (seen_many extent_columns (0 ∷ 2 ∷ 3 ∷ 4 ∷ 5 ∷ []) (db.trees 1) (extents_of held) (extents_among Bodies db held schema tables.blob).rows ∙ length-map (entries held) extent_of ∙ sym (length-map (entries held) _)) few.blobs,
  uncapped _ _ (seen_many body_row (1 ∷ 2 ∷ 3 ∷ 4 ∷ 5 ∷ []) (db.trees 2) (placed_in held) (elements_among db held schema tables.elements).rows ∙ count_elements (entries held)) few.elements,
)
held_counted Tables db held schema tables few =
    let has = tables_among db held schema tables.elements in (
      uncapped _ _ (seen_many extent_columns (0 ∷ 2 ∷ 3 ∷ 4 ∷ 5 ∷ []) (db.trees 1) (extents_of held) (extents_among Tables db held schema tables.blob).rows ∙ length-map (entries held) extent_of ∙ sym (length-map (entries held) _)) few.blobs,
      uncapped _ _ (seen_many element_row (1 ∷ 2 ∷ 3 ∷ 4 ∷ 5 ∷ 6 ∷ 7 ∷ 8 ∷ 9 ∷ 10 ∷ 11 ∷ 12 ∷ []) (db.trees 2) (placed_in held) has.elements ∙ count_elements (entries held)) few.elements,
      uncapped _ _ (seen_many tag_row (1 ∷ 2 ∷ 3 ∷ 4 ∷ 5 ∷ []) (db.trees 4) (flat_map tags_at (placed_in held)) has.tags ∙ count_parts tags_of_element (entries held)) few.tags,
      uncapped _ _ (seen_many link_row (1 ∷ 2 ∷ 3 ∷ 4 ∷ 5 ∷ 6 ∷ []) (db.trees 6) (flat_map links_at (placed_in held)) has.links ∙ count_parts links_of (entries held)) few.links,
    )
