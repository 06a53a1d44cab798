-- The rows of a map with one entry more, and of one that holds nothing.
use Rattle.std.proofs.Common.{◌≡◌, ◌≢◌, ◌⊎◌, inl, inr, ℕ, pos, ◌<◌, ◌≤◌, List, [], ◌∷◌, ◌++◌, map, drop, length, Option, Some, None, cond, eqb, refl, sym, ap, subst, ◌∙◌, arith, Less, Greater, nat_lt}
use Rattle.std.specs.Prelude.{flat_map}
use Rattle.std.specs.List.{AllByRecursion}
use Rattle.std.specs.List.Sorted.{IsPermutation}
use Rattle.std.specs.Ordering.{nat_cmp, match_ordering, ordering_reverse}
use Rattle.std.specs.Cmp.{nat_cmp_is, nat_cmp_total, unsigned_tied}
use Rattle.std.specs.FinMap.Entries.{by_order}
use Rattle.std.specs.FinMap.{empty, entries, len-entries, len-empty, get, find, put, get-entries, entries-insert}
use Rattle.std.proofs.lemmas.Bool.{cases_Bool}
use Rattle.std.proofs.lemmas.Bool.Decides.{eqb_tells, nat_tests}
use Rattle.std.proofs.lemmas.List.{map-append}
use Rattle.std.proofs.lemmas.List.Sorted.{IsPermutation-refl, IsPermutation-sym, IsPermutation-trans, IsPermutation-cons, IsPermutation-middle, IsPermutation-map, IsPermutation-append_left, IsPermutation-append_comm}
use Rattle.sqlite_trees.proofs.ListLemmas.{IsPermutation-flat_map}
use Rattle.sqlite_value.specs.Order.{value_cmp}
use Rattle.sqlite_value.proofs.OrderLemmas.{value_cmp_total}
use Rattle.sqlite.specs.declared.types.Value.TheVariants.{Int}
use Rattle.sqlite.specs.Order.{Row}
use Rattle.sqlite.specs.Tree.{Trees, put_row}
use Rattle.pbf_frame.specs.declared.part.TheConstants.{MAX_OFFSET}
use Rattle.osm_rows.specs.Held.{Blob, HeldMap, IsFree}
use Rattle.osm_rows.specs.HeldLaws.{IsFree-unheld, IsApart-insert}
use Rattle.osm_rows.specs.Keeping.{extent_of, with_blob}
use Rattle.osm_rows.specs.declared.schema.layout.Layout.{Layout}
use Rattle.osm_rows.specs.declared.schema.layout.Layout.TheVariants.{Bodies, Tables}
use Rattle.osm_rows.specs.Rows.{Placed, placed, placed_in, body_row, extent_row}
use Rattle.osm_rows.specs.TableRows.{element_row, tags_at, links_at, tag_row, link_row}
use Rattle.osm_rows.specs.Put.Gains.{Gains, GainsElements, Puts}
use Rattle.osm_rows.specs.LayoutHolding.{IsBlob, IsKept, HasRows, HoldElements, TablesHold}
use Rattle.std.proofs.lemmas.List.Concat.{flat_map-append}
use Rattle.osm_rows.proofs.ListLemmas.NumberOrder.{numbers_below}
use Rattle.osm_rows.proofs.MapLemmas.PlacedLaws.{Entry, within}

-- ---- an entry in its place

not_found : (off : ℕ) (e : Entry) (es : List Entry) → find nat_cmp off (e ∷ es) ≡ None → (off ≢ e.0) × (find nat_cmp off es ≡ None)
not_found off e es none =
    let known : cond (eqb off e.0) (Some e.1) (find nat_cmp off es) ≡ None = ap (λ b. cond b (Some e.1) (find nat_cmp off es)) (sym (unsigned_tied off e.0)) ∙ none in
    elim (eqb_tells off e.0) [
      | inl (test, same) ↦ (let bad : Some e.1 ≡ None = ap (λ b. cond b (Some e.1) (find nat_cmp off es)) (sym test) ∙ known in absurd (cc))
      | inr (test, apart) ↦ (apart, ap (λ b. cond b (Some e.1) (find nat_cmp off es)) (sym test) ∙ known)
    ]

below_or_above : (m n : ℕ) → m ≢ n → (m < n) ⊎ (n < m)
below_or_above m n apart = elim (cases_Bool (nat_lt m n)) [ inl low ↦ inl (grind (arith, nat_tests)) | inr not ↦ inr (grind (arith, nat_tests)) ]

abbrev row_of : Entry → Row
row_of e = extent_row (extent_of e)

above : (m n : ℕ) → m < n → value_cmp (Int (pos n)) (Int (pos m)) ≡ Greater
above m n low = value_cmp_total.antisymm _ _ ∙ ap ordering_reverse (numbers_below m n low)

module _ (off : ℕ) (blob : Blob) where
  abbrev new : Entry
  new = (off, blob)

  -- the entry stands before the first of these, or after it
  before : (e : Entry) (es : List Entry) → off < e.0 → put nat_cmp off blob (e ∷ es) ≡ new ∷ e ∷ es
  before e es low = ap (λ o. by_order o (new ∷ e ∷ es) ((e.0, blob) ∷ es) (e ∷ put nat_cmp off blob es)) (sym (nat_cmp_is off e.0 Less low))

  after : (e : Entry) (es : List Entry) → e.0 < off → put nat_cmp off blob (e ∷ es) ≡ e ∷ put nat_cmp off blob es
  after e es high = ap (λ o. by_order o (new ∷ e ∷ es) ((e.0, blob) ∷ es) (e ∷ put nat_cmp off blob es)) (sym (nat_cmp_is off e.0 Greater high))

  -- its row is put in the same place
  pub put_entry : (es : List Entry) → find nat_cmp off es ≡ None → put_row (row_of new) (map extent_row (map extent_of es)) ≡ map extent_row (map extent_of (put nat_cmp off blob es))
  put_entry [] none = refl
  put_entry (e ∷ es) none =
      let rest = not_found off e es none in
      let rows = map extent_row (map extent_of es) in
      elim (below_or_above off e.0 rest.0) [
        | inl low ↦ ap (λ o. match_ordering o (row_of e ∷ put_row (row_of new) rows) (row_of new ∷ rows) (row_of new ∷ row_of e ∷ rows)) (above off e.0 low)
            ∙ ap (λ l. map extent_row (map extent_of l)) (sym (before e es low))
        | inr high ↦ ap (λ o. match_ordering o (row_of e ∷ put_row (row_of new) rows) (row_of new ∷ rows) (row_of new ∷ row_of e ∷ rows)) (numbers_below e.0 off high)
            ∙ ap (λ l. row_of e ∷ l) (put_entry es rest.1)
            ∙ ap (λ l. map extent_row (map extent_of l)) (sym (after e es high))
      ]

  -- it is the only one that is new
  one_new : (es : List Entry) → find nat_cmp off es ≡ None → IsPermutation (new ∷ es) (put nat_cmp off blob es)
  one_new [] none = IsPermutation-refl _
  one_new (e ∷ es) none =
      let rest = not_found off e es none in
      elim (below_or_above off e.0 rest.0) [
        | inl low ↦ subst (IsPermutation (new ∷ e ∷ es)) (sym (before e es low)) (IsPermutation-refl _)
        | inr high ↦ subst (IsPermutation (new ∷ e ∷ es)) (sym (after e es high))
            (IsPermutation-trans _ _ _ (IsPermutation-middle (new ∷ []) e es) (IsPermutation-cons e _ _ (one_new es rest.1)))
      ]

  all_put : (P : Entry → Type 0) (es : List Entry) → P new → AllByRecursion P es → find nat_cmp off es ≡ None → AllByRecursion P (put nat_cmp off blob es)
  all_put P [] here all none = (here, tt)
  all_put P (e ∷ es) here all none =
      let rest = not_found off e es none in
      elim (below_or_above off e.0 rest.0) [
        | inl low ↦ subst (AllByRecursion P) (sym (before e es low)) (here, all)
        | inr high ↦ subst (AllByRecursion P) (sym (after e es high)) (all.0, all_put P es here all.1 rest.1)
      ]

none_of : (found : Option Blob) → ((blob : Blob) → found ≢ Some blob) → found ≡ None
none_of None h = refl
none_of (Some blob) h = absurd (h blob refl)

module _ (held : HeldMap) (off : ℕ) (blob : Blob) (layout : Layout) (kept : IsKept layout held) (free : IsFree held off blob.fin) (order : off < blob.fin) where
  pub unheld : find nat_cmp off (entries held) ≡ None
  unheld = sym (get-entries held off) ∙ none_of (get held off) (IsFree-unheld held off blob.fin kept.apart free order)

  pub inserted : entries (with_blob held off blob) ≡ put nat_cmp off blob (entries held)
  inserted = entries-insert nat_cmp_total held off blob

  pub kept_more : blob.fin ≤ MAX_OFFSET → IsBlob layout blob → IsKept layout (with_blob held off blob)
  kept_more limit is = record {
    apart = IsApart-insert held off blob kept.apart free order limit;
    blobs = subst (AllByRecursion (λ (entry : Entry). IsBlob layout entry.1)) (sym inserted) (all_put off blob (λ (entry : Entry). IsBlob layout entry.1) (entries held) is kept.blobs unheld);
  }

  -- a table whose rows are those of the elements has those of the new ones too
  module _ (rows : List Placed → List Row) (append : (xs ys : List Placed) → rows (xs ++ ys) ≡ rows xs ++ rows ys) (permute : (xs ys : List Placed) → IsPermutation xs ys → IsPermutation (rows xs) (rows ys)) where
    has_more : (old new : List Row) → HasRows (rows (placed_in held)) old → Gains old (rows (placed off 0 blob.elements)) new → HasRows (rows (placed_in (with_blob held off blob))) new
    has_more old new has gains =
        let mine = rows (placed off 0 blob.elements) in
        let all = permute _ _ (IsPermutation-flat_map within _ _ (one_new off blob (entries held) unheld)) in
        let both : IsPermutation (mine ++ rows (placed_in held)) (rows (flat_map within (put nat_cmp off blob (entries held)))) =
        subst (λ l. IsPermutation l (rows (flat_map within (put nat_cmp off blob (entries held))))) (append (placed off 0 blob.elements) (placed_in held)) all in
        subst (λ l. IsPermutation (rows (flat_map within l)) (map (drop 1) new)) (sym inserted)
        (IsPermutation-trans _ _ _ (IsPermutation-sym _ _ both)
        (IsPermutation-trans _ _ _ (IsPermutation-append_comm mine (rows (placed_in held)))
        (IsPermutation-trans _ _ _ (IsPermutation-append_left mine _ _ has) gains)))

  module _ {X : Type 0} (parts : Placed → List X) (row : X → Row) where
    append_parts : (xs ys : List Placed) → map row (flat_map parts (xs ++ ys)) ≡ map row (flat_map parts xs) ++ map row (flat_map parts ys)
    append_parts xs ys = ap (map row) (flat_map-append parts xs ys) ∙ map-append row (flat_map parts xs) (flat_map parts ys)

    permute_parts : (xs ys : List Placed) → IsPermutation xs ys → IsPermutation (map row (flat_map parts xs)) (map row (flat_map parts ys))
    permute_parts xs ys same = IsPermutation-map row _ _ (IsPermutation-flat_map parts xs ys same)

    has_more_parts : (old new : List Row) → HasRows (map row (flat_map parts (placed_in held))) old → Gains old (map row (flat_map parts (placed off 0 blob.elements))) new
        → HasRows (map row (flat_map parts (placed_in (with_blob held off blob)))) new
    has_more_parts = has_more (λ ps. map row (flat_map parts ps)) append_parts permute_parts

  has_more_rows : (row : Placed → Row) (old new : List Row) → HasRows (map row (placed_in held)) old → Gains old (map row (placed off 0 blob.elements)) new → HasRows (map row (placed_in (with_blob held off blob))) new
  has_more_rows row = has_more (map row) (map-append row) (IsPermutation-map row)

  pub more_elements : (layout : Layout) (old new : Trees) → HoldElements layout (placed_in held) old → GainsElements layout (placed off 0 blob.elements) old new → HoldElements layout (placed_in (with_blob held off blob)) new
  more_elements Bodies old new has gains = has_more_rows body_row (old 2) (new 2) has gains
  more_elements Tables old new has gains = (has_more_rows element_row (old 2) (new 2) has.0 gains.0, has_more_parts tags_at tag_row (old 4) (new 4) has.1 gains.1, has_more_parts links_at link_row (old 6) (new 6) has.2 gains.2)

  pub hold_more : (old new : Trees) → TablesHold layout held old → Puts layout old new (extent_of (off, blob)) (placed off 0 blob.elements) → TablesHold layout (with_blob held off blob) new
  hold_more old new tables puts = record {
    sound = puts.sound;
    meta = puts.meta ∙ tables.meta;
    blob = puts.blob ∙ ap (put_row (extent_row (extent_of (off, blob)))) tables.blob ∙ put_entry off blob (entries held) unheld ∙ ap (λ l. map extent_row (map extent_of l)) (sym inserted);
    elements = more_elements layout old new tables.elements puts.elements;
  }

-- ---- a store that holds nothing

nothing : {X : Type 0} (xs : List X) → length xs ≡ 0 → xs ≡ []
nothing [] e = refl
nothing (x ∷ xs) e = absurd (omega arith)

pub no_entries : entries (empty {X = Blob} {R = nat_cmp}) ≡ []
no_entries = nothing (entries (empty {X = Blob} {R = nat_cmp})) (sym (len-entries (empty {X = Blob} {R = nat_cmp})) ∙ len-empty nat_cmp Blob)

none_held : (off : ℕ) (blob : Blob) → get (empty {X = Blob} {R = nat_cmp}) off ≡ Some blob → ⊥
none_held off blob is =
    let none : get (empty {X = Blob} {R = nat_cmp}) off ≡ None = get-entries (empty {X = Blob} {R = nat_cmp}) off ∙ ap (find nat_cmp off) no_entries in
    let bad : Some blob ≡ None = sym is ∙ none in
    cc

pub nothing_kept : (layout : Layout) → IsKept layout empty
nothing_kept layout = record {
  apart = record {
    filled = λ at blob is. absurd (none_held at blob is);
    limit = λ at blob is. absurd (none_held at blob is);
    apart = λ at next blob other is is_next low. absurd (none_held at blob is);
  };
  blobs = subst (AllByRecursion (λ (entry : Entry). IsBlob layout entry.1)) (sym no_entries) tt;
}
