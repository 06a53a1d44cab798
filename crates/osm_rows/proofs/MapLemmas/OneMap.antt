-- The rows of a map are those of no other.
use Rattle.std.proofs.Common.{◌≡◌, ◌⊎◌, inl, inr, ℕ, ◌+◌, List, [], ◌∷◌, ◌++◌, length, map, drop, refl, sym, ap, ap₂, ◌∙◌, arith, Less, Equal, IsPermutation}
use Rattle.std.specs.Ordering.{ordering_reverse}
use Rattle.std.specs.Prelude.{flat_map}
use Rattle.std.specs.List.{AllByRecursion}
use Rattle.std.specs.FinMap.{entries, same_entries_map}
use Rattle.std.proofs.lemmas.List.Sorted.{IsPermutation-sym, IsPermutation-trans}
use Rattle.sqlite.specs.declared.types.Value.{Value}
use Rattle.sqlite.specs.Order.{Row, column}
use Rattle.sqlite.specs.Tree.{Trees}
use Rattle.sqlite_trees.specs.Tree.{IsAscending}
use Rattle.sqlite_trees.proofs.ListLemmas.{ascending-map, ascending_weaker, all-permutation}
use Rattle.sqlite_value.specs.Order.{value_cmp}
use Rattle.sqlite_value.proofs.OrderLemmas.{value_cmp_total}
use Rattle.osm_value.specs.declared.element.Element.{Element}
use Rattle.osm_value.specs.Value.{Text, MemberValue}
use Rattle.osm_value.specs.Elements.{tags_of_element}
use Rattle.osm_write.specs.Canon.{canon}
use Rattle.pbf_frame.specs.declared.kind.Kind.{Kind}
use Rattle.pbf_frame.specs.declared.kind.Kind.TheVariants.{OsmHeader, OsmData, Other}
use Rattle.osm_rows.specs.declared.keeper.Extent.{Extent}
use Rattle.osm_rows.specs.declared.schema.layout.Layout.{Layout}
use Rattle.osm_rows.specs.declared.schema.layout.Layout.TheVariants.{Bodies, Tables}
use Rattle.osm_rows.specs.Held.{Blob, HeldMap}
use Rattle.osm_rows.specs.Keeping.{extent_of}
use Rattle.osm_rows.specs.Rows.{Placed, placed, placed_in, IsStored, blob_code, body_row, extent_row}
use Rattle.osm_rows.specs.TableRows.{Part, element_row, tags_at, links_at, links_of, tag_row, tag_rows, link_row, link_rows}
use Rattle.osm_rows.specs.LayoutHolding.{TablesHold, HoldElements, HasRows, IsKept}
use Rattle.osm_rows.proofs.ListLemmas.SortedLists.{same_elements, not_both}
use Rattle.osm_rows.proofs.ListLemmas.NumberOrder.{numbers_below, numbers_tied}
use Rattle.osm_rows.proofs.MapLemmas.PlacedLaws.{Entry, IsBefore, placed_in_rise, within}
use Rattle.osm_rows.proofs.MapLemmas.PartLaws.{IsPartBefore, all_parts_rise}
use Rattle.osm_rows.proofs.MapLemmas.OneElement.{canon_once}
use Rattle.osm_rows.proofs.MapLemmas.SameElements.{same_tables}
use Rattle.osm_rows.proofs.MapLemmas.StoredElements.{all_stored}

-- ---- rows in the order of some columns

abbrev pub Precedes : List ℕ → Row → Row → Type 0
Precedes [] r s = ⊥
Precedes (at ∷ ats) r s = (value_cmp (column r at) (column s at) ≡ Less) ⊎ ((value_cmp (column r at) (column s at) ≡ Equal) × Precedes ats r s)

tied_both : (x y : Value) → value_cmp x y ≡ Equal → value_cmp y x ≡ Less → ⊥
tied_both x y tied less = let flipped = value_cmp_total.antisymm y x in let it : value_cmp y x ≡ Equal = flipped ∙ ap ordering_reverse tied in cc

never_both : (ats : List ℕ) (r s : Row) → Precedes ats r s → Precedes ats s r → ⊥
never_both [] r s p q = p
never_both (at ∷ ats) r s (inl p) (inl q) = not_both (value_cmp (column r at) (column s at)) (value_cmp (column s at) (column r at)) (value_cmp_total.antisymm _ _) p q
never_both (at ∷ ats) r s (inl p) (inr q) = tied_both (column s at) (column r at) q.0 p
never_both (at ∷ ats) r s (inr p) (inl q) = tied_both (column r at) (column s at) p.0 q
never_both (at ∷ ats) r s (inr p) (inr q) = never_both ats r s p.1 q.1

-- rows that ascend by some columns, in any order, are in one order
pub same_rows : (ats : List ℕ) (rows other : List Row) (table : List Row) → IsAscending (Precedes ats) rows → IsAscending (Precedes ats) other → IsPermutation rows table → IsPermutation other table → rows ≡ other
same_rows ats rows other table up vp has has_too =
    let same = IsPermutation-trans _ _ _ has (IsPermutation-sym _ _ has_too) in
    sym (same_elements (Precedes ats) (never_both ats) rows other up vp (λ P. all-permutation P _ _ same) (λ P. all-permutation P _ _ (IsPermutation-sym _ _ same)))

same_table : (ats : List ℕ) (rows other : List Row) (table : List Row) → IsAscending (Precedes ats) rows → IsAscending (Precedes ats) other → HasRows rows table → HasRows other table → rows ≡ other
same_table ats rows other table = same_rows ats rows other (map (drop 1) table)

pub body_before : (a b : Placed) → IsBefore a b → Precedes (0 ∷ 1 ∷ []) (body_row a) (body_row b)
body_before a b (inl low) = inl (numbers_below a.0 b.0 low)
body_before a b (inr h) = inr (numbers_tied a.0 b.0 h.0, inl (numbers_below a.1 b.1 h.1))

pub element_before : (a b : Placed) → IsBefore a b → Precedes (0 ∷ 1 ∷ []) (element_row a) (element_row b)
element_before a b (inl low) = inl (numbers_below a.0 b.0 low)
element_before a b (inr h) = inr (numbers_tied a.0 b.0 h.0, inl (numbers_below a.1 b.1 h.1))

tag_before : (a b : Part (Text × Text)) → IsPartBefore a b → Precedes (0 ∷ 1 ∷ 2 ∷ []) (tag_row a) (tag_row b)
tag_before a b (inl low) = inl (numbers_below a.off b.off low)
tag_before a b (inr (off, inl low)) = inr (numbers_tied a.off b.off off, inl (numbers_below a.position b.position low))
tag_before a b (inr (off, inr (position, low))) = inr (numbers_tied a.off b.off off, inr (numbers_tied a.position b.position position, inl (numbers_below a.number b.number low)))

link_before : (a b : Part MemberValue) → IsPartBefore a b → Precedes (0 ∷ 1 ∷ 2 ∷ []) (link_row a) (link_row b)
link_before a b (inl low) = inl (numbers_below a.off b.off low)
link_before a b (inr (off, inl low)) = inr (numbers_tied a.off b.off off, inl (numbers_below a.position b.position low))
link_before a b (inr (off, inr (position, low))) = inr (numbers_tied a.off b.off off, inr (numbers_tied a.position b.position position, inl (numbers_below a.number b.number low)))

pub rises : {X : Type 0} (ats : List ℕ) (R : X → X → Type 0) (row : X → Row) → ((a b : X) → R a b → Precedes ats (row a) (row b)) → (xs : List X) → IsAscending R xs → IsAscending (Precedes ats) (map row xs)
rises ats R row f xs up = ascending-map (Precedes ats) row xs (ascending_weaker _ _ f xs up)

pub tags_rise : (ps : List Placed) → IsAscending IsBefore ps → IsAscending (Precedes (0 ∷ 1 ∷ 2 ∷ [])) (tag_rows ps)
tags_rise ps up = rises (0 ∷ 1 ∷ 2 ∷ []) (λ x y. IsPartBefore x y) tag_row tag_before (flat_map tags_at ps) (all_parts_rise (λ (p : Placed). tags_of_element p.2) ps up)

pub links_rise : (ps : List Placed) → IsAscending IsBefore ps → IsAscending (Precedes (0 ∷ 1 ∷ 2 ∷ [])) (link_rows ps)
links_rise ps up = rises (0 ∷ 1 ∷ 2 ∷ []) (λ x y. IsPartBefore x y) link_row link_before (flat_map links_at ps) (all_parts_rise (λ (p : Placed). links_of p.2) ps up)

-- ---- from rows back to elements

pub same_bodies : (ps qs : List Placed) → AllByRecursion (λ (p : Placed). IsStored Bodies p.2) ps → AllByRecursion (λ (p : Placed). IsStored Bodies p.2) qs → map body_row ps ≡ map body_row qs → ps ≡ qs
same_bodies [] [] hp hq is = refl
same_bodies [] (q ∷ qs) hp hq is = absurd (cc)
same_bodies (p ∷ ps) [] hp hq is = absurd (cc)
same_bodies (p ∷ ps) (q ∷ qs) hp hq is =
    let off : p.0 ≡ q.0 = cc in
    let position : p.1 ≡ q.1 = cc in
    let block : canon (p.2 ∷ []) ≡ canon (q.2 ∷ []) = cc in
    let more : map body_row ps ≡ map body_row qs = cc in
    let element = canon_once p.2 q.2 hp.0.0 hp.0.1 hq.0.0 hq.0.1 block in
    let make : ℕ → ℕ → Element → Placed = λ a b e. (a, b, e) in
    ap₂ ◌∷◌ (ap (λ n. make n p.1 p.2) off ∙ ap (λ n. make q.0 n p.2) position ∙ ap (make q.0 q.1) element) (same_bodies ps qs hp.1 hq.1 more)

same_placed : (layout : Layout) (one other : HeldMap) (db : Trees) → IsKept layout one → IsKept layout other → HoldElements layout (placed_in one) db → HoldElements layout (placed_in other) db → placed_in one ≡ placed_in other
same_placed Bodies one other db kept kept_too has has_too =
    let up = rises (0 ∷ 1 ∷ []) IsBefore body_row body_before (placed_in one) (placed_in_rise one) in
    let vp = rises (0 ∷ 1 ∷ []) IsBefore body_row body_before (placed_in other) (placed_in_rise other) in
    same_bodies (placed_in one) (placed_in other) (all_stored Bodies one kept) (all_stored Bodies other kept_too) (same_table (0 ∷ 1 ∷ []) _ _ (db 2) up vp has has_too)
same_placed Tables one other db kept kept_too has has_too =
    let rise = placed_in_rise one in
    let rise_too = placed_in_rise other in
    let up = rises (0 ∷ 1 ∷ []) IsBefore element_row element_before (placed_in one) rise in
    let vp = rises (0 ∷ 1 ∷ []) IsBefore element_row element_before (placed_in other) rise_too in
    same_tables (placed_in one) (placed_in other) rise rise_too (same_table (0 ∷ 1 ∷ []) _ _ (db 2) up vp has.0 has_too.0)
    (same_table (0 ∷ 1 ∷ 2 ∷ []) _ _ (db 4) (tags_rise (placed_in one) rise) (tags_rise (placed_in other) rise_too) has.1 has_too.1)
    (same_table (0 ∷ 1 ∷ 2 ∷ []) _ _ (db 6) (links_rise (placed_in one) rise) (links_rise (placed_in other) rise_too) has.2 has_too.2)

-- ---- from extents and elements back to blobs

pub same_kind : (j k : Kind) → blob_code j ≡ blob_code k → j ≡ k
same_kind OsmHeader OsmHeader e = refl
same_kind OsmHeader OsmData e = absurd (omega arith)
same_kind OsmHeader Other e = absurd (omega arith)
same_kind OsmData OsmHeader e = absurd (omega arith)
same_kind OsmData OsmData e = refl
same_kind OsmData Other e = absurd (omega arith)
same_kind Other OsmHeader e = absurd (omega arith)
same_kind Other OsmData e = absurd (omega arith)
same_kind Other Other e = refl

record Same (d e : Extent) : Type 0 where
  off : d.off ≡ e.off
  fin : d.fin ≡ e.fin
  digest : d.digest ≡ e.digest
  kind : d.kind ≡ e.kind
  n : d.n ≡ e.n

same_row : (d e : Extent) → extent_row d ≡ extent_row e → Same d e
same_row d e is =
    let off : d.off ≡ e.off = cc in
    let fin : d.fin ≡ e.fin = cc in
    let digest : d.digest ≡ e.digest = cc in
    let code : blob_code d.kind ≡ blob_code e.kind = cc in
    let n : d.n ≡ e.n = cc in
    record { off = off; fin = fin; digest = digest; kind = same_kind d.kind e.kind code; n = n }

-- two lists of one length, and what follows each
same_front : (off position : ℕ) (xs ys : List Element) (rest other : List Placed) → length xs ≡ length ys → placed off position xs ++ rest ≡ placed off position ys ++ other → (xs ≡ ys) × (rest ≡ other)
same_front off position [] [] rest other len is = (refl, is)
same_front off position [] (y ∷ ys) rest other len is = absurd (cc)
same_front off position (x ∷ xs) [] rest other len is = absurd (cc)
same_front off position (x ∷ xs) (y ∷ ys) rest other len is =
    let first : ◌≡◌ {A = Placed} (off, position, x) (off, position, y) = cc in
    let head : x ≡ y = ap (λ (p : Placed). p.2) first in
    let more : placed off (position + 1) xs ++ rest ≡ placed off (position + 1) ys ++ other = cc in
    let shorter : length xs ≡ length ys = cc in
    let tail = same_front off (position + 1) xs ys rest other shorter more in
    (ap₂ ◌∷◌ head tail.0, tail.1)

pub same_blob : (a b : Blob) → a.fin ≡ b.fin → a.digest ≡ b.digest → a.kind ≡ b.kind → a.elements ≡ b.elements → a ≡ b
same_blob a b fin digest kind elements =
    let make : ℕ → List ℕ → Kind → List Element → Blob = λ f d k e. record { fin = f; digest = d; kind = k; elements = e } in
    ap (λ x. make x a.digest a.kind a.elements) fin ∙ ap (λ x. make b.fin x a.kind a.elements) digest ∙ ap (λ x. make b.fin b.digest x a.elements) kind ∙ ap (make b.fin b.digest b.kind) elements

same_entry : (d e : Entry) → d.0 ≡ e.0 → d.1 ≡ e.1 → d ≡ e
same_entry d e off blob =
    let make : ℕ → Blob → Entry = λ n b. (n, b) in
    ap₂ make off blob

same_entries : (es fs : List Entry) → map extent_row (map extent_of es) ≡ map extent_row (map extent_of fs) → flat_map within es ≡ flat_map within fs → es ≡ fs
same_entries [] [] extents elements = refl
same_entries [] (f ∷ fs) extents elements = absurd (cc)
same_entries (e ∷ es) [] extents elements = absurd (cc)
same_entries (e ∷ es) (f ∷ fs) extents elements =
    let head : extent_row (extent_of e) ≡ extent_row (extent_of f) = cc in
    let tail : map extent_row (map extent_of es) ≡ map extent_row (map extent_of fs) = cc in
    let same = same_row (extent_of e) (extent_of f) head in
    let there : placed e.0 0 e.1.elements ++ flat_map within es ≡ placed e.0 0 f.1.elements ++ flat_map within fs
    = elements ∙ ap (λ off. placed off 0 f.1.elements ++ flat_map within fs) (sym same.off) in
    let both = same_front e.0 0 e.1.elements f.1.elements _ _ same.n there in
    ap₂ ◌∷◌ (same_entry e f same.off (same_blob e.1 f.1 same.fin same.digest same.kind both.0)) (same_entries es fs tail both.1)

-- whatever else the trees are
pub one_map_of : (layout : Layout) (one other : HeldMap) (db : Trees) → IsKept layout one → IsKept layout other → db 1 ≡ map extent_row (map extent_of (entries one)) → db 1 ≡ map extent_row (map extent_of (entries other))
    → HoldElements layout (placed_in one) db → HoldElements layout (placed_in other) db → one ≡ other
one_map_of layout one other db kept kept_too blob blob_too elements elements_too =
    same_entries_map one other (same_entries (entries one) (entries other) (sym blob ∙ blob_too) (same_placed layout one other db kept kept_too elements elements_too))

pub one_map : (layout : Layout) (one other : HeldMap) (db : Trees) → IsKept layout one → IsKept layout other → TablesHold layout one db → TablesHold layout other db → one ≡ other
one_map layout one other db kept kept_too tables tables_too = one_map_of layout one other db kept kept_too tables.blob tables_too.blob tables.elements tables_too.elements
