-- What the trees of a held map give by each index, and whether any of its rows has a flag.
use Rattle.std.proofs.Common.{◌≡◌, ℕ, ℤ, pos, Bool, ◌||◌, ◌==◌, Some, None, Option, true, false, List, [], ◌∷◌, map, drop, refl, sym, ap, ap₂, ◌∙◌, arith, IsPermutation, IsSorted, subst}
use Rattle.std.specs.Prelude.{filter, flat_map, is_some}
use Rattle.std.specs.List.{list_any}
use Rattle.std.proofs.lemmas.List.Elements.{All-from_recursion}
use Rattle.std.proofs.lemmas.List.Sorted.{IsPermutation-trans, list_any-IsPermutation}
use Rattle.sqlite_value.specs.declared.value.Value.TheVariants.{Int}
use Rattle.sqlite_value.specs.Order.{Row, column}
use Rattle.sqlite_value.specs.Keys.{plain, entry_cmp}
use Rattle.sqlite_value.proofs.KeyLemmas.{entry_cmp_total}
use Rattle.sqlite.specs.Values.{or_null}
use Rattle.sqlite_trees.specs.Tree.{Trees}
use Rattle.sqlite_trees.specs.View.{is_int}
use Rattle.sqlite_trees.proofs.ListLemmas.{all-filter, ascending-filter, ascending-map, ascending_weaker}
use Rattle.osm_value.specs.declared.element.MemberKind.{MemberKind}
use Rattle.osm_value.specs.Elements.{tags_of_element, kind_of_element, id_of_element, info_of_element}
use Rattle.osm_rows.specs.declared.load.tables.rows.TableRows.{TableRows}
use Rattle.osm_rows.specs.declared.schema.layout.Layout.TheVariants.{Tables}
use Rattle.osm_rows.specs.Flags.{has_flag, has_flags}
use Rattle.osm_rows.specs.Held.{HeldMap}
use Rattle.osm_rows.specs.LayoutHolding.{IsKept}
use Rattle.osm_rows.specs.Load.TableAnswers.{AreRowsOf}
use Rattle.osm_rows.specs.Load.TableParts.{is_part_at, IsAlone}
use Rattle.osm_rows.specs.Rows.{Placed, IsBefore, element_code, is_in, is_of, placed_in}
use Rattle.osm_rows.specs.TableRows.{flag, element_row, element_rows, tags_at, tag_row, tag_rows, links_of, links_at, link_row, link_rows}
use Rattle.osm_rows.proofs.ListLemmas.SortedLists.{sorted_is}
use Rattle.osm_rows.proofs.MapLemmas.PlacedLaws.{placed_in_rise}
use Rattle.osm_rows.proofs.MapLemmas.PartLaws.{IsPartBefore, all_parts_rise}
use Rattle.osm_rows.proofs.MapLemmas.TableHeld.{parts_of_blob}
use Rattle.osm_rows.proofs.MapLemmas.StoredElements.{all_stored}
use Rattle.osm_tree_writes.specs.Putting.{TreesHold}
use Rattle.osm_tree_audits.specs.Finding.{Finds}
use Rattle.osm_tree_audits.proofs.Orders.{same_all, by_place, by_part, elements_rise, parts_rise}
use Rattle.osm_trees.specs.Below.{is_flagged}
use Rattle.osm_trees.proofs.Found.{found, in_order}
use Rattle.osm_trees.proofs.Keys.{one_number, two_numbers, two_naturals}

by_kind : (r : Row) → map (column (drop 1 r)) (2 ∷ 3 ∷ []) ≡ map (column r) (3 ∷ 4 ∷ [])
by_kind [] = refl
by_kind (x ∷ r) = refl

module _ (db : Trees) (held : HeldMap) (tables : TreesHold Tables held db) where
  pub elements_at : (off : ℕ) (rows : List Row) → Finds (λ r. r) db 3 2 2 (Int (pos off) ∷ []) rows → rows ≡ element_rows (filter (is_in off) (placed_in held))
  elements_at off rows finds =
      finds.are ∙ same_all _
      ∙ in_order element_row (1 ∷ 2 ∷ []) (0 ∷ 1 ∷ []) by_place (Int (pos off) ∷ []) (omega arith) (is_in off) (λ p. one_number p.0 off (Int (pos p.1) ∷ []))
      IsBefore (λ a b before. elements_rise a b [] [] before) (placed_in held) (db 2) (db 3) (placed_in_rise held) finds.shaped finds.ordered tables.obeys.indexed.0 tables.elements.0

  pub tags_in : (off : ℕ) (rows : List Row) → Finds (λ r. r) db 5 4 3 (Int (pos off) ∷ []) rows → rows ≡ tag_rows (filter (is_in off) (placed_in held))
  tags_in off rows finds =
      finds.are ∙ same_all _
      ∙ in_order tag_row (1 ∷ 2 ∷ 3 ∷ []) (0 ∷ 1 ∷ 2 ∷ []) by_part (Int (pos off) ∷ []) (omega arith) (λ x. x.off == off) (λ x. one_number x.off off (Int (pos x.position) ∷ Int (pos x.number) ∷ []))
      (λ x y. IsPartBefore x y) (λ x y before. parts_rise x y before) (flat_map tags_at (placed_in held)) (db 4) (db 5) (all_parts_rise (λ (p : Placed). tags_of_element p.2) (placed_in held) (placed_in_rise held)) finds.shaped finds.ordered tables.obeys.indexed.1.0 tables.elements.1
      ∙ ap (map tag_row) (parts_of_blob (λ (p : Placed). tags_of_element p.2) off (placed_in held))

  pub links_in : (off : ℕ) (rows : List Row) → Finds (λ r. r) db 7 6 3 (Int (pos off) ∷ []) rows → rows ≡ link_rows (filter (is_in off) (placed_in held))
  links_in off rows finds =
      finds.are ∙ same_all _
      ∙ in_order link_row (1 ∷ 2 ∷ 3 ∷ []) (0 ∷ 1 ∷ 2 ∷ []) by_part (Int (pos off) ∷ []) (omega arith) (λ x. x.off == off) (λ x. one_number x.off off (Int (pos x.position) ∷ Int (pos x.number) ∷ []))
      (λ x y. IsPartBefore x y) (λ x y before. parts_rise x y before) (flat_map links_at (placed_in held)) (db 6) (db 7) (all_parts_rise (λ (p : Placed). links_of p.2) (placed_in held) (placed_in_rise held)) finds.shaped finds.ordered tables.obeys.indexed.1.1.0 tables.elements.2
      ∙ ap (map link_row) (parts_of_blob (λ (p : Placed). links_of p.2) off (placed_in held))

  pub its_tags : (p : Placed) → IsAlone (placed_in held) p → (rows : List Row) → Finds (λ r. r) db 5 4 3 (Int (pos p.0) ∷ Int (pos p.1) ∷ []) rows → rows ≡ map tag_row (tags_at p)
  its_tags p alone rows finds =
      finds.are ∙ same_all _
      ∙ in_order tag_row (1 ∷ 2 ∷ 3 ∷ []) (0 ∷ 1 ∷ 2 ∷ []) by_part (Int (pos p.0) ∷ Int (pos p.1) ∷ []) (omega arith) (λ x. is_part_at p.0 p.1 x) (λ x. two_naturals x.off p.0 x.position p.1 (Int (pos x.number) ∷ []))
      (λ x y. IsPartBefore x y) (λ x y before. parts_rise x y before) (flat_map tags_at (placed_in held)) (db 4) (db 5) (all_parts_rise (λ (p : Placed). tags_of_element p.2) (placed_in held) (placed_in_rise held)) finds.shaped finds.ordered tables.obeys.indexed.1.0 tables.elements.1
      ∙ ap (map tag_row) alone.tags

  pub its_links : (p : Placed) → IsAlone (placed_in held) p → (rows : List Row) → Finds (λ r. r) db 7 6 3 (Int (pos p.0) ∷ Int (pos p.1) ∷ []) rows → rows ≡ map link_row (links_at p)
  its_links p alone rows finds =
      finds.are ∙ same_all _
      ∙ in_order link_row (1 ∷ 2 ∷ 3 ∷ []) (0 ∷ 1 ∷ 2 ∷ []) by_part (Int (pos p.0) ∷ Int (pos p.1) ∷ []) (omega arith) (λ x. is_part_at p.0 p.1 x) (λ x. two_naturals x.off p.0 x.position p.1 (Int (pos x.number) ∷ []))
      (λ x y. IsPartBefore x y) (λ x y before. parts_rise x y before) (flat_map links_at (placed_in held)) (db 6) (db 7) (all_parts_rise (λ (p : Placed). links_of p.2) (placed_in held) (placed_in_rise held)) finds.shaped finds.ordered tables.obeys.indexed.1.1.0 tables.elements.2
      ∙ ap (map link_row) alone.links

  -- the index has the elements of one kind and id by their rowids
  pub of_kind_and_id : (kind : MemberKind) (id : ℤ) (rows : List Row) → Finds (λ r. r) db 8 2 2 (Int (pos (element_code kind)) ∷ Int id ∷ []) rows → IsPermutation (element_rows (filter (is_of kind id) (placed_in held))) rows
  of_kind_and_id kind id rows finds =
      let is : rows ≡ _ = finds.are ∙ same_all _ in
      subst (IsPermutation (element_rows (filter (is_of kind id) (placed_in held)))) (sym is)
      (found element_row (3 ∷ 4 ∷ []) (2 ∷ 3 ∷ []) by_kind (Int (pos (element_code kind)) ∷ Int id ∷ []) (omega arith) (is_of kind id)
      (λ p. two_numbers (element_code (kind_of_element p.2)) (element_code kind) (id_of_element p.2) id []) (placed_in held) (db 2) (db 8) finds.shaped tables.obeys.indexed.1.1.1.0 tables.elements.0)

-- rows of elements that are sorted by their columns come by offset and position
pub sorted_elements : (held : HeldMap) (test : Placed → Bool) (found rows : List Row) → IsPermutation (element_rows (filter test (placed_in held))) found → IsPermutation found rows → IsSorted (entry_cmp plain) rows
    → rows ≡ element_rows (filter test (placed_in held))
sorted_elements held test found rows is moved sorted =
    let rises = ascending-map _ element_row (filter test (placed_in held)) (ascending_weaker _ _ (λ a b before. elements_rise a b (drop 2 (element_row a)) (drop 2 (element_row b)) before) _ (ascending-filter IsBefore test (placed_in held) (placed_in_rise held))) in
    sorted_is (entry_cmp plain) (entry_cmp_total plain) (element_rows (filter test (placed_in held))) rows rises (IsPermutation-trans _ _ _ is moved) sorted

-- the rows of some held elements
pub rows_of_some : (held : HeldMap) (test : Placed → Bool) (given : TableRows) → IsKept Tables held → given.elements.items ≡ element_rows (filter test (placed_in held)) → given.tags.items ≡ tag_rows (filter test (placed_in held))
    → given.links.items ≡ link_rows (filter test (placed_in held)) → AreRowsOf given (filter test (placed_in held))
rows_of_some held test given kept elements tags links = record {
  elements = elements;
  tags = tags;
  links = links;
  ascending = ascending-filter IsBefore test (placed_in held) (placed_in_rise held);
  stored = All-from_recursion _ _ (all-filter _ test (placed_in held) (all_stored Tables held kept));
}

-- ---- flags

any_mapped : {A B : Type 0} (f : A → B) (p : B → Bool) (q : A → Bool) (same : (a : A) → p (f a) ≡ q a) (xs : List A) → list_any p (map f xs) ≡ list_any q xs
any_mapped f p q same [] = refl
any_mapped f p q same (x ∷ xs) = ap₂ ◌||◌ (same x) (any_mapped f p q same xs)

abbrev shows_flag : Row → Bool
shows_flag s = is_int (column s 11)

flag_is_int : (visible : Option Bool) → is_int (or_null flag visible) ≡ is_some visible
flag_is_int None = refl
flag_is_int (Some true) = refl
flag_is_int (Some false) = refl

shown_flag : (r : Row) → shows_flag (drop 1 r) ≡ is_flagged r
shown_flag [] = refl
shown_flag (x ∷ r) = refl

pub flags_are : (db : Trees) (held : HeldMap) → TreesHold Tables held db → list_any is_flagged (db 2) ≡ has_flags held
flags_are db held tables =
    sym (any_mapped (drop 1) shows_flag is_flagged shown_flag (db 2)) ∙ sym (list_any-IsPermutation shows_flag _ _ tables.elements.0)
    ∙ any_mapped element_row shows_flag (λ (p : Placed). has_flag p.2) (λ p. flag_is_int (info_of_element p.2).visible) (placed_in held)

-- one row more of those that are left
pub flag_met : (row : Row) (left : List Row) (all : Bool) → is_flagged row ≡ true → list_any is_flagged (row ∷ left) ≡ all → true ≡ all
flag_met row left all is any = sym (ap (λ b. b || list_any is_flagged left) is) ∙ any

pub flag_missed : (row : Row) (left : List Row) (all : Bool) → is_flagged row ≡ false → list_any is_flagged (row ∷ left) ≡ all → list_any is_flagged left ≡ all
flag_missed row left all is any = sym (ap (λ b. b || list_any is_flagged left) is) ∙ any
