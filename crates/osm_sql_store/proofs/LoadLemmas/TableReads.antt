-- What each query on the layout of tables reads.
use Rattle.std.proofs.Common.{◌≡◌, inl, inr, ℕ, ℤ, pos, Bool, true, ◌&&◌, ◌==◌, List, [], ◌∷◌, map, refl, ap, ap₂, ◌∙◌, Less, Equal}
use Rattle.std.specs.Prelude.{filter, flat_map}
use Rattle.std.specs.Ordering.{ordering_then}
use Rattle.sqlite.specs.declared.types.Value.TheVariants.{Null, Int}
use Rattle.sqlite.specs.Order.{Row, column}
use Rattle.sqlite.specs.Query.{Output}
use Rattle.sqlite.specs.Program.{overlay}
use Rattle.sqlite.specs.State.{State, Shown}
use Rattle.sqlite.proofs.Callers.{reads_as}
use Rattle.sqlite_sql.specs.declared.ops.CompareOp.TheVariants.{Eq}
use Rattle.sqlite_value.specs.Order.{value_cmp}
use Rattle.sqlite_trees.specs.Tree.{IsAscending}
use Rattle.sqlite_trees.proofs.ListLemmas.{ascending_weaker, ascending-filter}
use Rattle.osm_value.specs.declared.element.MemberKind.{MemberKind}
use Rattle.osm_value.specs.Value.{Text, MemberValue}
use Rattle.osm_value.specs.Elements.{tags_of_element, kind_of_element, id_of_element}
use Rattle.osm_sql_store.specs.declared.schema.sql.TheConstants.{SELECT_ELEMENTS, SELECT_TAGS, SELECT_LINKS, FIND_ELEMENTS, SELECT_ITS_TAGS, SELECT_ITS_LINKS}
use Rattle.osm_rows.specs.Schema.Tables.{table_schema}
use Rattle.osm_rows.specs.Rows.{Placed, element_code, is_in, is_of}
use Rattle.osm_rows.specs.Load.TableParts.{is_part_at}
use Rattle.osm_rows.specs.TableRows.{Part, element_row, tags_at, tag_row, links_at, links_of, link_row}
use Rattle.osm_sql_store.proofs.LoadLemmas.OneTable.{answer_is}
use Rattle.osm_rows.proofs.ListLemmas.CompareLemmas.{same_number, same_int}
use Rattle.osm_rows.proofs.ListLemmas.NumberOrder.{numbers_below, numbers_tied}
use Rattle.osm_rows.proofs.MapLemmas.PartLaws.{IsPartBefore, all_parts_rise}
use Rattle.osm_rows.proofs.LoadLemmas.ShownRows.{columns_at, HasTables, five_places, six_places, twelve_places}
use Rattle.osm_sql_store.proofs.LoadLemmas.ReadLemmas.{and_true, alone, is, in_order}
use Rattle.osm_sql_store.proofs.LoadLemmas.TableTexts.{element_shown, tag_shown, link_shown, by_place, by_part, at_off, at_place, of_kind_and_id, elements_are, tags_are, links_are, found_are, its_tags_are, its_links_are}

-- a part of an element in the blob at this offset
abbrev pub is_part_in : {A : Type 0} → ℕ → Part A → Bool
is_part_in off x = x.off == off

-- parts in the order of a query
pub parts_in_order : {A : Type 0} (x y : Part A) → IsPartBefore x y
    → ordering_then (value_cmp (Int (pos x.off)) (Int (pos y.off))) (ordering_then (value_cmp (Int (pos x.position)) (Int (pos y.position))) (ordering_then (value_cmp (Int (pos x.number)) (Int (pos y.number))) Equal)) ≡ Less
parts_in_order x y (inl low) =
    ap (λ o. ordering_then o (ordering_then (value_cmp (Int (pos x.position)) (Int (pos y.position))) (ordering_then (value_cmp (Int (pos x.number)) (Int (pos y.number))) Equal))) (numbers_below x.off y.off low)
parts_in_order x y (inr (off, inl low)) =
    ap₂ (λ o p. ordering_then o (ordering_then p (ordering_then (value_cmp (Int (pos x.number)) (Int (pos y.number))) Equal))) (numbers_tied x.off y.off off) (numbers_below x.position y.position low)
parts_in_order x y (inr (off, inr (position, low))) =
    ap₂ (λ o p. ordering_then o (ordering_then p (ordering_then (value_cmp (Int (pos x.number)) (Int (pos y.number))) Equal))) (numbers_tied x.off y.off off) (numbers_tied x.position y.position position)
    ∙ ap (λ o. ordering_then Equal (ordering_then Equal (ordering_then o Equal))) (numbers_below x.number y.number low)

abbrev pub element_output : Row → Output
element_output v = (column v 0 ∷ column v 1 ∷ [], column v 0 ∷ column v 1 ∷ column v 2 ∷ column v 3 ∷ column v 4 ∷ column v 5 ∷ column v 6 ∷ column v 7 ∷ column v 8 ∷ column v 9 ∷ column v 10 ∷ column v 11 ∷ [])

abbrev pub tag_output : Row → Output
tag_output v = (column v 0 ∷ column v 1 ∷ column v 2 ∷ [], column v 0 ∷ column v 1 ∷ column v 2 ∷ column v 3 ∷ column v 4 ∷ [])

abbrev pub link_output : Row → Output
link_output v = (column v 0 ∷ column v 1 ∷ column v 2 ∷ [], column v 0 ∷ column v 1 ∷ column v 2 ∷ column v 3 ∷ column v 4 ∷ column v 5 ∷ [])

module _ (old new : State) (rows : List Row) (held : List Placed) (h : HasTables old.now held) where
  pub elements_read : (off : ℕ) → Shown SELECT_ELEMENTS.now (Int (pos off) ∷ []) old new rows → rows ≡ map element_row (filter (is_in off) held)
  elements_read off shown =
      let params = Int (pos off) ∷ [] in
      let read = reads_as SELECT_ELEMENTS.now params old new table_schema h.schema _ elements_are.0 elements_are.2 elements_are.1 rows shown in
      answer_is 2 at_off element_shown by_place (overlay old.now.trees []) params rows (columns_at twelve_places) element_row held h.elements
      (λ v. is Eq (column v 0) (Int (pos off)) && true) (λ r. refl) element_output (λ r. refl)
      (is_in off) (λ x. rw (same_number x.0 off) (alone (x.0 == off)))
      (ascending-filter _ (is_in off) held (ascending_weaker _ _ in_order held h.ascending)) (read.answer Null)

  pub found_read : (kind : MemberKind) (id : ℤ) → Shown FIND_ELEMENTS.now (Int (pos (element_code kind)) ∷ Int id ∷ []) old new rows → rows ≡ map element_row (filter (is_of kind id) held)
  found_read kind id shown =
      let params = Int (pos (element_code kind)) ∷ Int id ∷ [] in
      let read = reads_as FIND_ELEMENTS.now params old new table_schema h.schema _ found_are.0 found_are.2 found_are.1 rows shown in
      answer_is 2 of_kind_and_id element_shown by_place (overlay old.now.trees []) params rows (columns_at twelve_places) element_row held h.elements
      (λ v. is Eq (column v 2) (Int (pos (element_code kind))) && (is Eq (column v 3) (Int id) && true)) (λ r. refl) element_output (λ r. refl)
      (is_of kind id) (λ x. rw (same_number (element_code (kind_of_element x.2)) (element_code kind), same_int (id_of_element x.2) id) (and_true (element_code (kind_of_element x.2) == element_code kind) _))
      (ascending-filter _ (is_of kind id) held (ascending_weaker _ _ in_order held h.ascending)) (read.answer Null)

  tags_rise : IsAscending (λ (x y : Part (Text × Text)). IsPartBefore x y) (flat_map tags_at held)
  tags_rise = all_parts_rise (λ (p : Placed). tags_of_element p.2) held h.ascending

  links_rise : IsAscending (λ (x y : Part MemberValue). IsPartBefore x y) (flat_map links_at held)
  links_rise = all_parts_rise (λ (p : Placed). links_of p.2) held h.ascending

  pub tags_read : (off : ℕ) → Shown SELECT_TAGS.now (Int (pos off) ∷ []) old new rows → rows ≡ map tag_row (filter (is_part_in off) (flat_map tags_at held))
  tags_read off shown =
      let params = Int (pos off) ∷ [] in
      let read = reads_as SELECT_TAGS.now params old new table_schema h.schema _ tags_are.0 tags_are.2 tags_are.1 rows shown in
      answer_is 4 at_off tag_shown by_part (overlay old.now.trees []) params rows (columns_at five_places) tag_row (flat_map tags_at held) h.tags
      (λ v. is Eq (column v 0) (Int (pos off)) && true) (λ r. refl) tag_output (λ r. refl)
      (is_part_in off) (λ x. rw (same_number x.off off) (alone (x.off == off)))
      (ascending-filter _ (is_part_in off) (flat_map tags_at held) (ascending_weaker _ _ parts_in_order (flat_map tags_at held) tags_rise)) (read.answer Null)

  pub links_read : (off : ℕ) → Shown SELECT_LINKS.now (Int (pos off) ∷ []) old new rows → rows ≡ map link_row (filter (is_part_in off) (flat_map links_at held))
  links_read off shown =
      let params = Int (pos off) ∷ [] in
      let read = reads_as SELECT_LINKS.now params old new table_schema h.schema _ links_are.0 links_are.2 links_are.1 rows shown in
      answer_is 6 at_off link_shown by_part (overlay old.now.trees []) params rows (columns_at six_places) link_row (flat_map links_at held) h.links
      (λ v. is Eq (column v 0) (Int (pos off)) && true) (λ r. refl) link_output (λ r. refl)
      (is_part_in off) (λ x. rw (same_number x.off off) (alone (x.off == off)))
      (ascending-filter _ (is_part_in off) (flat_map links_at held) (ascending_weaker _ _ parts_in_order (flat_map links_at held) links_rise)) (read.answer Null)

  pub its_tags_read : (off position : ℕ) → Shown SELECT_ITS_TAGS.now (Int (pos off) ∷ Int (pos position) ∷ []) old new rows → rows ≡ map tag_row (filter (is_part_at off position) (flat_map tags_at held))
  its_tags_read off position shown =
      let params = Int (pos off) ∷ Int (pos position) ∷ [] in
      let read = reads_as SELECT_ITS_TAGS.now params old new table_schema h.schema _ its_tags_are.0 its_tags_are.2 its_tags_are.1 rows shown in
      answer_is 4 at_place tag_shown by_part (overlay old.now.trees []) params rows (columns_at five_places) tag_row (flat_map tags_at held) h.tags
      (λ v. is Eq (column v 0) (Int (pos off)) && (is Eq (column v 1) (Int (pos position)) && true)) (λ r. refl) tag_output (λ r. refl)
      (is_part_at off position) (λ x. rw (same_number x.off off, same_number x.position position) (and_true (x.off == off) (x.position == position)))
      (ascending-filter _ (is_part_at off position) (flat_map tags_at held) (ascending_weaker _ _ parts_in_order (flat_map tags_at held) tags_rise)) (read.answer Null)

  pub its_links_read : (off position : ℕ) → Shown SELECT_ITS_LINKS.now (Int (pos off) ∷ Int (pos position) ∷ []) old new rows → rows ≡ map link_row (filter (is_part_at off position) (flat_map links_at held))
  its_links_read off position shown =
      let params = Int (pos off) ∷ Int (pos position) ∷ [] in
      let read = reads_as SELECT_ITS_LINKS.now params old new table_schema h.schema _ its_links_are.0 its_links_are.2 its_links_are.1 rows shown in
      answer_is 6 at_place link_shown by_part (overlay old.now.trees []) params rows (columns_at six_places) link_row (flat_map links_at held) h.links
      (λ v. is Eq (column v 0) (Int (pos off)) && (is Eq (column v 1) (Int (pos position)) && true)) (λ r. refl) link_output (λ r. refl)
      (is_part_at off position) (λ x. rw (same_number x.off off, same_number x.position position) (and_true (x.off == off) (x.position == position)))
      (ascending-filter _ (is_part_at off position) (flat_map links_at held) (ascending_weaker _ _ parts_in_order (flat_map links_at held) links_rise)) (read.answer Null)
