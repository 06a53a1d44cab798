-- What each query on the table of bodies reads.
use Rattle.std.proofs.Common.{◌≡◌, ℕ, ℤ, pos, true, ◌&&◌, ◌==◌, List, [], ◌∷◌, map, refl}
use Rattle.std.specs.Prelude.{filter}
use Rattle.sqlite.specs.declared.types.Value.TheVariants.{Null, Int}
use Rattle.sqlite.specs.Order.{Row, column}
use Rattle.sqlite.specs.Term.{col}
use Rattle.sqlite.specs.Query.{Output}
use Rattle.sqlite.specs.Program.{overlay}
use Rattle.sqlite.specs.Effect.{Database}
use Rattle.sqlite.specs.State.{State, Shown}
use Rattle.sqlite.proofs.Callers.{reads_as}
use Rattle.sqlite_sql.specs.declared.ops.CompareOp.TheVariants.{Eq}
use Rattle.sqlite_trees.proofs.ListLemmas.{ascending_weaker, ascending-filter}
use Rattle.osm_value.specs.declared.element.MemberKind.{MemberKind}
use Rattle.osm_value.specs.Elements.{kind_of_element, id_of_element}
use Rattle.osm_rows.specs.Held.{HeldMap}
use Rattle.osm_rows.specs.LayoutHolding.{TablesHold}
use Rattle.osm_rows.specs.Rows.{Placed, body_row, element_code, is_in, is_of, placed_in}
use Rattle.osm_rows.specs.Schema.Bodies.{body_schema}
use Rattle.osm_rows.specs.declared.schema.layout.Layout.TheVariants.{Bodies}
use Rattle.osm_rows.proofs.ListLemmas.CompareLemmas.{same_number, same_int}
use Rattle.osm_rows.proofs.LoadLemmas.ShownRows.{HasElements, columns_at}
use Rattle.osm_rows.proofs.MapLemmas.HeldLemmas.{elements_among}
use Rattle.osm_sql_store.proofs.LoadLemmas.OneTable.{answer_is}
use Rattle.osm_sql_store.proofs.LoadLemmas.ReadLemmas.{is, alone, and_true, in_order}
use Rattle.osm_sql_store.proofs.LoadLemmas.SharedTexts.{compares}
use Rattle.osm_old_store.specs.declared.schema.sql.TheConstants.{SELECT_BODIES, FIND_BODIES}
use Rattle.osm_old_store.proofs.LoadLemmas.BodyTexts.{body_shown, body_order, rows_are, element_is}

-- what the table of a held map has, for queries
pub has_elements : (db : Database) (held : HeldMap) → db.schema ≡ body_schema → TablesHold Bodies held db.trees → HasElements db (placed_in held)
has_elements db held schema tables = elements_among db held schema tables.elements

abbrev pub body_output : Row → Output
body_output v = (column v 0 ∷ column v 1 ∷ [], column v 0 ∷ column v 1 ∷ column v 2 ∷ column v 3 ∷ column v 4 ∷ [])

module _ (old new : State) (rows : List Row) (held : List Placed) (h : HasElements old.now held) where
  pub element_read : (kind : MemberKind) (id : ℤ) → Shown FIND_BODIES.now (Int (pos (element_code kind)) ∷ Int id ∷ []) old new rows → rows ≡ map body_row (filter (is_of kind id) held)
  element_read kind id shown =
      let params = Int (pos (element_code kind)) ∷ Int id ∷ [] in
      let read = reads_as FIND_BODIES.now params old new body_schema h.schema _ element_is.0 element_is.2 element_is.1 rows shown in
      answer_is 2 (compares Eq (col 1 3) (col 0 0) ∷ compares Eq (col 1 4) (col 0 1) ∷ []) body_shown body_order (overlay old.now.trees []) params rows
      (columns_at (1 ∷ 2 ∷ 3 ∷ 4 ∷ 5 ∷ [])) body_row held h.rows
      (λ v. is Eq (column v 2) (Int (pos (element_code kind))) && (is Eq (column v 3) (Int id) && true)) (λ r. refl) body_output (λ r. refl)
      (is_of kind id) (λ x. rw (same_number (element_code (kind_of_element x.2)) (element_code kind), same_int (id_of_element x.2) id) (and_true (element_code (kind_of_element x.2) == element_code kind) _))
      (ascending-filter _ (is_of kind id) held (ascending_weaker _ _ in_order held h.ascending)) (read.answer Null)

  pub rows_read : (off : ℕ) → Shown SELECT_BODIES.now (Int (pos off) ∷ []) old new rows → rows ≡ map body_row (filter (is_in off) held)
  rows_read off shown =
      let params = Int (pos off) ∷ [] in
      let read = reads_as SELECT_BODIES.now params old new body_schema h.schema _ rows_are.0 rows_are.2 rows_are.1 rows shown in
      answer_is 2 (compares Eq (col 1 1) (col 0 0) ∷ []) body_shown body_order (overlay old.now.trees []) params rows
      (columns_at (1 ∷ 2 ∷ 3 ∷ 4 ∷ 5 ∷ [])) body_row held h.rows
      (λ v. is Eq (column v 0) (Int (pos off)) && true) (λ r. refl) body_output (λ r. refl)
      (is_in off) (λ x. rw (same_number x.0 off) (alone (x.0 == off)))
      (ascending-filter _ (is_in off) held (ascending_weaker _ _ in_order held h.ascending)) (read.answer Null)
