-- The rows at an offset that the indexes of the primary keys find, where each index has one entry for each row.
use Rattle.std.proofs.Common.{◌≡◌, inr, ℕ, ℤ, pos, ◌<◌, ◌+◌, Bool, true, false, Less, is_eq, List, [], ◌∷◌, map, flat_map, filter, drop, length, Some, refl, sym, ap, subst, ◌∙◌, arith, IsPermutation}
use Rattle.std.specs.Prelude.{◌↔◌}
use Rattle.sqlite_value.specs.declared.value.Value.{Value}
use Rattle.sqlite_value.specs.declared.value.Value.TheVariants.{Null, Int, Real, Text, Blob as Octets}
use Rattle.sqlite_value.specs.Order.{Row, column, value_cmp}
use Rattle.sqlite_value.specs.Keys.{plain, entry_cmp}
use Rattle.sqlite.specs.Collation.TheVariants.{Binary}
use Rattle.sqlite.specs.Ops.{binary, is_true, from_truth}
use Rattle.sqlite_sql.specs.declared.ops.CompareOp.TheVariants.{Eq}
use Rattle.sqlite_sql.specs.declared.ops.BinaryOp.TheVariants.{Compare}
use Rattle.sqlite_sql.specs.Catalog.{IsIndexOf}
use Rattle.sqlite_trees.specs.declared.store.Shape.TheVariants.{Table}
use Rattle.sqlite_trees.specs.Tree.{Trees, IsAscending, IsIndex}
use Rattle.sqlite_trees.specs.View.{IsShaped}
use Rattle.sqlite_trees.proofs.ListLemmas.{ascending_weaker}
use Rattle.sqlite_trees.proofs.TreeLemmas.{prefix_cmp-one}
use Rattle.sqlite_exec.specs.Plan.{resolved}
use Rattle.osm_value.specs.declared.element.Element.{Element}
use Rattle.osm_value.specs.Elements.{tags_of_element}
use Rattle.pbf_frame.specs.declared.kind.Kind.TheVariants.{Other}
use Rattle.osm_rows.specs.Audit.{is_at}
use Rattle.osm_rows.specs.Rows.{Placed, IsBefore, placed}
use Rattle.osm_rows.specs.TableRows.{element_row, element_rows, tags_at, tag_row, tag_rows, links_of, links_at, link_row, link_rows}
use Rattle.osm_rows.proofs.AuditLemmas.HeldRows.{filter_same}
use Rattle.osm_rows.proofs.LoadLemmas.ShownRows.{ascending_among}
use Rattle.osm_rows.proofs.MapLemmas.PartLaws.{all_parts_rise}
use Rattle.osm_rows.proofs.MapLemmas.PlacedLaws.{Entry, here, by_position}
use Rattle.osm_tree_writes.specs.Putting.{IsIndexedStore}
use Rattle.osm_tree_audits.specs.Finding.{Finds, starts}
use Rattle.osm_tree_audits.specs.Auditing.{KeepsAt}
use Rattle.osm_tree_audits.specs.declared.tables.ElementTable.{ElementTable}
use Rattle.osm_tree_audits.specs.declared.tables.ElementTable.TheVariants.{Elements, Tags, Links}
use Rattle.osm_tree_audits.specs.ElementTables.{index_of, table_of, width_of, rows_in}
use Rattle.osm_tree_audits.proofs.Found.{begins, exactly}
use Rattle.osm_tree_audits.proofs.Orders.{same_all, by_place, by_part, elements_rise, parts_rise}

-- ---- a key of one number is what SQL finds equal

truth_of : (b : Bool) → is_true (from_truth (Some b)) ≡ b
truth_of true = refl
truth_of false = refl

pub equal_is : (v : Value) (n : ℤ) → is_true (binary (Compare Eq Binary) v (Int n)) ≡ is_eq (value_cmp v (Int n))
unfolding binary value_cmp
equal_is Null n = refl
equal_is (Int m) n = truth_of (is_eq (value_cmp (Int m) (Int n)))
equal_is (Real x) n = truth_of (is_eq (value_cmp (Real x) (Int n)))
equal_is (Text t) n = truth_of (is_eq (value_cmp (Text t) (Int n)))
equal_is (Octets b) n = truth_of (is_eq (value_cmp (Octets b) (Int n)))

module _ (cs more : List ℕ) (same : (r : Row) → map (column (drop 1 r)) (0 ∷ more) ≡ map (column r) cs) (off : ℕ) (short : 1 < length cs + 1) where
  begins_is : (s : Row) → begins cs (0 ∷ more) same (Int (pos off) ∷ []) (omega (arith, short)) s ≡ is_at off s
  unfolding begins
  begins_is s = ap is_eq (prefix_cmp-one (column s 0) (map (column s) more) (Int (pos off))) ∙ sym (equal_is (column s 0) (pos off))

  -- the rows at the offset are these exactly where the index finds these
  told : {X : Type 0} (row : X → Row) (xs : List X) → IsAscending (λ a b. entry_cmp plain (map (column (row a)) (0 ∷ more)) (map (column (row b)) (0 ∷ more)) ≡ Less) xs
      → (rows entries got : List Row) → IsShaped Table rows → IsIndex plain entries → IsIndexOf cs rows entries
      → got ≡ map (λ r. r) (map (drop 1) (flat_map (resolved rows (length cs)) (filter (starts (Int (pos off) ∷ [])) entries)))
      → (got ≡ map row xs) ↔ KeepsAt off (map row xs) rows
  told row xs rises rows entries got table up is are =
      let all = exactly cs (0 ∷ more) same (Int (pos off) ∷ []) (omega (arith, short)) row xs rises rows entries got table up is (are ∙ same_all _) in
      subst (λ l. (got ≡ map row xs) ↔ IsPermutation (map row xs) l) (filter_same _ _ begins_is (map (drop 1) rows)) all

-- ---- the elements of one blob ascend, and so do their parts

placed_ascend : (off : ℕ) (es : List Element) → IsAscending IsBefore (placed off 0 es)
placed_ascend off es =
    let entry : Entry = (off, record { fin = 0; digest = []; kind = Other; elements = es }) in
    ascending_among (λ (p : Placed). p.0 ≡ off) (λ (a b : Placed). a.1 < b.1) IsBefore (λ a b at too low. inr (at ∙ sym too, low)) (placed off 0 es) (here entry) (by_position entry)

-- ---- each table

module _ (db : Trees) (indexed : IsIndexedStore db) (off : ℕ) (es : List Element) (rows : List Row) where
  elements_told : Finds (λ r. r) db 3 2 2 (Int (pos off) ∷ []) rows → (rows ≡ element_rows (placed off 0 es)) ↔ KeepsAt off (element_rows (placed off 0 es)) (db 2)
  elements_told finds =
      told (1 ∷ 2 ∷ []) (1 ∷ []) by_place off (omega arith) element_row (placed off 0 es) (ascending_weaker _ _ (λ (a b : Placed) before. elements_rise a b [] [] before) _ (placed_ascend off es)) (db 2) (db 3) rows finds.shaped finds.ordered indexed.0 finds.are

  tags_told : Finds (λ r. r) db 5 4 3 (Int (pos off) ∷ []) rows → (rows ≡ tag_rows (placed off 0 es)) ↔ KeepsAt off (tag_rows (placed off 0 es)) (db 4)
  tags_told finds =
      told (1 ∷ 2 ∷ 3 ∷ []) (1 ∷ 2 ∷ []) by_part off (omega arith) tag_row (flat_map tags_at (placed off 0 es))
      (ascending_weaker _ _ parts_rise _ (all_parts_rise (λ (p : Placed). tags_of_element p.2) (placed off 0 es) (placed_ascend off es))) (db 4) (db 5) rows finds.shaped finds.ordered indexed.1.0 finds.are

  links_told : Finds (λ r. r) db 7 6 3 (Int (pos off) ∷ []) rows → (rows ≡ link_rows (placed off 0 es)) ↔ KeepsAt off (link_rows (placed off 0 es)) (db 6)
  links_told finds =
      told (1 ∷ 2 ∷ 3 ∷ []) (1 ∷ 2 ∷ []) by_part off (omega arith) link_row (flat_map links_at (placed off 0 es))
      (ascending_weaker _ _ parts_rise _ (all_parts_rise (λ (p : Placed). links_of p.2) (placed off 0 es) (placed_ascend off es))) (db 6) (db 7) rows finds.shaped finds.ordered indexed.1.1.0 finds.are

  pub rows_told : (of : ElementTable) → Finds (λ r. r) db (index_of of) (table_of of) (width_of of) (Int (pos off) ∷ []) rows → (rows ≡ rows_in of (placed off 0 es)) ↔ KeepsAt off (rows_in of (placed off 0 es)) (db (table_of of))
  rows_told Elements finds = elements_told finds
  rows_told Tags finds = tags_told finds
  rows_told Links finds = links_told finds
