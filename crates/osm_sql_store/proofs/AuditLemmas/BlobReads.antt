-- What the queries for the rows of one blob say of the tables, whatever rows these have.
use Rattle.std.proofs.Common.{◌≡◌, ◌<◌, inr, ℕ, pos, true, false, List, [], ◌∷◌, refl, sym, ◌∙◌}
use Rattle.std.specs.Prelude.{flat_map, ◌↔◌}
use Rattle.sqlite.specs.declared.types.Value.TheVariants.{Null, Int}
use Rattle.sqlite.specs.Command.TheVariants.{Select}
use Rattle.sqlite.specs.Order.{Row}
use Rattle.sqlite.specs.Program.{overlay}
use Rattle.sqlite.specs.State.{State}
use Rattle.sqlite.specs.Term.{col}
use Rattle.sqlite.specs.Listing.{understood, reads_listing}
use Rattle.sqlite.proofs.Callers.{reads_as, IsPlain, command_of}
use Rattle.sqlite_sql.specs.declared.ops.CompareOp.TheVariants.{Eq}
use Rattle.sqlite_tied.specs.Compute.{everything}
use Rattle.sqlite_trees.specs.Tree.{IsAscending}
use Rattle.sqlite_trees.proofs.ListLemmas.{ascending_weaker}
use Rattle.osm_value.specs.declared.element.Element.{Element}
use Rattle.osm_value.specs.Elements.{tags_of_element}
use Rattle.osm_rows.specs.Audit.{is_at, HasAt}
use Rattle.osm_sql_store.specs.declared.audit.table.AuditedTable.{AuditedTable}
use Rattle.osm_sql_store.specs.declared.audit.table.AuditedTable.TheVariants as table
use Rattle.osm_sql_store.specs.AuditedTables.{HasTable, rows_in, seen_in, select_statement}
use Rattle.osm_sql_store.specs.Load.Selects.{selects}
use Rattle.osm_rows.specs.declared.keeper.Extent.{Extent}
use Rattle.osm_rows.specs.declared.schema.layout.Layout.{Layout}
use Rattle.osm_rows.specs.declared.schema.layout.Layout.TheVariants.{Bodies, Tables}
use Rattle.osm_sql_store.specs.declared.schema.sql.TheConstants.{SELECT_EXTENT, SELECT_ELEMENTS, SELECT_TAGS, SELECT_LINKS}
use Rattle.osm_sql_store.specs.Load.Asking.{IsAnswered}
use Rattle.osm_rows.specs.Rows.{Placed, IsBefore, placed, extent_columns as shown_extent}
use Rattle.osm_rows.specs.Schema.Layouts.{schema_of}
use Rattle.osm_rows.specs.Schema.Tables.{table_schema}
use Rattle.osm_rows.specs.TableRows.{element_row, tag_row, tags_at, link_row, links_at, links_of}
use Rattle.osm_sql_store.proofs.AuditLemmas.AtOffset.{exactly}
use Rattle.osm_sql_store.proofs.LoadLemmas.SharedTexts.{compares, extent_columns, extent_names}
use Rattle.osm_sql_store.proofs.LoadLemmas.OneTable.{select}
use Rattle.osm_sql_store.proofs.LoadLemmas.ReadLemmas.{alone, extent_output, in_order}
use Rattle.osm_rows.proofs.LoadLemmas.ShownRows.{ascending_among, twelve_places, five_places, six_places}
use Rattle.osm_sql_store.proofs.LoadLemmas.TableReads.{parts_in_order, element_output, tag_output, link_output}
use Rattle.osm_sql_store.proofs.LoadLemmas.TableTexts.{element_shown, tag_shown, link_shown, by_place, by_part, at_off, elements_are, tags_are, links_are}
use Rattle.osm_rows.proofs.MapLemmas.PartLaws.{all_parts_rise}
use Rattle.osm_rows.proofs.MapLemmas.PlacedLaws.{Entry, here, by_position}
use Rattle.pbf_frame.specs.declared.kind.Kind.TheVariants.{Other}

-- the elements of one blob ascend

pub placed_ascend : (off : ℕ) (es : List Element) → IsAscending IsBefore (placed off 0 es)
placed_ascend off es =
    let entry : Entry = (off, record { fin = 0; digest = []; kind = Other; elements = es }) in
    ascending_among (λ (p : Placed). p.0 ≡ off) (λ (a b : Placed). a.1 < b.1) IsBefore (λ a b at too low. inr (at ∙ sym too, low)) (placed off 0 es) (here entry) (by_position entry)

-- what the query on `blob` means, which both layouts have

extent_is : (layout : Layout) → (command_of (understood (schema_of layout) SELECT_EXTENT.now) ≡ Select (record { lets = []; body = select 1 (compares Eq (col 1 0) (col 0 0) ∷ []) extent_columns (col 1 0 ∷ []) }) extent_names) × (reads_listing (schema_of layout) SELECT_EXTENT.now ≡ false) × IsPlain (understood (schema_of layout) SELECT_EXTENT.now)
unfolding understood everything
extent_is Bodies = (refl, refl, (refl, refl))
extent_is Tables = (refl, refl, (refl, refl))

pub selects_rows : (table : AuditedTable) → selects (select_statement table) ≡ true
unfolding everything
selects_rows table.Blobs = refl
selects_rows table.Elements = refl
selects_rows table.Tags = refl
selects_rows table.Links = refl

-- the answer is the rows of the blob where these are at its offset, and no others
pub rows_told : (table : AuditedTable) (old new : State) (rows : List Row) (extent : Extent) (es : List Element) → HasTable table old.now.schema → IsAnswered (select_statement table) (Int (pos extent.off) ∷ []) old new rows
    → (rows ≡ rows_in table extent es) ↔ HasAt extent.off (rows_in table extent es) (seen_in table old.now.trees)
rows_told table.Blobs old new rows extent es (layout, schema) answered =
    let params = Int (pos extent.off) ∷ [] in
    let read = reads_as SELECT_EXTENT.now params old new (schema_of layout) schema _ (extent_is layout).0 (extent_is layout).2 (extent_is layout).1 rows answered.shown in
    exactly 1 (compares Eq (col 1 0) (col 0 0) ∷ []) extent_columns (col 1 0 ∷ []) (overlay old.now.trees []) params rows (0 ∷ 2 ∷ 3 ∷ 4 ∷ 5 ∷ [])
    (is_at extent.off) (λ r. alone _) extent_output (λ r. refl) (λ r. refl) (read.answer Null) shown_extent (extent ∷ []) (tt, tt) (λ x. refl)
rows_told table.Elements old new rows extent es schema answered =
    let params = Int (pos extent.off) ∷ [] in
    let read = reads_as SELECT_ELEMENTS.now params old new table_schema schema _ elements_are.0 elements_are.2 elements_are.1 rows answered.shown in
    exactly 2 at_off element_shown by_place (overlay old.now.trees []) params rows twelve_places
    (is_at extent.off) (λ r. alone _) element_output (λ r. refl) (λ r. refl) (read.answer Null) element_row (placed extent.off 0 es) (ascending_weaker _ _ in_order (placed extent.off 0 es) (placed_ascend extent.off es)) (λ x. refl)
rows_told table.Tags old new rows extent es schema answered =
    let params = Int (pos extent.off) ∷ [] in
    let read = reads_as SELECT_TAGS.now params old new table_schema schema _ tags_are.0 tags_are.2 tags_are.1 rows answered.shown in
    exactly 4 at_off tag_shown by_part (overlay old.now.trees []) params rows five_places
    (is_at extent.off) (λ r. alone _) tag_output (λ r. refl) (λ r. refl) (read.answer Null) tag_row (flat_map tags_at (placed extent.off 0 es))
    (ascending_weaker _ _ parts_in_order _ (all_parts_rise (λ (p : Placed). tags_of_element p.2) (placed extent.off 0 es) (placed_ascend extent.off es))) (λ x. refl)
rows_told table.Links old new rows extent es schema answered =
    let params = Int (pos extent.off) ∷ [] in
    let read = reads_as SELECT_LINKS.now params old new table_schema schema _ links_are.0 links_are.2 links_are.1 rows answered.shown in
    exactly 6 at_off link_shown by_part (overlay old.now.trees []) params rows six_places
    (is_at extent.off) (λ r. alone _) link_output (λ r. refl) (λ r. refl) (read.answer Null) link_row (flat_map links_at (placed extent.off 0 es))
    (ascending_weaker _ _ parts_in_order _ (all_parts_rise (λ (p : Placed). links_of p.2) (placed extent.off 0 es) (placed_ascend extent.off es))) (λ x. refl)
