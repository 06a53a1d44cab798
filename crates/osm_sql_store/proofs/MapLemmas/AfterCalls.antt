-- What a store holds after its tables were made, after a put and after a read.
use Rattle.std.proofs.Common.{◌≡◌, ◌⊎◌, inl, inr, ℕ, ◌<◌, ◌≤◌, List, [], map, drop, IsTrue, sym, ap, subst, ◌∙◌, arith}
use Rattle.std.specs.Prelude.{flat_map}
use Rattle.std.specs.List.{AllByRecursion}
use Rattle.std.specs.List.Sorted.{IsPermutation}
use Rattle.std.specs.FinMap.{empty, put}
use Rattle.std.proofs.lemmas.List.Sorted.{IsPermutation-refl}
use Rattle.sqlite.specs.Order.{Row}
use Rattle.sqlite.specs.Tree.{Trees}
use Rattle.sqlite.specs.Effect.{Database}
use Rattle.sqlite.specs.State.{State, HasCleanDisk, Survives}
use Rattle.pbf_frame.specs.declared.part.TheConstants.{MAX_OFFSET}
use Rattle.osm_rows.specs.Held.{Blob, HeldMap, IsFree}
use Rattle.osm_rows.specs.Keeping.{extent_of, with_blob}
use Rattle.osm_rows.specs.declared.schema.layout.Layout.{Layout}
use Rattle.osm_rows.specs.declared.schema.layout.Layout.TheVariants.{Bodies, Tables}
use Rattle.osm_rows.specs.Schema.Layouts.{schema_of}
use Rattle.osm_rows.specs.Rows.{Placed, CanStore, placed, extent_row}
use Rattle.osm_sql_store.specs.Schema.Making.{HaveNoElements, IsEmptyStore}
use Rattle.osm_sql_store.specs.Put.Steps.{MayPut}
use Rattle.osm_rows.specs.Put.Gains.{Puts}
use Rattle.osm_sql_store.specs.Load.Asking.{JustAsks}
use Rattle.osm_rows.specs.LayoutHolding.{IsBlob, IsKept, HasRows, HoldElements, TablesHold, Holds, MayLeave, LeavesAMap}
use Rattle.osm_rows.proofs.MapLemmas.PlacedLaws.{within}
use Rattle.osm_rows.proofs.MapLemmas.OneMap.{one_map}
use Rattle.osm_rows.specs.StoreLaws.{IsSettled, leaves_held}
use Rattle.osm_rows.proofs.MapLemmas.OneMore.{hold_more, kept_more, no_entries, nothing_kept}

-- ---- a store that holds nothing

has_none : (table : List Row) → table ≡ [] → HasRows [] table
has_none table none = subst (λ rows. IsPermutation [] (map (drop 1) rows)) (sym none) (IsPermutation-refl [])

no_elements : (layout : Layout) (db : Trees) → HaveNoElements layout db → HoldElements layout [] db
no_elements Bodies db none = has_none (db 2) none
no_elements Tables db none = (has_none (db 2) none.0, has_none (db 4) none.1, has_none (db 6) none.2)

pub hold_nothing : (layout : Layout) (db : Trees) → IsEmptyStore layout db → TablesHold layout empty db
hold_nothing layout db h = record {
  sound = h.sound;
  meta = h.meta;
  blob = h.blob ∙ ap (λ l. map extent_row (map extent_of l)) (sym no_entries);
  elements = subst (λ l. HoldElements layout (flat_map within l) db) (sym no_entries) (no_elements layout db h.elements);
}

pub nothing_else : (layout : Layout) (db : Trees) → IsEmptyStore layout db → (other : HeldMap) → IsKept layout other → TablesHold layout other db → other ≡ empty
nothing_else layout db h other kept tables = one_map layout other empty db kept (nothing_kept layout) tables (hold_nothing layout db h)

-- ---- a put

module _ (held : HeldMap) (off : ℕ) (blob : Blob) (layout : Layout) (old new : State) (holds : Holds layout old held) (free : IsFree held off blob.fin) (order : off < blob.fin) (limit : blob.fin ≤ MAX_OFFSET) where
  abbrev added : List Placed
  added = placed off 0 blob.elements

  pub holds_more : HasCleanDisk new → (old.now.schema ≡ schema_of layout → (new.now.schema ≡ schema_of layout) × Puts layout old.now.trees new.now.trees (extent_of (off, blob)) added)
      → IsTrue new.is_open → new.committed ≡ new.now → IsBlob layout blob → Holds layout new (with_blob held off blob)
  holds_more clean puts there committed is =
      let put = puts holds.schema in
      let kept = kept_more held off blob layout holds.kept free order limit is in
      let tables = hold_more held off blob layout holds.kept free order old.now.trees new.now.trees holds.tables put.1 in
      record {
        clean = clean;
        opened = there;
        settled = sym committed;
        schema = put.0;
        kept = kept;
        tables = tables;
        only = λ other kept_too tables_too. one_map layout other (with_blob held off blob) new.now.trees kept_too kept tables_too tables;
      }

  left_more : IsBlob layout blob → (db : Trees) → MayPut layout old (extent_of (off, blob)) blob.elements db → TablesHold layout (with_blob held off blob) db
  left_more is db may = hold_more held off blob layout holds.kept free order old.now.trees db holds.tables (may.2 holds.schema)

  pub leaves_more : Survives old new (MayPut layout old (extent_of (off, blob)) blob.elements) → (AllByRecursion (CanStore layout) blob.elements → IsBlob layout blob) → HasCleanDisk new → (left : HeldMap) → MayLeave layout new left → MayLeave layout old left ⊎ (left ≡ with_blob held off blob)
  leaves_more survives is clean left may = elim (survives.crash clean may.trees may.left) [
    | inl before ↦ inl (record { kept = may.kept; trees = may.trees; left = before; tables = may.tables })
    | inr put ↦
        let blob_is = is put.1 in
        inr (one_map layout left (with_blob held off blob) may.trees may.kept (kept_more held off blob layout holds.kept free order limit blob_is) may.tables (left_more blob_is may.trees put))
  ]

  pub leaves_a_map : Survives old new (MayPut layout old (extent_of (off, blob)) blob.elements) → (AllByRecursion (CanStore layout) blob.elements → IsBlob layout blob) → IsSettled old → HasCleanDisk new → LeavesAMap layout new
  leaves_a_map survives is settles clean db left = elim (survives.crash clean db left) [
    | inl before ↦ leaves_held layout old held holds settles db before
    | inr put ↦
        let blob_is = is put.1 in
        (with_blob held off blob, kept_more held off blob layout holds.kept free order limit blob_is, left_more blob_is db put)
  ]

-- the connection shows the same
pub holds_still : (layout : Layout) (held : HeldMap) (old later : State) → Holds layout old held → HasCleanDisk later → IsTrue later.is_open → later.now ≡ old.now → later.committed ≡ old.committed → Holds layout later held
holds_still layout held old later holds clean there now committed = record {
  clean = clean;
  opened = there;
  settled = now ∙ holds.settled ∙ sym committed;
  schema = ap (λ (d : Database). d.schema) now ∙ holds.schema;
  kept = holds.kept;
  tables = subst (λ (d : Database). TablesHold layout held d.trees) (sym now) holds.tables;
  only = λ other kept tables. holds.only other kept (subst (λ (d : Database). TablesHold layout other d.trees) now tables);
}

-- ---- a read

pub clean_before : (old new : State) → JustAsks old new → HasCleanDisk new → HasCleanDisk old
clean_before old new asks clean = omega (arith, asks.crash.clean, clean)

module _ (layout : Layout) (old new : State) (asks : JustAsks old new) where
  pub asks_holds : (held : HeldMap) → Holds layout old held → HasCleanDisk new → IsTrue new.is_open → Holds layout new held
  asks_holds held holds clean there =
      let keeps = asks.keeps clean in
      holds_still layout held old new holds clean there (keeps.now there holds.settled) (keeps.committed there)

  asks_left : HasCleanDisk new → (db : Trees) → new.may_leave db → old.may_leave db
  asks_left clean db left = elim (asks.crash.crash clean db left) [ inl before ↦ before | inr none ↦ absurd none ]

  pub asks_leaves : HasCleanDisk new → (left : HeldMap) → MayLeave layout new left → MayLeave layout old left
  asks_leaves clean left may = record { kept = may.kept; trees = may.trees; left = asks_left clean may.trees may.left; tables = may.tables }

  pub asks_leaves_a_map : HasCleanDisk new → LeavesAMap layout old → LeavesAMap layout new
  asks_leaves_a_map clean all db left = all db (asks_left clean db left)
