-- What the row functions do, from what `sqlite` says of their statements.
use Rattle.std.proofs.Common.{◌≡◌, ◌≢◌, ℕ, ℤ, List, [], ◌∷◌, ◌++◌, map, Ok, true, IsTrue, refl, sym, subst, ◌∙◌, inl, arith, Result, false, inr, true≢false, Err}
use Rattle.sqlite.proofs.InsideLemmas.{keeps_then, inside_keeps}
use Rattle.sqlite.specs.Order.{Row}
use Rattle.std.proofs.lemmas.Bool.{cases_Bool}
use Rattle.sqlite.specs.Store.{Ghosts}
use Rattle.sqlite.specs.Held.{Held, state}
use Rattle.sqlite.specs.declared.error.Error.{Error}
use Rattle.sqlite.specs.State.{State, HasCleanDisk, KeepsCommit, Survives, ExecutesInside}
use Rattle.sqlite.specs.Tree.{Trees}
use Rattle.sqlite.proofs.StateLemmas.{survives_then}
use Rattle.sqlite.proofs.Callers.{survives_begin}
use Rattle.sqlite.specs.Steps.{FailsToCommit}
use Rattle.osm_value.specs.declared.element.Element.{Element}
use Rattle.osm_rows.specs.declared.keeper.Extent.{Extent}
use Rattle.sqlite.specs.Table.{Table}
use Rattle.std.specs.Prelude.{OnOk}
use Rattle.osm_rows.specs.declared.fault.StoreFault.{StoreFault}
use Rattle.std.specs.List.{AllByRecursion}
use Rattle.osm_rows.specs.declared.schema.layout.Layout.{Layout}
use Rattle.osm_rows.specs.declared.schema.layout.Layout.TheVariants.{Bodies, Tables}
use Rattle.osm_sql_store.specs.declared.schema.sql.TheConstants.{INSERT_BLOB}
use Rattle.osm_rows.specs.Schema.Layouts.{schema_of}
use Rattle.osm_rows.specs.Rows.{Placed, CanStore, placed, body_row, extent_row}
use Rattle.osm_rows.specs.TableRows.{element_rows, tag_rows, link_rows}
use Rattle.osm_sql_store.specs.Schema.Over.{IsWriting}
use Rattle.osm_rows.specs.Put.Gains.{Gains, GainsElements, Puts}
use Rattle.osm_sql_store.specs.Put.Steps.{KeepsOthers, AddsRow, AddsRows, AddsElements, AddsExtent, WritesInTransaction, MayPut, KeepsAll}
use Rattle.osm_sql_store.proofs.PutLemmas.Inserts.{inserts_blob}
use Rattle.osm_sql_store.proofs.SchemaLemmas.MakeSteps.{becomes}
use Rattle.osm_sql_store.proofs.PutLemmas.Adds.{blob_values, new_blob, blob_added}
use Rattle.osm_rows.proofs.PutLemmas.Gaining.{gains_nothing, gains_then}

-- whether or not a transaction is open
pub keeps : {S : Type 0} (g : Ghosts S) (old new : Held S) (sql : List ℕ) (params : Row) (r : Result ℕ Error) (Ended : Type 0) → ((state g old).in_transaction ≡ false → Ended × (new ≡ old))
    → (IsTrue (state g old).in_transaction → ExecutesInside 0 sql params (state g old) (state g new) r) → KeepsCommit (state g old) (state g new)
keeps g old new sql params r Ended ended runs = elim (cases_Bool (state g old).in_transaction) [
  | inl inside ↦ inside_keeps (state g old) (state g new) 0 false sql params r (runs inside)
  | inr outside ↦ subst (λ h. KeepsCommit (state g old) (state g h)) (sym (ended outside).1) (record { was_open = λ h. h; committed = λ _. refl })
]

pub survives_nothing : (s : State) → Survives s s (λ _. ⊥)
survives_nothing s = record { clean = omega arith; shield = λ h. h; counts = omega arith; limit = refl; closes = λ _ there. inl there; crash = λ _ db h. inl h }

-- ---- rows of one table

nothing_lost : (db : Trees) (ts : List Table) (tree : ℕ) → AllByRecursion (λ t. t.tree ≢ tree → db t.tree ≡ db t.tree) ts
nothing_lost db [] tree = tt
nothing_lost db (t ∷ ts) tree = (λ apart. refl, nothing_lost db ts tree)

kept_then : (old mid new : Trees) (ts : List Table) (tree : ℕ) → AllByRecursion (λ t. t.tree ≢ tree → mid t.tree ≡ old t.tree) ts → AllByRecursion (λ t. t.tree ≢ tree → new t.tree ≡ mid t.tree) ts
    → AllByRecursion (λ t. t.tree ≢ tree → new t.tree ≡ old t.tree) ts
kept_then old mid new [] tree before h = tt
kept_then old mid new (t ∷ ts) tree before h = (λ apart. h.0 apart ∙ before.0 apart, kept_then old mid new ts tree before.1 h.1)

pub no_rows : (layout : Layout) (tree : ℕ) (s : State) → IsWriting layout s → AddsRows layout tree s s []
no_rows layout tree s writing = record {
  over = writing;
  kept = record { was_open = λ h. h; committed = λ _. refl };
  sound = λ h. h;
  others = nothing_lost s.now.trees (schema_of layout).tables tree;
  rows = gains_nothing (s.now.trees tree);
}

pub one_more : (layout : Layout) (tree : ℕ) (old mid new : State) (rows : List Row) (row : Row) → AddsRows layout tree old mid rows → AddsRow layout tree mid new row → AddsRows layout tree old new (rows ++ row ∷ [])
one_more layout tree old mid new rows row before h = record {
  over = h.becomes.over;
  kept = keeps_then old mid new before.kept h.becomes.kept;
  sound = λ _. h.becomes.sound;
  others = kept_then old.now.trees mid.now.trees new.now.trees (schema_of layout).tables tree before.others h.others;
  rows = gains_then (old.now.trees tree) (mid.now.trees tree) (new.now.trees tree) rows (row ∷ []) before.rows h.rows;
}

pub rows_more : (layout : Layout) (tree : ℕ) (old mid new : State) (rows more : List Row) → AddsRows layout tree old mid rows → AddsRows layout tree mid new more → AddsRows layout tree old new (rows ++ more)
rows_more layout tree old mid new rows more before h = record {
  over = h.over;
  kept = keeps_then old mid new before.kept h.kept;
  sound = λ was. h.sound (before.sound was);
  others = kept_then old.now.trees mid.now.trees new.now.trees (schema_of layout).tables tree before.others h.others;
  rows = gains_then (old.now.trees tree) (mid.now.trees tree) (new.now.trees tree) rows more before.rows h.rows;
}

-- ---- what the statement on `blob` adds

pub adds_extent : (layout : Layout) (old new : State) (off fin : ℤ) (digest : List ℕ) (kind n : ℤ) (count : ℕ) → IsWriting layout old → ExecutesInside 0 INSERT_BLOB.now (blob_values off fin digest kind n) old new (Ok count)
    → AddsExtent layout old new (new_blob off fin digest kind n)
adds_extent layout old new off fin digest kind n count over h =
    let it = inserts_blob layout (blob_values off fin digest kind n) old new count over.schema_is h.0 in
    record {
      becomes = becomes old new (schema_of layout) it.0 it.2 h.1;
      shown = h.1;
      others = it.1.tables;
      blob = blob_added (schema_of layout) old.now.trees new.now.trees off fin digest kind n it.1;
    }

-- ---- all elements of a blob

-- what was so before a row of `blob` was written
gains_after : (layout : Layout) (elements : List Placed) (old mid new : Trees) → KeepsOthers layout 1 old mid → GainsElements layout elements mid new → GainsElements layout elements old new
gains_after Bodies elements old mid new kept h = subst (λ rows. Gains rows (map body_row elements) (new 2)) (kept.1.1.0 (λ e. cc)) h
gains_after Tables elements old mid new kept h = (
  subst (λ rows. Gains rows (element_rows elements) (new 2)) (kept.1.1.0 (λ e. cc)) h.0,
  subst (λ rows. Gains rows (tag_rows elements) (new 4)) (kept.1.1.1.0 (λ e. cc)) h.1,
  subst (λ rows. Gains rows (link_rows elements) (new 6)) (kept.1.1.1.1.0 (λ e. cc)) h.2,
)

meta_kept : (layout : Layout) (old mid : Trees) → KeepsOthers layout 1 old mid → mid 0 ≡ old 0
meta_kept Bodies old mid kept = kept.0 (λ e. cc)
meta_kept Tables old mid kept = kept.0 (λ e. cc)

pub puts : (layout : Layout) (old mid new : State) (extent : Extent) (elements : List Placed) → AddsExtent layout old mid (extent_row extent) → AddsElements layout mid new elements
    → Puts layout old.now.trees new.now.trees extent elements
puts layout old mid new extent elements first rest = record {
  sound = rest.sound first.becomes.sound;
  meta = rest.meta ∙ meta_kept layout old.now.trees mid.now.trees first.others;
  blob = rest.blob ∙ first.blob;
  elements = gains_after layout elements old.now.trees mid.now.trees new.now.trees first.others rest.elements;
}

-- the extent is written, and then the elements
pub written : {T : Type 0} (layout : Layout) (old mid new : State) (extent : Extent) (elements : List Placed) (r : Result T StoreFault) → IsTrue old.is_open → IsTrue old.in_transaction
    → (IsWriting layout old → AddsExtent layout old mid (extent_row extent)) → OnOk r (IsTrue new.in_transaction) → (IsWriting layout mid → OnOk r (AddsElements layout mid new elements)) → OnOk r (WritesInTransaction layout old new extent elements)
written layout old mid new extent elements (Ok x) was_open inside first still rest = record {
  was_open = was_open;
  inside = still;
  puts = λ has.
      let begun = first (record { schema_is = has; inside = inside }) in
      let ended = rest begun.becomes.over in
      (ended.over.schema_is, puts layout old mid new extent elements begun ended);
}
written layout old mid new extent elements (Err fault) was_open inside first still rest = tt

module _ {S : Type 0} (g : Ghosts S) (old mid end : Held S) (layout : Layout) (extent : Extent) (elements : List Element) where
  pub put_survives : Survives (state g (record old { in_transaction = true })) (state g mid) (λ _. ⊥)
      → (HasCleanDisk (state g mid) → WritesInTransaction layout (state g (record old { in_transaction = true })) (state g mid) extent (placed extent.off 0 elements)) → AllByRecursion (CanStore layout) elements
      → Survives (state g mid) (state g end) (λ db. db ≡ (state g mid).now.trees) → Survives (state g old) (state g end) (MayPut layout (state g old) extent elements)
  put_survives inside written can_store commit =
      survives_then (state g old) (state g mid) (state g end) _ _ (MayPut layout (state g old) extent elements) (λ _ db none. absurd none)
      (λ clean db is. let it = written (omega (arith, commit.clean)) in (it.was_open, can_store, λ has. subst (λ trees. Puts layout (state g old).now.trees trees extent (placed extent.off 0 elements)) (sym is) (it.puts has).1))
      (survives_begin g old (state g mid) _ inside) commit

  pub put_undone : HasCleanDisk (state g end) → IsTrue (state g end).is_open → (IsTrue (state g old).is_open → (state g old).now ≡ (state g old).committed)
      → KeepsCommit (state g (record old { in_transaction = true })) (state g mid) → IsTrue (state g mid).in_transaction → (e : Error) → FailsToCommit (state g mid) (state g end) e
      → KeepsAll (state g old) (state g end)
  put_undone clean there settled kept inside e (inl failed) =
      let mid_open = failed.3.was_open there in
      let undone = failed.3.undone there in
      let was = kept.was_open mid_open in
      let same = kept.committed mid_open in
      (was, undone.0 ∙ same ∙ sym (settled was), undone.1 ∙ same)
  put_undone clean there settled kept inside e (inr late) = absurd (true≢false (sym inside ∙ late.1))
