-- A put keeps what a keeper promises of it.
use Rattle.std.proofs.Common.{◌≡◌, ℕ, ◌<◌, ◌≤◌, length, IsTrue, Result, Ok, Err, inl, inr, arith}
use Rattle.std.specs.Prelude.{OnOk, OnErr, IfErr}
use Rattle.std.specs.List.{AllByRecursion}
use Rattle.sqlite.specs.Store.{Ghosts}
use Rattle.sqlite.specs.Held.{state}
use Rattle.sqlite.specs.State.{State, HasCleanDisk, Survives}
use Rattle.pbf_frame.specs.declared.part.TheConstants.{MAX_OFFSET}
use Rattle.osm_rows.specs.declared.keeper.Extent.{Extent}
use Rattle.osm_rows.specs.declared.fault.StoreFault.{StoreFault}
use Rattle.sqlite.specs.Tree.{Trees}
use Rattle.osm_rows.specs.Held.{Blob, HeldMap, HaveFewTexts}
use Rattle.osm_rows.specs.LayoutHolding.{IsBlob, MayLeave, LeavesAMap}
use Rattle.osm_rows.specs.Keeping.{IsForeign, failures_after}
use Rattle.osm_rows.specs.declared.schema.layout.Layout.{Layout}
use Rattle.osm_rows.specs.Rows.{CanStore, placed}
use Rattle.osm_sql_store.specs.Put.Steps.{CommitsBlob, MayPut, KeepsAll}
use Rattle.osm_sql_store.specs.Store.{Store, AddsBlob}
use Rattle.osm_rows.specs.StoreLaws.{IsSettled}
use Rattle.osm_sql_store.proofs.MapLemmas.AfterCalls.{holds_more, leaves_more, leaves_a_map, holds_still}

abbrev extent_with : ℕ → Blob → ℕ → Extent
extent_with off blob n = record { off = off; fin = blob.fin; digest = blob.digest; kind = blob.kind; n = n }

-- what the writing of a blob's rows says, where n is the count of its elements
pub record Wrote {T : Type 0} (layout : Layout) (off : ℕ) (blob : Blob) (n : ℕ) (old new : State) (r : Result T StoreFault) : Type 0 where
  pub committed : HasCleanDisk new → OnOk r (CommitsBlob layout old new (extent_with off blob n) (placed off 0 blob.elements))
  pub can_store : OnOk r (AllByRecursion (CanStore layout) blob.elements)
  pub unchanged : HasCleanDisk new → IsTrue new.is_open → OnErr r (KeepsAll old new)
  pub ours : IfErr r (λ fault. ¬ (IsForeign fault))
  pub crash : Survives old new (MayPut layout old (extent_with off blob n) blob.elements)

blob_is : (layout : Layout) (blob : Blob) → length blob.digest ≡ 32 → HaveFewTexts blob.elements → AllByRecursion (CanStore layout) blob.elements → IsBlob layout blob
blob_is layout blob digest few can = record { digest = digest; can_store = can; few_texts = few }

module _ {S T : Type 0} (layout : Layout) (g : Ghosts S) (old new : Store S) (off : ℕ) (blob : Blob) (order : off < blob.fin) (limit : blob.fin ≤ MAX_OFFSET) (digest : length blob.digest ≡ 32)
    (settles : IsSettled (state g old.connection)) where
  -- what is left after a call on a connection that isn't open was left before
  left_before : {r : Result T StoreFault} → Wrote layout off blob (length blob.elements) (state g old.connection) (state g new.connection) r → HasCleanDisk (state g new.connection)
      → ¬ (HasCleanDisk (state g old.connection) × IsTrue (state g old.connection).is_open) → (db : Trees) → (state g new.connection).may_leave db → (state g old.connection).may_leave db
  left_before w clean closed db left = elim (w.crash.crash clean db left) [
    | inl before ↦ before
    | inr put ↦ absurd (closed (omega (arith, w.crash.clean, clean), put.0))
  ]

  shut_leaves : {r : Result T StoreFault} → Wrote layout off blob (length blob.elements) (state g old.connection) (state g new.connection) r → HasCleanDisk (state g new.connection)
      → ¬ (HasCleanDisk (state g old.connection) × IsTrue (state g old.connection).is_open) → (left : HeldMap) → MayLeave layout (state g new.connection) left → MayLeave layout (state g old.connection) left
  shut_leaves w clean closed left may = record { kept = may.kept; trees = may.trees; left = left_before w clean closed may.trees may.left; tables = may.tables }

  shut_leaves_a_map : {r : Result T StoreFault} → Wrote layout off blob (length blob.elements) (state g old.connection) (state g new.connection) r → HasCleanDisk (state g new.connection)
      → ¬ (HasCleanDisk (state g old.connection) × IsTrue (state g old.connection).is_open) → LeavesAMap layout (state g old.connection) → LeavesAMap layout (state g new.connection)
  shut_leaves_a_map w clean closed whole db left = whole db (left_before w clean closed db left)

  pub put_adds : (r : Result T StoreFault) → Wrote layout off blob (length blob.elements) (state g old.connection) (state g new.connection) r → new.failures ≡ failures_after r old.failures → AddsBlob layout g off blob old r new
  put_adds (Ok x) w counted = record {
    honest = λ clean. omega (arith, w.crash.clean, clean);
    open_if = λ up. (omega (arith, w.crash.clean, up.0), (w.committed up.0).was_open);
    ok = λ clean held holds can. holds_more held off blob layout (state g old.connection) (state g new.connection) holds can.free order limit clean (w.committed clean).puts (w.committed clean).is_open (w.committed clean).committed (blob_is layout blob digest can.few_texts w.can_store);
    err = tt;
    same = λ clean up. tt;
    crash = λ clean held left holds can may. leaves_more held off blob layout (state g old.connection) (state g new.connection) holds can.free order limit w.crash (blob_is layout blob digest can.few_texts) clean left may;
    whole = λ clean held holds can. leaves_a_map held off blob layout (state g old.connection) (state g new.connection) holds can.free order limit w.crash (blob_is layout blob digest can.few_texts) settles clean;
    list = λ clean held holds can rows all. (all.0, leaves_a_map held off blob layout (state g old.connection) (state g new.connection) holds can.free order limit w.crash (blob_is layout blob digest can.few_texts) settles clean);
    own = λ held holds clean free. tt;
    was_open = λ clean. (omega (arith, w.crash.clean, clean), (w.committed clean).was_open);
    shut = λ clean closed left may. shut_leaves w clean closed left may;
    shut_whole = λ clean closed whole. shut_leaves_a_map w clean closed whole;
    counted = counted;
  }
  put_adds (Err fault) w counted = record {
    honest = λ clean. omega (arith, w.crash.clean, clean);
    open_if = λ up. (omega (arith, w.crash.clean, up.0), (w.unchanged up.0 up.1).0);
    ok = tt;
    err = λ clean up held holds free. holds_still layout held (state g old.connection) (state g new.connection) holds clean up.1 (w.unchanged clean up.1).1 (w.unchanged clean up.1).2;
    same = λ clean up. (w.unchanged clean up.1).2;
    crash = λ clean held left holds can may. leaves_more held off blob layout (state g old.connection) (state g new.connection) holds can.free order limit w.crash (blob_is layout blob digest can.few_texts) clean left may;
    whole = λ clean held holds can. leaves_a_map held off blob layout (state g old.connection) (state g new.connection) holds can.free order limit w.crash (blob_is layout blob digest can.few_texts) settles clean;
    list = λ clean held holds can rows all. (all.0, leaves_a_map held off blob layout (state g old.connection) (state g new.connection) holds can.free order limit w.crash (blob_is layout blob digest can.few_texts) settles clean);
    own = λ held holds clean free. w.ours;
    was_open = λ clean. tt;
    shut = λ clean closed left may. shut_leaves w clean closed left may;
    shut_whole = λ clean closed whole. shut_leaves_a_map w clean closed whole;
    counted = counted;
  }
