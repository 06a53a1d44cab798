-- A put of a blob's rows into the trees keeps what a keeper promises of it.
use Rattle.std.proofs.Common.{◌≡◌, ◌⊎◌, inl, inr, ℕ, ◌<◌, ◌≤◌, false, List, length, IsTrue, Result, Ok, Err, ap, sym, ◌∙◌, arith}
use Rattle.std.specs.List.{AllByRecursion}
use Rattle.sqlite_value.specs.Order.{Row}
use Rattle.sqlite_trees.specs.declared.store.Store.{Ghosts}
use Rattle.sqlite_trees.specs.Tree.{Trees}
use Rattle.sqlite_trees.specs.View.{IsClean}
use Rattle.sqlite_trees.specs.Objects.{catalog_tree}
use Rattle.pbf_frame.specs.declared.part.TheConstants.{MAX_OFFSET}
use Rattle.osm_value.specs.Elements.{IsElement}
use Rattle.osm_rows.specs.declared.fault.StoreFault.{StoreFault}
use Rattle.osm_rows.specs.declared.schema.layout.Layout.TheVariants.{Tables}
use Rattle.osm_rows.specs.Held.{Blob, HeldMap}
use Rattle.osm_rows.specs.Keeping.{IsAddable, extent_of, failures_after, with_blob}
use Rattle.osm_rows.specs.LayoutHolding.{IsBlob, IsKept}
use Rattle.osm_rows.specs.Rows.{placed}
use Rattle.osm_rows.proofs.MapLemmas.OneMore.{kept_more}
use Rattle.osm_tree_writes.specs.Putting.{PutsBelow, PutsBlob, TreesHold}
use Rattle.osm_tree_writes.proofs.Obeying.{hold_with, one_map_below}
use Rattle.osm_trees.specs.Below.{HoldsBelow, IsUsable, MayLeave, LeavesAMap, ListsAlways}
use Rattle.osm_trees.specs.Putting.{AddsBelow}
use Rattle.osm_trees.specs.Reading.{Reading, leaves_held, open_of}
use Rattle.osm_trees.proofs.Mending.{holds_still}

-- the rows of the blob are put into these trees
abbrev pub Puts : ℕ → Blob → Trees → Trees → Type 0
Puts off blob old new = PutsBelow old new (extent_of (off, blob)) (placed off 0 blob.elements)

module _ {S : Type 0} (g : Ghosts S) (old new : Reading S) (off : ℕ) (blob : Blob) (order : off < blob.fin) (limit : blob.fin ≤ MAX_OFFSET) (digest : length blob.digest ≡ 32)
    (settles : (db : Trees) → IsTrue (g.view old.store).is_open → g.recovers old.store db → db ≡ (g.view old.store).committed) (shuts : (g.view old.store).is_open ≡ false → IsTrue (g.view old.store).is_broken) where
  was_open : (g.view old.store).is_broken ≡ false → IsTrue (g.view old.store).is_open
  was_open = open_of _ _ shuts

  abbrev Written : Result (Unit {0}) StoreFault → Type 0
  Written r = PutsBlob g old.store new.store (extent_of (off, blob)) blob.elements r

  -- ---- where a map is held that can take the blob
  module _ (held : HeldMap) (holds : HoldsBelow Tables (g.view old.store) held) (can : IsAddable held off blob) where
    blob_is : AllByRecursion IsElement blob.elements → IsBlob Tables blob
    blob_is stored = record { digest = digest; can_store = stored; few_texts = can.few_texts }

    kept : AllByRecursion IsElement blob.elements → IsKept Tables (with_blob held off blob)
    kept stored = kept_more held off blob Tables holds.kept can.free order limit (blob_is stored)

    tables : AllByRecursion IsElement blob.elements → (db : Trees) → Puts off blob (g.view old.store).trees db → TreesHold Tables (with_blob held off blob) db
    tables stored db puts = hold_with held off blob holds.kept can order limit (blob_is stored) (g.view old.store).trees db holds.tables puts

    holds_more : IsClean (g.view new.store) → AllByRecursion IsElement blob.elements → Puts off blob (g.view old.store).trees (g.view new.store).trees → (g.view new.store).is_broken ≡ false
        → (g.view new.store).committed ≡ (g.view new.store).trees → HoldsBelow Tables (g.view new.store) (with_blob held off blob)
    holds_more clean stored puts unbroken committed = record {
      clean = clean;
      unbroken = unbroken;
      settled = sym committed;
      kept = kept stored;
      tables = tables stored (g.view new.store).trees puts;
      only = λ other kept_too tables_too. one_map_below Tables other (with_blob held off blob) (g.view new.store).trees kept_too (kept stored) tables_too (tables stored (g.view new.store).trees puts);
    }

    leaves_more : {r : Result (Unit {0}) StoreFault} → Written r → IsClean (g.view new.store) → (left : HeldMap) → MayLeave (g.recovers new.store) left → MayLeave (g.recovers old.store) left ⊎ (left ≡ with_blob held off blob)
    leaves_more w clean left may = elim (w.crash clean may.trees may.left) [
      | inl before ↦ inl (record { kept = may.kept; trees = may.trees; left = before; tables = may.tables })
      | inr put ↦ inr (one_map_below Tables left (with_blob held off blob) may.trees may.kept (kept put.1) may.tables (tables put.1 may.trees put.2))
    ]

    leaves_a_map : {r : Result (Unit {0}) StoreFault} → Written r → IsClean (g.view new.store) → LeavesAMap (g.recovers new.store)
    leaves_a_map w clean db left = elim (w.crash clean db left) [
      | inl before ↦ leaves_held (g.view old.store) (g.recovers old.store) held holds settles shuts db before
      | inr put ↦ (with_blob held off blob, kept put.1, tables put.1 db put.2)
    ]

    -- ---- the list of all objects is none of the trees that a put writes
    module _ (rows : List Row) (lists : ListsAlways (g.view old.store) (g.recovers old.store) rows) where
      listed_as_before : (db : Trees) → Puts off blob (g.view old.store).trees db → db catalog_tree ≡ rows
      listed_as_before db puts = puts.catalog ∙ ap (λ (f : Trees). f catalog_tree) holds.settled ∙ lists.committed (holds.clean, was_open holds.unbroken)

      left_listed : {r : Result (Unit {0}) StoreFault} → Written r → IsClean (g.view new.store) → (db : Trees) → g.recovers new.store db → db catalog_tree ≡ rows
      left_listed w clean db left = elim (w.crash clean db left) [ inl before ↦ lists.left db before | inr put ↦ listed_as_before db put.2 ]

  -- what is left after a put into a store that has to be opened again was left before
  left_before : {r : Result (Unit {0}) StoreFault} → Written r → IsClean (g.view new.store) → ¬ (IsUsable (g.view old.store)) → (db : Trees) → g.recovers new.store db → g.recovers old.store db
  left_before w clean closed db left = elim (w.crash clean db left) [
    | inl before ↦ before
    | inr put ↦ absurd (closed (omega (arith, w.clean, clean), was_open put.0))
  ]

  shut_leaves : {r : Result (Unit {0}) StoreFault} → Written r → IsClean (g.view new.store) → ¬ (IsUsable (g.view old.store)) → (left : HeldMap) → MayLeave (g.recovers new.store) left → MayLeave (g.recovers old.store) left
  shut_leaves w clean closed left may = record { kept = may.kept; trees = may.trees; left = left_before w clean closed may.trees may.left; tables = may.tables }

  pub put_adds : (r : Result (Unit {0}) StoreFault) → Written r → new.failures ≡ failures_after r old.failures → AddsBelow g off blob old r new
  put_adds (Ok x) w counted = record {
    honest = λ clean. omega (arith, w.clean, clean);
    open_if = λ up. (omega (arith, w.clean, up.0), was_open (w.committed up.0).0);
    ok = λ clean held holds can. holds_more held holds can clean w.can_store (w.added clean) (w.committed clean).1 (w.committed clean).2;
    err = tt;
    same = λ clean up. tt;
    crash = λ clean held left holds can may. leaves_more held holds can w clean left may;
    whole = λ clean held holds can. leaves_a_map held holds can w clean;
    list = λ clean held holds can rows lists. record {
      committed = λ up. ap (λ (db : Trees). db catalog_tree) (w.committed clean).2 ∙ listed_as_before held holds can rows lists (g.view new.store).trees (w.added clean);
      left = left_listed held holds can rows lists w clean;
    };
    own = λ held holds clean can. tt;
    was_open = λ clean. (omega (arith, w.clean, clean), was_open (w.committed clean).0);
    shut = λ clean closed left may. shut_leaves w clean closed left may;
    shut_whole = λ clean closed whole db left. whole db (left_before w clean closed db left);
    counted = counted;
  }
  put_adds (Err fault) w counted = record {
    honest = λ clean. omega (arith, w.clean, clean);
    open_if = λ up. (omega (arith, w.clean, up.0), (w.unchanged up.0 up.1).0);
    ok = tt;
    err = λ clean up held holds can. let left = w.unchanged clean up.1 in holds_still Tables (g.view old.store) (g.view new.store) held holds clean left.1 left.2 left.3;
    same = λ clean up. let left = w.unchanged clean up.1 in record { committed = left.3; settled = λ settled. left.2 ∙ sym left.3 };
    crash = λ clean held left holds can may. leaves_more held holds can w clean left may;
    whole = λ clean held holds can. leaves_a_map held holds can w clean;
    list = λ clean held holds can rows lists. record {
      committed = λ up. ap (λ (db : Trees). db catalog_tree) (w.unchanged clean up.1).3 ∙ lists.committed (holds.clean, was_open holds.unbroken);
      left = left_listed held holds can rows lists w clean;
    };
    own = λ held holds clean can. w.ours;
    was_open = λ clean. tt;
    shut = λ clean closed left may. shut_leaves w clean closed left may;
    shut_whole = λ clean closed whole db left. whole db (left_before w clean closed db left);
    counted = counted;
  }
