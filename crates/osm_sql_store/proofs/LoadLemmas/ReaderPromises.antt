-- A call that only asks leaves what the store holds.
use Rattle.std.proofs.Common.{◌≡◌, IsTrue, Result, Ok, Err, subst}
use Rattle.std.specs.Prelude.{MatchResult, IfOk}
use Rattle.std.proofs.lemmas.Result.{MatchResult-weaker}
use Rattle.sqlite.specs.Store.{Ghosts}
use Rattle.sqlite.specs.Held.{state}
use Rattle.sqlite.specs.State.{HasCleanDisk}
use Rattle.osm_rows.specs.declared.fault.StoreFault.{StoreFault}
use Rattle.osm_rows.specs.declared.schema.layout.Layout.{Layout}
use Rattle.osm_sql_store.specs.Load.Asking.{JustAsks}
use Rattle.osm_sql_store.specs.Load.Telling.{TellsOf}
use Rattle.osm_rows.specs.Held.{HeldMap}
use Rattle.osm_rows.specs.LayoutHolding.{Holds}
use Rattle.osm_rows.specs.Keeping.{IsForeign, failures_after}
use Rattle.osm_sql_store.specs.Store.{Store, JustReads}
use Rattle.osm_sql_store.proofs.MapLemmas.AfterCalls.{clean_before, asks_holds, asks_leaves, asks_leaves_a_map}

module _ {S T : Type 0} (layout : Layout) (g : Ghosts S) (old new : Store S) (asks : JustAsks (state g old.connection) (state g new.connection)) where
  abbrev pub Answers : Result T StoreFault → Type 0
  Answers r = HasCleanDisk (state g new.connection) → (held : HeldMap) → Holds layout (state g old.connection) held → MatchResult r (λ _. IsTrue (state g new.connection).is_open) (λ fault. ¬ (IsForeign fault))

  pub just_reads : (r : Result T StoreFault) → Answers r → new.failures ≡ failures_after r old.failures → JustReads layout g old r new
  just_reads (Ok x) answers counted = record {
    honest = clean_before (state g old.connection) (state g new.connection) asks;
    open_if = λ up. (clean_before (state g old.connection) (state g new.connection) asks up.0, (asks.keeps up.0).was_open up.1);
    ok = λ clean held holds. asks_holds layout (state g old.connection) (state g new.connection) asks held holds clean (answers clean held holds);
    err = tt;
    same = λ clean up. (asks.keeps clean).committed up.1;
    crash = λ clean held may. asks_leaves layout (state g old.connection) (state g new.connection) asks clean held may;
    whole = λ clean all. asks_leaves_a_map layout (state g old.connection) (state g new.connection) asks clean all;
    list = λ clean rows all. (all.0, asks_leaves_a_map layout (state g old.connection) (state g new.connection) asks clean all.1);
    own = λ held holds clean. tt;
    counted = counted;
  }
  just_reads (Err fault) answers counted = record {
    honest = clean_before (state g old.connection) (state g new.connection) asks;
    open_if = λ up. (clean_before (state g old.connection) (state g new.connection) asks up.0, (asks.keeps up.0).was_open up.1);
    ok = tt;
    err = λ clean up held holds. asks_holds layout (state g old.connection) (state g new.connection) asks held holds clean up.1;
    same = λ clean up. (asks.keeps clean).committed up.1;
    crash = λ clean held may. asks_leaves layout (state g old.connection) (state g new.connection) asks clean held may;
    whole = λ clean all. asks_leaves_a_map layout (state g old.connection) (state g new.connection) asks clean all;
    list = λ clean rows all. (all.0, asks_leaves_a_map layout (state g old.connection) (state g new.connection) asks clean all.1);
    own = λ held holds clean. answers clean held holds;
    counted = counted;
  }

-- the same of a store as its callers see it, whose layout is that of its type
module _ {S T : Type 0} {layout at : Layout} (g : Ghosts S) {inside old : Store S} (new : Store S) (at_is : at ≡ layout) (old_is : inside ≡ old) (asks : JustAsks (state g inside.connection) (state g new.connection))
    (r : Result T StoreFault) (counted : new.failures ≡ failures_after r inside.failures) where
  pub reads : Answers at g inside new asks r → JustReads layout g old r new
  reads answers = subst (λ s. JustReads layout g s r new) old_is (subst (λ l. JustReads l g inside r new) at_is (just_reads at g inside new asks r answers counted))

  -- where the call tells of a held map
  pub reads_held : (P : HeldMap → T → Type 0) → ((held : HeldMap) → TellsOf at held (state g inside.connection) r (state g new.connection) (P held)) → JustReads layout g old r new
  reads_held P told = reads (λ clean held holds. MatchResult-weaker r (told held clean holds) (λ v h. h.1) (λ fault h. h))

pub ok_of : {A E : Type 0} (P : A → Type 0) (Q : Type 0) (F : E → Type 0) (r : Result A E) → MatchResult r (λ v. P v × Q) F → IfOk r P
ok_of P Q F (Ok v) h = h.0
ok_of P Q F (Err e) h = tt
