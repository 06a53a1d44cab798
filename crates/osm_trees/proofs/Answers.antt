-- Results that are said clause by clause, and reads as the reader promises them.
use Rattle.std.proofs.Common.{◌≡◌, ◌∙◌, false, IsTrue, List, Result, Ok, Err, ap, sym, subst}
use Rattle.std.specs.Prelude.{MatchResult, IfOk, IfErr, OnOk}
use Rattle.sqlite_value.specs.Order.{Row}
use Rattle.sqlite_trees.specs.declared.store.Store.{Ghosts}
use Rattle.sqlite_trees.specs.View.{IsClean}
use Rattle.sqlite_trees.specs.Objects.{catalog_tree}
use Rattle.sqlite_trees.specs.Tree.{Trees}
use Rattle.osm_rows.specs.declared.fault.StoreFault.{StoreFault}
use Rattle.osm_rows.specs.declared.schema.layout.Layout.TheVariants.{Tables}
use Rattle.osm_rows.specs.Held.{HeldMap}
use Rattle.osm_rows.specs.Keeping.{IsForeign, failures_after}
use Rattle.osm_tree_audits.specs.Looking.{Looks}
use Rattle.osm_trees.specs.Below.{HoldsBelow, IsUsable, Mends, ListsAlways}
use Rattle.osm_trees.specs.Reading.{Reading, JustReads, open_of}
use Rattle.osm_trees.proofs.Looking.{holds_after}
use Rattle.osm_trees.proofs.Mending.{Leaves, Stands, clean_until, leaves_by, outcomes_all, stands, holds_standing}

pub joined : {T E : Type 0} (r : Result T E) (P : T → Type 0) (Q : Type 0) (F : E → Type 0) → IfOk r P → OnOk r Q → IfErr r F → MatchResult r (λ x. P x × Q) F
joined (Ok x) P Q F p q f = (p, q)
joined (Err e) P Q F p q f = f

pub ok_of : {T E : Type 0} (P : T → Type 0) (Q : Type 0) (F : E → Type 0) (r : Result T E) → MatchResult r (λ x. P x × Q) F → IfOk r P
ok_of P Q F (Ok x) h = h.0
ok_of P Q F (Err e) h = tt

pub if_ok : {T E : Type 0} (P : T → Type 0) (Q : E → Type 0) (r : Result T E) → MatchResult r P Q → IfOk r P
if_ok P Q (Ok x) h = h
if_ok P Q (Err e) h = tt

-- what is said of answers, and what is said of faults
pub answered : {T E : Type 0} (P : Type 0) (F : E → Type 0) (r : Result T E) → OnOk r P → IfErr r F → MatchResult r (λ _. P) F
answered P F (Ok x) p f = p
answered P F (Err e) p f = f

pub sound_of : {T E : Type 0} (A P : Type 0) (r : Result T E) → A → OnOk r (A → P) → OnOk r P
sound_of A P (Ok x) a f = f a
sound_of A P (Err e) a f = tt

module _ {S : Type 0} (g : Ghosts S) (old mid new : S) (left : Leaves g old mid) (mends : Mends g mid new) where
  still_lists : (rows : List Row) → ListsAlways (g.view old) (g.recovers old) rows → ListsAlways (g.view new) (g.recovers new) rows
  still_lists rows lists = record {
    committed = λ up.
        let after = stands g old mid new left mends up.0 up.1 in
        ap (λ (db : Trees). db catalog_tree) after.same.committed ∙ lists.committed (left.clean (clean_until g mid new mends up.0), after.was_open);
    left = λ db leaves. lists.left db (outcomes_all g old mid new left mends db leaves);
  }

module _ {S : Type 0} (g : Ghosts S) (old : Reading S) (mid : S) (new : Reading S) (left : Leaves g old.store mid) (mends : Mends g mid new.store) where
  clean_mid : IsClean (g.view new.store) → IsClean (g.view mid)
  clean_mid = clean_until g mid new.store mends

  after : IsUsable (g.view new.store) → Stands (g.view old.store) (g.view new.store)
  after up = stands g old.store mid new.store left mends up.0 up.1

  outcomes : (db : Trees) → g.recovers new.store db → g.recovers old.store db
  outcomes = outcomes_all g old.store mid new.store left mends

  -- what each call of the reader says of its answer and of the trees
  abbrev pub Answers : {T : Type 0} → Result T StoreFault → Type 0
  Answers r = IsClean (g.view mid) → (held : HeldMap) → HoldsBelow Tables (g.view old.store) held → MatchResult r (λ _. (g.view mid).is_broken ≡ false) (λ fault. ¬ (IsForeign fault))

  pub just_reads : {T : Type 0} (r : Result T StoreFault) → Answers r → new.failures ≡ failures_after r old.failures → JustReads g old r new
  just_reads (Ok x) answers counted = record {
    honest = λ clean. left.clean (clean_mid clean);
    open_if = λ up. (left.clean (clean_mid up.0), (after up).was_open);
    ok = λ clean held holds.
        let up = answers (clean_mid clean) held holds in
        subst (λ s. HoldsBelow Tables (g.view s) held) (sym (mends.stays (clean_mid clean) up)) (holds_after Tables (g.view old.store) (g.view mid) held (left.reads (clean_mid clean) up) (clean_mid clean) up holds);
    err = tt;
    same = λ clean up. (after up).same;
    crash = λ clean held may. record { kept = may.kept; trees = may.trees; left = outcomes may.trees may.left; tables = may.tables };
    whole = λ clean all db leaves. all db (outcomes db leaves);
    list = λ clean. still_lists g old.store mid new.store left mends;
    own = λ held holds clean. tt;
    counted = counted;
  }
  just_reads (Err fault) answers counted = record {
    honest = λ clean. left.clean (clean_mid clean);
    open_if = λ up. (left.clean (clean_mid up.0), (after up).was_open);
    ok = tt;
    err = λ clean up held holds. holds_standing Tables (g.view old.store) (g.view new.store) held holds clean (after up);
    same = λ clean up. (after up).same;
    crash = λ clean held may. record { kept = may.kept; trees = may.trees; left = outcomes may.trees may.left; tables = may.tables };
    whole = λ clean all db leaves. all db (outcomes db leaves);
    list = λ clean. still_lists g old.store mid new.store left mends;
    own = λ held holds clean. answers (clean_mid clean) held holds;
    counted = counted;
  }

-- what a read says that was begun and ended, of a store whose laws are these
module _ {S : Type 0} (g : Ghosts S) (settles : (s : S) (db : Trees) → IsTrue (g.view s).is_open → g.recovers s db → db ≡ (g.view s).committed) (shuts : (s : S) → (g.view s).is_open ≡ false → IsTrue (g.view s).is_broken)
    (stays : (s : S) → IsTrue (g.view s).is_open → g.recovers s (g.view s).committed) where
  pub read_ends : {T : Type 0} (old inside : Reading S) (mid : S) (new : Reading S) → inside ≡ old → (IsClean (g.view old.store) → (g.view old.store).is_broken ≡ false) → Looks g inside.store mid → Mends g mid new.store → (r : Result T StoreFault)
      → (IsClean (g.view mid) → (held : HeldMap) → HoldsBelow Tables (g.view inside.store) held → MatchResult r (λ _. (g.view mid).is_broken ≡ false) (λ fault. ¬ (IsForeign fault))) → new.failures ≡ failures_after r inside.failures → JustReads g old r new
  read_ends old inside mid new same up looks mends r answers counted =
      let up_inside = subst (λ (x : Reading S). IsClean (g.view x.store) → (g.view x.store).is_broken ≡ false) (sym same) up in
      subst (λ x. JustReads g x r new) same
      (just_reads g inside mid new (leaves_by g inside.store mid up_inside (settles inside.store) (shuts inside.store) (stays mid) looks) mends r answers counted)

-- a read that answers leaves a store that is still usable
module _ {S : Type 0} (g : Ghosts S) (shuts : (s : S) → (g.view s).is_open ≡ false → IsTrue (g.view s).is_broken) where
  pub opened_of : {T : Type 0} (mid new : S) → Mends g mid new → (r : Result T StoreFault) → OnOk r (IsClean (g.view mid) → (g.view mid).is_broken ≡ false) → IsClean (g.view new) → IfOk r (λ _. IsUsable (g.view new))
  opened_of mid new mends (Ok x) sound clean =
      let clean_mid = clean_until g mid new mends clean in
      let up = sound clean_mid in
      (clean, open_of _ _ (shuts new) (subst (λ s. (g.view s).is_broken ≡ false) (sym (mends.stays clean_mid up)) up))
  opened_of mid new mends (Err fault) sound clean = tt

-- the fault of one call is that of another
pub refused : {S T U : Type 0} (g : Ghosts S) (old new : Reading S) (fault : StoreFault) → JustReads {S = S} {T = T} g old (Err fault) new → JustReads {S = S} {T = U} g old (Err fault) new
refused g old new fault reads = record {
  honest = reads.honest;
  open_if = reads.open_if;
  ok = tt;
  err = reads.err;
  same = reads.same;
  crash = reads.crash;
  whole = reads.whole;
  list = reads.list;
  own = reads.own;
  counted = reads.counted;
}
