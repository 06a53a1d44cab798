-- What a read leaves of the trees once it is ended: what it left broken is rolled back.
use Rattle.std.proofs.Common.{◌≡◌, ◌⊎◌, ◌∙◌, inl, inr, Bool, true, false, IsTrue, refl, sym, subst, arith}
use Rattle.sqlite_trees.specs.declared.store.Store.{Ghosts}
use Rattle.sqlite_trees.specs.Tree.{Trees}
use Rattle.sqlite_trees.specs.View.{View, IsClean, IsRolledBack}
use Rattle.sqlite_exec.specs.Calls.{OnlyReads}
use Rattle.osm_rows.specs.declared.schema.layout.Layout.{Layout}
use Rattle.osm_rows.specs.Held.{HeldMap}
use Rattle.osm_tree_writes.specs.Putting.{TreesHold}
use Rattle.osm_tree_audits.specs.Looking.{Looks}
use Rattle.osm_trees.specs.Below.{HoldsBelow, Mends, SameTrees}
use Rattle.osm_trees.specs.Reading.{open_of}
use Rattle.osm_tree_audits.proofs.Looking.{clean_before}
use Rattle.osm_trees.proofs.Looking.{same_commit, same_trees}

-- what a read has left, if it was begun on trees that weren't broken, or wasn't begun
pub record Leaves {S : Type 0} (g : Ghosts S) (old mid : S) : Type 0 where
  pub clean : IsClean (g.view mid) → IsClean (g.view old)
  pub was_open : IsClean (g.view mid) → IsTrue (g.view mid).is_open → IsTrue (g.view old).is_open
  pub committed : IsClean (g.view mid) → IsTrue (g.view mid).is_open → (g.view mid).committed ≡ (g.view old).committed
  pub reads : IsClean (g.view mid) → (g.view mid).is_broken ≡ false → OnlyReads (g.view old) (g.view mid)
  pub outcomes : (db : Trees) → g.recovers mid db → g.recovers old db

-- it has the trees of the last commit, as before, unless it has to be opened again
pub record Stands (old new : View) : Type 0 where
  pub unbroken : new.is_broken ≡ false
  pub was_open : IsTrue old.is_open
  pub same : SameTrees old new

reads_same : (a b : View) → OnlyReads a b → SameTrees a b
reads_same a b reads = record { committed = same_commit a b reads; settled = λ settled. same_trees a b reads ∙ settled ∙ sym (same_commit a b reads) }

broken_or_not : (is_broken : Bool) → (is_broken ≡ false) ⊎ IsTrue is_broken
broken_or_not false = inl refl
broken_or_not true = inr refl

module _ {S : Type 0} (g : Ghosts S) where
  pub leaves_all : (s : S) → Leaves g s s
  leaves_all s = record { clean = λ clean. clean; was_open = λ clean up. up; committed = λ clean up. refl; reads = λ clean up. refl; outcomes = λ db left. left }

  -- while the trees can be opened no more than they could, a crash tells what was committed
  pub leaves_by : (old mid : S) → (IsClean (g.view old) → (g.view old).is_broken ≡ false) → ((db : Trees) → IsTrue (g.view old).is_open → g.recovers old db → db ≡ (g.view old).committed) → ((g.view old).is_open ≡ false → IsTrue (g.view old).is_broken)
      → (IsTrue (g.view mid).is_open → g.recovers mid (g.view mid).committed) → Looks g old mid → Leaves g old mid
  leaves_by old mid up settles shuts stays looks =
      let was_open : IsClean (g.view mid) → IsTrue (g.view old).is_open = λ clean. open_of _ _ shuts (up (clean_before g old mid looks clean)) in
      record {
        clean = clean_before g old mid looks;
        was_open = λ clean is_open. was_open clean;
        committed = λ clean is_open. settles _ (was_open clean) (looks.quiet.outcomes _ (stays is_open));
        reads = looks.reads;
        outcomes = looks.quiet.outcomes;
      }

  pub clean_until : (mid new : S) → Mends g mid new → IsClean (g.view new) → IsClean (g.view mid)
  clean_until mid new mends clean = let q = mends.quiet.clean in omega (arith, q, clean)

module _ {S : Type 0} (g : Ghosts S) (old mid new : S) (left : Leaves g old mid) (mends : Mends g mid new) where
  clean_mid : IsClean (g.view new) → IsClean (g.view mid)
  clean_mid = clean_until g mid new mends

  pub outcomes_all : (db : Trees) → g.recovers new db → g.recovers old db
  outcomes_all db leaves = left.outcomes db (mends.quiet.outcomes db leaves)

  stands_up : IsClean (g.view mid) → IsTrue (g.view new).is_open → (g.view mid).is_broken ≡ false → Stands (g.view old) (g.view new)
  stands_up clean is_open up =
      let same : new ≡ mid = mends.stays clean up in
      subst (λ s. Stands (g.view old) (g.view s)) (sym same) (record {
        unbroken = up;
        was_open = left.was_open clean (subst (λ s. IsTrue (g.view s).is_open) same is_open);
        same = reads_same (g.view old) (g.view mid) (left.reads clean up);
      })

  stands_rolled : IsClean (g.view new) → IsTrue (g.view new).is_open → IsRolledBack (g.view mid) (g.view new) → Stands (g.view old) (g.view new)
  stands_rolled clean is_open rolled =
      let kept = rolled.kept clean in
      let was_open : IsTrue (g.view mid).is_open = kept.was_open is_open in
      let committed : (g.view new).committed ≡ (g.view mid).committed = kept.committed is_open in
      record {
        unbroken = (rolled.undone is_open).1;
        was_open = left.was_open (clean_mid clean) was_open;
        same = record { committed = committed ∙ left.committed (clean_mid clean) was_open; settled = λ settled. (rolled.undone is_open).0 ∙ sym committed };
      }

  pub stands : IsClean (g.view new) → IsTrue (g.view new).is_open → Stands (g.view old) (g.view new)
  stands clean is_open = elim (broken_or_not (g.view mid).is_broken) [
    | inl up ↦ stands_up (clean_mid clean) is_open up
    | inr broken ↦ stands_rolled clean is_open (mends.undone (clean_mid clean) broken)
  ]

-- where the trees of the last commit are those of the commit before, they hold what was held
pub holds_still : (layout : Layout) (a b : View) (held : HeldMap) → HoldsBelow layout a held → IsClean b → b.is_broken ≡ false → b.trees ≡ a.committed → b.committed ≡ a.committed → HoldsBelow layout b held
holds_still layout a b held holds clean unbroken trees committed =
    let same = trees ∙ sym holds.settled in
    record {
      clean = clean;
      unbroken = unbroken;
      settled = trees ∙ sym committed;
      kept = holds.kept;
      tables = subst (TreesHold layout held) (sym same) holds.tables;
      only = λ other kept tables. holds.only other kept (subst (TreesHold layout other) same tables);
    }

pub holds_standing : (layout : Layout) (a b : View) (held : HeldMap) → HoldsBelow layout a held → IsClean b → Stands a b → HoldsBelow layout b held
holds_standing layout a b held holds clean stands = holds_still layout a b held holds clean stands.unbroken (stands.same.settled holds.settled ∙ stands.same.committed) stands.same.committed
