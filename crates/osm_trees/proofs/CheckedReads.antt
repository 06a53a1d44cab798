-- A read of the trees is one of a store of them whose indexes were checked.
use Rattle.std.proofs.Common.{◌≡◌, false, IsTrue, Result, Ok, Err, refl, subst}
use Rattle.sqlite_trees.specs.declared.store.Store.{Ghosts}
use Rattle.osm_rows.specs.declared.fault.StoreFault.{StoreFault}
use Rattle.osm_tree_audits.specs.declared.look.Look.{Look}
use Rattle.osm_trees.specs.Reading.{JustReads, Reading, open_of}
use Rattle.osm_trees.specs.Checking.{Checking, JustReadsChecked, same_look}

module _ {S : Type 0} (g : Ghosts S) (shuts : (s : S) → (g.view s).is_open ≡ false → IsTrue (g.view s).is_broken) (old new : Reading S) (look : Look) where
  abbrev pub before : Checking S
  before = record { trees = old; look = look }

  abbrev pub after : Checking S
  after = record { trees = new; look = look }

  reads_checked : {T : Type 0} (r : Result T StoreFault) → JustReads g old r new → JustReadsChecked g before r after
  reads_checked (Ok x) reads = record {
    honest = reads.honest;
    open_if = reads.open_if;
    ok = λ clean held holds.
        let still = reads.ok clean held holds.0 in
        let same = reads.same clean (clean, open_of _ _ (shuts new.store) still.unbroken) in
        (still, same_look (g.view old.store).committed (g.view new.store).committed look look same.committed refl holds.1);
    err = tt;
    same = λ clean up. (reads.same clean up, refl);
    crash = reads.crash;
    whole = reads.whole;
    list = reads.list;
    own = λ held holds. reads.own held holds.0;
    counted = reads.counted;
  }
  reads_checked (Err fault) reads = record {
    honest = reads.honest;
    open_if = reads.open_if;
    ok = tt;
    err = λ clean up held holds. (reads.err clean up held holds.0, same_look (g.view old.store).committed (g.view new.store).committed look look (reads.same clean up).committed refl holds.1);
    same = λ clean up. (reads.same clean up, refl);
    crash = reads.crash;
    whole = reads.whole;
    list = reads.list;
    own = λ held holds. reads.own held holds.0;
    counted = reads.counted;
  }

  -- the store's value is that of its fields
  pub checked_reads : {T : Type 0} (c : Checking S) → before ≡ c → (r : Result T StoreFault) → JustReads g old r new → JustReadsChecked g c r after
  checked_reads c is r reads = subst (λ (x : Checking S). JustReadsChecked g x r after) is (reads_checked r reads)
