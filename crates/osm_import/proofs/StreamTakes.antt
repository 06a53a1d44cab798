-- One more delivery of a stream.
use Rattle.std.proofs.Common.{◌≡◌, ℕ, List, [], ◌∷◌, ◌++◌, refl, inl, inr, arith}
use Rattle.osm_rows.specs.Held.{HeldMap}
use Rattle.osm_rows.specs.declared.keeper.BlobReader.{Ghosts}
use Rattle.osm_import.specs.Deliveries.{DeliveryValue}
use Rattle.osm_import.specs.Runs.{IsFault, IsNone}
use Rattle.osm_import.specs.Stores.{Takes, TakesEach, TakesOne}
use Rattle.osm_import.specs.declared.answer.Answer.{Answer}
use Rattle.osm_import.proofs.EachLemmas.{each-push, each-run, each-causes, each-same}
use Rattle.osm_import.proofs.RunsLemmas.{run-push, delivers-sound, fault-or-not, own-push, none-push, leaves-run, leaves-fault}
use Rattle.osm_import.proofs.StreamLists.{delivery_of}

pub took-none : {S : Type 0} (store : Ghosts S)
    → ((s : S) (held left : HeldMap) → store.holds s held → store.leaves s left → left ≡ held) → ((s : S) (held : HeldMap) → store.holds s held → store.leaves_a_map s)
    → ((s : S) → store.same_tables s s) → (s : S) → Takes store s s [] []
took-none store settled has_map self s = record {
  each = refl;
  run = λ held is honest is_open_now. (held, refl, is);
  unbroken = λ held is honest none. (held, refl, is);
  crash = λ held is honest left it. settled s held left is it;
  whole = λ held is honest. has_map s held is;
  list = λ held is honest rows lists. lists;
  own = λ held is honest. tt;
  causes = refl;
  same = λ honest is_open none. self s;
  honest = λ h. h;
  open_if = λ h. h;
  counted = omega arith;
}

pub took-more : {S : Type 0} (store : Ghosts S)
    → ((s : S) (held left : HeldMap) → store.holds s held → store.leaves s left → left ≡ held) → ((s : S) → store.same_tables s s)
    → ((first next last : S) → store.same_tables first next → store.same_tables next last → store.same_tables first last)
    → (old mid new : S) (ds : List DeliveryValue) (rs : List Answer) (off : ℕ) (bytes : List ℕ) (a : Answer) → IsNone IsFault rs
    → Takes store old mid ds rs → TakesOne store mid new off bytes a
    → Takes store old new (ds ++ delivery_of off bytes ∷ []) (rs ++ a ∷ [])
took-more {S} store settled self joined old mid new ds rs off bytes a sound all one =
    let d = delivery_of off bytes in
    let each : TakesEach store old new (ds ++ d ∷ []) (rs ++ a ∷ []) = each-push store old mid new ds rs d a all.each one in
    record {
      each = each;
      run = λ held is honest up. each-run store old new (ds ++ d ∷ []) (rs ++ a ∷ []) each held is honest (inl up);
      unbroken = λ held is honest none. each-run store old new (ds ++ d ∷ []) (rs ++ a ∷ []) each held is honest (inr none);
      crash = λ held is honest.
          (let before = all.unbroken held is (one.honest honest) sound in
          elim (fault-or-not a) [
            | inl fault ↦ leaves-fault (store.leaves new) held ds rs before.0 d [] a before.1 sound fault (one.crash before.0 before.2 honest)
            | inr none ↦ (let step = delivers-sound (store.is_open new) (store.holds new) before.0 off bytes a none (one.step before.0 before.2 honest) in
                leaves-run (store.leaves new) held (ds ++ d ∷ []) (rs ++ a ∷ []) step.0 (run-push held ds rs before.0 d a step.0 before.1 step.1)
                (none-push IsFault rs a sound none) (λ left it. settled new step.0 left step.2 it))
          ]);
      whole = λ held is honest. (let before = all.unbroken held is (one.honest honest) sound in one.whole before.0 before.2 honest);
      list = λ held is honest rows lists. (let before = all.unbroken held is (one.honest honest) sound in one.list before.0 before.2 honest rows (all.list held is (one.honest honest) rows lists));
      own = λ held is honest. (let before = all.unbroken held is (one.honest honest) sound in own-push rs a (all.own held is (one.honest honest)) (one.own before.0 before.2 honest));
      causes = each-causes store old new (ds ++ d ∷ []) (rs ++ a ∷ []) each;
      same = λ honest up none. each-same store self joined old new (ds ++ d ∷ []) (rs ++ a ∷ []) each honest up none;
      honest = λ h. all.honest (one.honest h);
      open_if = λ h. all.open_if (one.open_if h);
      counted = (let x = all.counted in let y = one.counted in omega arith);
    }
