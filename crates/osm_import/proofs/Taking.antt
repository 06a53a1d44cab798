-- From the calls of a store to what a delivery, or the copy of a blob, has done to it.
use Rattle.std.proofs.Common.{◌≡◌, ◌⊎◌, ℕ, ◌≤◌, List, Result, Ok, inl, inr, refl}
use Rattle.osm_rows.specs.Calls.{OfHeld}
use Rattle.osm_rows.specs.Held.{Blob, HeldMap, IsApart}
use Rattle.osm_rows.specs.Keeping.{Adds, IsAddable, OnlyReads, with_blob}
use Rattle.osm_rows.specs.declared.fault.StoreFault.{StoreFault}
use Rattle.osm_rows.specs.declared.keeper.BlobReader.{Ghosts}
use Rattle.osm_import.specs.Runs.{IsStored}
use Rattle.osm_import.specs.Step.{Delivers, CrashLeaves, FaultHasCause, IsOwn}
use Rattle.osm_import.specs.Stores.{TakesOne}
use Rattle.osm_import.specs.declared.answer.Answer.{Answer}
use Rattle.osm_import.proofs.EventLemmas.{leaves-events}

-- what a store is promised to do
pub record Promises {S : Type 0} (store : Ghosts S) : Type 0 where
  pub settled : (s : S) (held left : HeldMap) → store.holds s held → store.leaves s left → left ≡ held
  pub leaves_held : (s : S) (held : HeldMap) → store.holds s held → store.leaves_a_map s
  pub is_apart : (s : S) (held : HeldMap) → store.holds s held → IsApart held
  pub same_then : (first next last : S) → store.same_tables first next → store.same_tables next last → store.same_tables first last

abbrev pub Reads : {S T : Type 0} → Ghosts S → S → Result T StoreFault → S → Type 0
Reads store old result new = OnlyReads store.holds store.leaves store.leaves_a_map store.lists store.same_tables store.is_honest store.is_open store.failures old result new

abbrev pub Puts : {S T : Type 0} → Ghosts S → ℕ → Blob → S → Result T StoreFault → S → Type 0
Puts store off blob old result new = Adds store.holds store.leaves store.leaves_a_map store.lists store.same_tables store.is_honest store.is_open store.failures off blob old result new

-- a delivery that only reads
pub takes_by_reading : {S T : Type 0} (store : Ghosts S) → Promises store → (old new : S) (off : ℕ) (bytes : List ℕ) (answer : Answer) (result : Result T StoreFault) → Reads store old result new
    → OfHeld store old new (λ held. Delivers (store.is_open new) (store.holds new) held off bytes answer) → ¬ (IsStored answer) → OfHeld store old new (λ _. IsOwn answer)
    → FaultHasCause (store.failures old) (store.failures new) answer → store.failures old ≤ store.failures new → TakesOne store old new off bytes answer
takes_by_reading store promised old new off bytes answer result reads step unstored own cause counted =
    let crash : OfHeld store old new (λ held. CrashLeaves (store.leaves new) held off bytes)
    = λ held holds honest left leaves. inl (promised.settled old held left holds (reads.crash honest left leaves)) in
    record {
      step = step;
      crash = crash;
      events = λ held holds honest. leaves-events (store.is_open new) (store.holds new) (store.leaves new) (promised.settled new) held off bytes answer (step held holds honest) (crash held holds honest);
      whole = λ held holds honest. reads.whole honest (promised.leaves_held old held holds);
      list = λ held holds honest. reads.list honest;
      own = own;
      cause = cause;
      same = λ honest up other. reads.same honest up;
      shut = λ honest shut. record { unstored = unstored; crash = reads.crash honest; whole = reads.whole honest };
      honest = reads.honest;
      open_if = reads.open_if;
      counted = counted;
    }

-- a delivery that finds its place free, and puts its blob
module _ {S T U : Type 0} (store : Ghosts S) (promised : Promises store) (old mid new : S) (off : ℕ) (bytes : List ℕ) (blob : Blob) (place : T) (reads : Reads store old (Ok place) mid)
    (result : Result U StoreFault) (puts : Puts store off blob mid result new) (can : OfHeld store old mid (λ held. IsAddable held off blob)) where
  -- a map that is held takes the blob
  pub held_then : (held : HeldMap) → store.holds old held → store.is_honest new → store.holds mid held × IsAddable held off blob
  held_then held holds honest = (let earlier = puts.honest honest in (reads.ok earlier held holds, can held holds earlier))

  pub crash_then : (held left : HeldMap) → store.holds old held → store.is_honest new → store.leaves new left → (left ≡ held) ⊎ (left ≡ with_blob held off blob)
  crash_then held left holds honest leaves =
      let now = held_then held holds honest in
      elim (puts.crash honest held left now.0 now.1 leaves) [
        | inl was ↦ inl (promised.settled old held left holds (reads.crash (puts.honest honest) left was))
        | inr more ↦ inr more
      ]

  pub takes_by_putting : (answer : Answer) → ((held after : HeldMap) → store.holds old held → store.is_honest new → after ≡ with_blob held off blob → CrashLeaves (λ left. left ≡ after) held off bytes)
      → OfHeld store old new (λ held. Delivers (store.is_open new) (store.holds new) held off bytes answer) → (store.is_honest new → ¬ (store.is_open mid) → ¬ (IsStored answer)) → OfHeld store old new (λ _. IsOwn answer)
      → (store.is_honest new → store.is_open new → ¬ (IsStored answer) → store.same_tables mid new)
      → FaultHasCause (store.failures old) (store.failures new) answer → store.failures old ≤ store.failures new → TakesOne store old new off bytes answer
  takes_by_putting answer entry step unstored own same cause counted =
      let crash : OfHeld store old new (λ held. CrashLeaves (store.leaves new) held off bytes)
      = λ held holds honest left leaves. elim (crash_then held left holds honest leaves) [
        | inl was ↦ inl was
        | inr more ↦ entry held left holds honest more left refl
      ] in
      record {
        step = step;
        crash = crash;
        events = λ held holds honest. leaves-events (store.is_open new) (store.holds new) (store.leaves new) (promised.settled new) held off bytes answer (step held holds honest) (crash held holds honest);
        whole = λ held holds honest. (let now = held_then held holds honest in puts.whole honest held now.0 now.1);
        list = λ held holds honest rows lists. (let now = held_then held holds honest in puts.list honest held now.0 now.1 rows (reads.list (puts.honest honest) rows lists));
        own = own;
        cause = cause;
        same = λ honest up other. promised.same_then old mid new (reads.same (puts.honest honest) (puts.open_if up)) (same honest up other);
        shut = λ honest shut.
            let still : ¬ (store.is_open mid) = λ up. shut (reads.open_if up) in
            record {
              unstored = unstored honest still;
              crash = λ left leaves. reads.crash (puts.honest honest) left (puts.shut honest still left leaves);
              whole = λ all. puts.shut_whole honest still (reads.whole (puts.honest honest) all);
            };
        honest = λ honest. reads.honest (puts.honest honest);
        open_if = λ up. reads.open_if (puts.open_if up);
        counted = counted;
      }
