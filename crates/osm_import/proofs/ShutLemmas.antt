-- Deliveries that go on after a fault, and what a crash leaves of them.
use Rattle.std.proofs.Common.{◌≡◌, ◌⊎◌, List, [], ◌∷◌, refl, sym, subst, inl, inr}
use Rattle.osm_rows.specs.Held.{HeldMap}
use Rattle.osm_rows.specs.declared.keeper.BlobReader.{Ghosts}
use Rattle.osm_import.specs.Deliveries.{DeliveryValue}
use Rattle.osm_import.specs.Runs.{IsStored, IsNone, Runs, ShutAfter, LeavesAfterAll}
use Rattle.osm_import.specs.Step.{IsStep}
use Rattle.osm_import.specs.Stores.{TakesEach}
use Rattle.osm_import.specs.declared.answer.Answer.{Answer}
use Rattle.osm_import.proofs.EachLemmas.{each-honest}
use Rattle.osm_import.proofs.RunsLemmas.{delivers-step, delivers-sound, fault-or-not}

-- what deliveries to a store that is shut have done
record StayShut {S : Type 0} (store : Ghosts S) (old new : S) (rs : List Answer) : Type 0 where
  unstored : IsNone IsStored rs
  crash : (left : HeldMap) → store.leaves new left → store.leaves old left
  whole : store.leaves_a_map old → store.leaves_a_map new
  closed : ¬ (store.is_open new)

each-shut : {S : Type 0} (store : Ghosts S) (old new : S) (ds : List DeliveryValue) (rs : List Answer) → TakesEach store old new ds rs → store.is_honest new → ¬ (store.is_open old) → StayShut store old new rs
each-shut {S} store old new [] [] all honest closed = record {
  unstored = tt;
  crash = λ left it. subst (λ (s : S). store.leaves s left) all it;
  whole = λ maps. subst (λ (s : S). store.leaves_a_map s) (sym all) maps;
  closed = λ up. closed (subst (λ (s : S). store.is_open s) all up);
}
each-shut store old new [] (a ∷ rs) all honest closed = absurd all
each-shut store old new (d ∷ ds) [] all honest closed = absurd all
each-shut store old new (d ∷ ds) (a ∷ rs) all honest closed =
    let stays = all.1.shut (each-honest store all.0 new ds rs all.2 honest) closed in
    let rest = each-shut store all.0 new ds rs all.2 honest (λ up. closed (all.1.open_if up)) in
    record {
      unstored = (stays.unstored, rest.unstored);
      crash = λ left it. stays.crash left (rest.crash left it);
      whole = λ maps. rest.whole (stays.whole maps);
      closed = rest.closed;
    }

-- how far deliveries have come: all are steps and the store holds what they leave, or a fault among them has shut it
abbrev pub HasCome : {S : Type 0} → Ghosts S → S → HeldMap → List DeliveryValue → List Answer → Type 0
HasCome store now held ds rs = Runs (store.holds now) held ds rs ⊎ (¬ (store.is_open now) × store.leaves_a_map now × ShutAfter (store.leaves now) held ds rs)

come-cons : {S : Type 0} (store : Ghosts S) (now : S) (held next : HeldMap) (d : DeliveryValue) (ds : List DeliveryValue) (a : Answer) (rs : List Answer)
    → IsStep held d.off d.bytes a next → HasCome store now next ds rs → HasCome store now held (d ∷ ds) (a ∷ rs)
come-cons store now held next d ds a rs step come = elim come [
  | inl run ↦ inl (run.0, (next, step, run.1), run.2)
  | inr (closed, whole, after) ↦ inr (closed, whole, inr (next, step, after))
]

pub each-come : {S : Type 0} (store : Ghosts S) → ((s : S) → store.is_honest s → store.is_open s ⊎ ¬ (store.is_open s))
    → (old new : S) (ds : List DeliveryValue) (rs : List Answer) → TakesEach store old new ds rs → (held : HeldMap) → store.holds old held → store.is_honest new → HasCome store new held ds rs
each-come {S} store open_or_shut old new [] [] all held holds honest = inl (held, refl, subst (λ (s : S). store.holds s held) (sym all) holds)
each-come store open_or_shut old new [] (a ∷ rs) all held holds honest = absurd all
each-come store open_or_shut old new (d ∷ ds) [] all held holds honest = absurd all
each-come store open_or_shut old new (d ∷ ds) (a ∷ rs) all held holds honest =
    let mid = each-honest store all.0 new ds rs all.2 honest in
    let made = all.1.step held holds mid in elim (fault-or-not a) [
      | inr none ↦
          let step = delivers-sound (store.is_open all.0) (store.holds all.0) held d.off d.bytes a none made in
          come-cons store new held step.0 d ds a rs step.1 (each-come store open_or_shut all.0 new ds rs all.2 step.0 step.2 honest)
      | inl fault ↦ elim (open_or_shut all.0 mid) [
        | inl up ↦
            let step = delivers-step (store.is_open all.0) (store.holds all.0) held d.off d.bytes a made up in
            come-cons store new held step.0 d ds a rs step.1 (each-come store open_or_shut all.0 new ds rs all.2 step.0 step.2 honest)
        | inr closed ↦
            let rest = each-shut store all.0 new ds rs all.2 honest closed in
            inr (rest.closed, rest.whole (all.1.whole held holds mid), inl (fault, (λ left it. all.1.crash held holds mid left (rest.crash left it)), rest.unstored))
      ]
    ]

pub come-leaves : {S : Type 0} (store : Ghosts S) → ((s : S) (held left : HeldMap) → store.holds s held → store.leaves s left → left ≡ held)
    → (now : S) (held : HeldMap) (ds : List DeliveryValue) (rs : List Answer) → HasCome store now held ds rs → LeavesAfterAll (store.leaves now) held ds rs
come-leaves store settled now held ds rs come = elim come [
  | inl run ↦ inl (run.0, run.1, λ left it. settled now run.0 left run.2 it)
  | inr (closed, whole, after) ↦ inr after
]

pub come-leaves_a_map : {S : Type 0} (store : Ghosts S) → ((s : S) (held : HeldMap) → store.holds s held → store.leaves_a_map s)
    → (now : S) (held : HeldMap) (ds : List DeliveryValue) (rs : List Answer) → HasCome store now held ds rs → store.leaves_a_map now
come-leaves_a_map store has_map now held ds rs come = elim come [
  | inl run ↦ has_map now run.0 run.2
  | inr (closed, whole, after) ↦ whole
]
