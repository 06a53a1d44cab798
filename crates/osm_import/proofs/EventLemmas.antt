-- From the call that delivers to the events of a history.
use Rattle.std.proofs.Common.{◌≡◌, ℕ, List, sym, subst}
use Rattle.osm_rows.specs.Held.{HeldMap}
use Rattle.osm_import.specs.Step.{IsStep, Delivers, CrashLeaves}
use Rattle.osm_import.specs.Histories.{LeavesEvents}
use Rattle.osm_import.specs.declared.answer.Answer.{Answer}
use Rattle.osm_import.proofs.RunsLemmas.{delivers-sound}

pub leaves-events : (is_open : Type 0) (holds leaves : HeldMap → Type 0) → ((now left : HeldMap) → holds now → leaves left → left ≡ now)
    → (held : HeldMap) (off : ℕ) (bytes : List ℕ) (answer : Answer) → Delivers is_open holds held off bytes answer → CrashLeaves leaves held off bytes
    → LeavesEvents leaves held (record { off = off; bytes = bytes }) answer
leaves-events is_open holds leaves settled held off bytes answer step crash = record {
  of_answered = λ sound left it.
      (let made = delivers-sound is_open holds held off bytes answer sound step in
      (subst (λ (m : HeldMap). IsStep held off bytes answer m) (sym (settled made.0 left made.2 it)) made.1, sound));
  of_broken = crash;
}
