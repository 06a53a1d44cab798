-- A delivery that is repeated.
use Rattle.std.proofs.Common.{◌≡◌, ℕ, List, refl, inl, inr, sym, subst}
use Rattle.osm_rows.specs.Held.{HeldMap}
use Rattle.osm_import.specs.Deliveries.{DeliveryValue}
use Rattle.osm_import.specs.Runs.{IsRun, IsStored, RepeatsChangeNothing}
use Rattle.osm_import.specs.Step.{IsStep, IsHeldAlready}
use Rattle.osm_import.specs.declared.answer.Answer.{Answer}
use Rattle.osm_import.specs.declared.answer.Answer.TheVariants.{Stored, AlreadyHeld, Bad, Refused, Fault}
use Rattle.osm_import.proofs.RunsLemmas.{step-adds, run-keep}
use Rattle.osm_import.proofs.StepLaws.{one-step}

-- what is answered Stored is held behind it
stored-held : (held : HeldMap) (o : ℕ) (w : List ℕ) (answer : Answer) (next : HeldMap) → IsStep held o w answer next → IsStored answer → IsHeldAlready next o w
stored-held held o w (Stored count) next step stored = record {
  entry = step.entry;
  is_entry = step.is_entry;
  blob = step.entry;
  found = (step-adds held o w (Stored count) next step tt o step.entry refl step.is_entry).0;
  same = step.is_entry.digested;
}
stored-held held o w AlreadyHeld next step stored = absurd stored
stored-held held o w (Bad fault) next step stored = absurd stored
stored-held held o w (Refused reason) next step stored = absurd stored
stored-held held o w (Fault fault) next step stored = absurd stored

held-still : (held : HeldMap) (o : ℕ) (w : List ℕ) (answer : Answer) (next : HeldMap) → IsStep held o w answer next → answer ≡ AlreadyHeld → IsHeldAlready next o w
held-still held o w answer next step is =
    let already : IsStep held o w AlreadyHeld next = subst (λ (a : Answer). IsStep held o w a next) is step in
    subst (λ (m : HeldMap). IsHeldAlready m o w) (sym already.1) already.0

-- what is held stays so over any deliveries
held-later : (held : HeldMap) (o : ℕ) (w : List ℕ) (ds : List DeliveryValue) (rs : List Answer) (after : HeldMap) → IsRun held ds rs after → IsHeldAlready held o w → IsHeldAlready after o w
held-later held o w ds rs after run is = record {
  entry = is.entry;
  is_entry = is.is_entry;
  blob = is.blob;
  found = run-keep held ds rs after run o is.blob is.found;
  same = is.same;
}

pub repeats-change-nothing : RepeatsChangeNothing
repeats-change-nothing held next now after d first again between answers step met run second sound =
    let here : IsHeldAlready next d.off d.bytes = elim met [
      | inl stored ↦ stored-held held d.off d.bytes first next step stored
      | inr already ↦ held-still held d.off d.bytes first next step already
    ] in
    one-step now d.off d.bytes again AlreadyHeld after now second (held-later next d.off d.bytes between answers now run here, refl) sound (λ h. h)
