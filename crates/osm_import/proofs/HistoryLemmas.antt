-- Restart after a crash at any moment.
use Rattle.std.proofs.Common.{◌≡◌, ◌⊎◌, ℕ, List, [], ◌∷◌, Some, None, sym, ◌∙◌, ap, subst, inl, inr}
use Rattle.std.specs.Ordering.{nat_cmp}
use Rattle.std.specs.FinMap.{get, empty, get-empty}
use Rattle.osm_rows.specs.Held.{Blob, HeldMap}
use Rattle.osm_import.specs.Deliveries.{DeliveryValue}
use Rattle.osm_import.specs.Files.{IsFrameAt, IsHeldOfFile}
use Rattle.osm_import.specs.Runs.{IsGoodIn}
use Rattle.osm_import.specs.Step.{IsEntry}
use Rattle.osm_import.specs.Histories.{Event, answered, broken, reopened, IsEvent, IsHistory, OfDelivery, OfDeliveries, StoresAt, BreaksAt, Somewhere, IsAmong, HistoriesRestart}
use Rattle.osm_import.specs.declared.answer.Answer.TheVariants.{Stored}
use Rattle.osm_import.proofs.RunsLemmas.{step-back, step-keep, step-adds, step-of_file, run-imports}

same-map : (held next : HeldMap) (off : ℕ) → next ≡ held → get next off ≡ get held off
same-map held next off is = ap (λ (m : HeldMap). get m off) is

event-back : (held : HeldMap) (e : Event) (next : HeldMap) → IsEvent held e next → (off : ℕ) (blob : Blob) → get next off ≡ Some blob → (get held off ≡ Some blob) ⊎ (StoresAt e off blob ⊎ BreaksAt e off blob)
event-back held (answered d a) next event off blob is = elim (step-back held d.off d.bytes a next event.0 off blob is) [ inl was ↦ inl was | inr new ↦ inr (inl new) ]
event-back held (broken d) next event off blob is = elim event [
  | inl same ↦ inl (sym (same-map held next off same) ∙ is)
  | inr (count, storing) ↦ elim (step-back held d.off d.bytes (Stored count) next storing off blob is) [ inl was ↦ inl was | inr (_, here, entry) ↦ inr (inr (here, entry)) ]
]
event-back held reopened next event off blob is = inl (sym (same-map held next off event) ∙ is)

event-keep : (held : HeldMap) (e : Event) (next : HeldMap) → IsEvent held e next → (off : ℕ) (blob : Blob) → get held off ≡ Some blob → get next off ≡ Some blob
event-keep held (answered d a) next event off blob is = step-keep held d.off d.bytes a next event.0 off blob is
event-keep held (broken d) next event off blob is = elim event [
  | inl same ↦ same-map held next off same ∙ is
  | inr (count, storing) ↦ step-keep held d.off d.bytes (Stored count) next storing off blob is
]
event-keep held reopened next event off blob is = same-map held next off event ∙ is

event-adds : (held : HeldMap) (e : Event) (next : HeldMap) → IsEvent held e next → (off : ℕ) (blob : Blob) → StoresAt e off blob → get next off ≡ Some blob
event-adds held (answered d a) next event off blob (stored, here, entry) = (step-adds held d.off d.bytes a next event.0 stored off blob here entry).0
event-adds held (broken d) next event off blob stores = absurd stores
event-adds held reopened next event off blob stores = absurd stores

event-of_file : (frames : List (List ℕ)) (held : HeldMap) (e : Event) (next : HeldMap) → IsEvent held e next → OfDelivery (λ (d : DeliveryValue). IsFrameAt frames d.off d.bytes) e → IsHeldOfFile frames held → IsHeldOfFile frames next
event-of_file frames held (answered d a) next event stands of_file = step-of_file frames held d.off d.bytes a next event.0 stands of_file
event-of_file frames held (broken d) next event stands of_file = elim event [
  | inl same ↦ subst (λ (m : HeldMap). IsHeldOfFile frames m) (sym same) of_file
  | inr (count, storing) ↦ step-of_file frames held d.off d.bytes (Stored count) next storing stands of_file
]
event-of_file frames held reopened next event stands of_file = subst (λ (m : HeldMap). IsHeldOfFile frames m) (sym event) of_file

history-keep : (held : HeldMap) (es : List Event) (after : HeldMap) → IsHistory held es after → (off : ℕ) (blob : Blob) → get held off ≡ Some blob → get after off ≡ Some blob
history-keep held [] after history off blob is = same-map held after off history ∙ is
history-keep held (e ∷ es) after history off blob is = history-keep history.0 es after history.2 off blob (event-keep held e history.0 history.1 off blob is)

history-back : (held : HeldMap) (es : List Event) (after : HeldMap) → IsHistory held es after → (off : ℕ) (blob : Blob) → get after off ≡ Some blob
    → (get held off ≡ Some blob) ⊎ (Somewhere StoresAt es off blob ⊎ Somewhere BreaksAt es off blob)
history-back held [] after history off blob is = inl (sym (same-map held after off history) ∙ is)
history-back held (e ∷ es) after history off blob is = elim (history-back history.0 es after history.2 off blob is) [
  | inl was ↦ elim (event-back held e history.0 history.1 off blob was) [ inl old ↦ inl old | inr new ↦ elim new [ inl stores ↦ inr (inl (inl stores)) | inr breaks ↦ inr (inr (inl breaks)) ] ]
  | inr later ↦ elim later [ inl stores ↦ inr (inl (inr stores)) | inr breaks ↦ inr (inr (inr breaks)) ]
]

history-adds : (held : HeldMap) (es : List Event) (after : HeldMap) → IsHistory held es after → (off : ℕ) (blob : Blob) → Somewhere StoresAt es off blob → get after off ≡ Some blob
history-adds held [] after history off blob stores = absurd stores
history-adds held (e ∷ es) after history off blob stores = elim stores [
  | inl here ↦ history-keep history.0 es after history.2 off blob (event-adds held e history.0 history.1 off blob here)
  | inr later ↦ history-adds history.0 es after history.2 off blob later
]

pub history-of_file : (frames : List (List ℕ)) (held : HeldMap) (es : List Event) (after : HeldMap) → IsHistory held es after → OfDeliveries (λ (d : DeliveryValue). IsFrameAt frames d.off d.bytes) es → IsHeldOfFile frames held → IsHeldOfFile frames after
history-of_file frames held [] after history stands of_file = subst (λ (m : HeldMap). IsHeldOfFile frames m) (sym history) of_file
history-of_file frames held (e ∷ es) after history stands of_file = history-of_file frames history.0 es after history.2 stands.1 (event-of_file frames held e history.0 history.1 stands.0 of_file)

pub among-good : (ds : List DeliveryValue) (d : DeliveryValue) (off : ℕ) (blob : Blob) → IsAmong ds d → off ≡ d.off → IsEntry off d.bytes blob → IsGoodIn ds off blob
among-good [] d off blob among here entry = absurd among
among-good (x ∷ ds) d off blob among here entry = elim among [
  | inl same ↦ inl (here ∙ ap (λ (y : DeliveryValue). y.off) same, subst (λ (y : DeliveryValue). IsEntry off y.bytes blob) same entry)
  | inr later ↦ inr (among-good ds d off blob later here entry)
]

stores-good : (ds : List DeliveryValue) (es : List Event) (off : ℕ) (blob : Blob) → OfDeliveries (IsAmong ds) es → Somewhere StoresAt es off blob → IsGoodIn ds off blob
stores-good ds [] off blob among stores = absurd stores
stores-good ds (answered d a ∷ es) off blob among stores = elim stores [ inl (_, here, entry) ↦ among-good ds d off blob among.0 here entry | inr later ↦ stores-good ds es off blob among.1 later ]
stores-good ds (broken d ∷ es) off blob among stores = elim stores [ inl here ↦ absurd here | inr later ↦ stores-good ds es off blob among.1 later ]
stores-good ds (reopened ∷ es) off blob among stores = elim stores [ inl here ↦ absurd here | inr later ↦ stores-good ds es off blob among.1 later ]

breaks-good : (ds : List DeliveryValue) (es : List Event) (off : ℕ) (blob : Blob) → OfDeliveries (IsAmong ds) es → Somewhere BreaksAt es off blob → IsGoodIn ds off blob
breaks-good ds [] off blob among breaks = absurd breaks
breaks-good ds (broken d ∷ es) off blob among breaks = elim breaks [ inl (here, entry) ↦ among-good ds d off blob among.0 here entry | inr later ↦ breaks-good ds es off blob among.1 later ]
breaks-good ds (answered d a ∷ es) off blob among breaks = elim breaks [ inl here ↦ absurd here | inr later ↦ breaks-good ds es off blob among.1 later ]
breaks-good ds (reopened ∷ es) off blob among breaks = elim breaks [ inl here ↦ absurd here | inr later ↦ breaks-good ds es off blob among.1 later ]

pub nothing-held : (off : ℕ) (blob : Blob) → get {R = nat_cmp} empty off ≡ Some blob → ⊥
nothing-held off blob is = let bad : Some blob ≡ None = sym is ∙ get-empty nat_cmp off in cc

nothing-else : (es : List Event) (held : HeldMap) → IsHistory empty es held → (off : ℕ) (blob : Blob) → get held off ≡ Some blob → Somewhere StoresAt es off blob ⊎ Somewhere BreaksAt es off blob
nothing-else es held history off blob is = elim (history-back empty es held history off blob is) [ inl was ↦ absurd (nothing-held off blob was) | inr new ↦ new ]

pub histories-restart : HistoriesRestart
histories-restart frames es held whole stands history =
    let of_file : IsHeldOfFile frames held = history-of_file frames empty es held history stands (λ off blob is. absurd (nothing-held off blob is)) in
    record {
      stored = history-adds empty es held history;
      nothing_else = nothing-else es held history;
      again = λ ds rs after of_files among run sound off blob.
          (let all = (run-imports frames whole held ds rs after run of_files of_file).all sound off blob in (
            (λ is. elim (all.0 is) [
              | inl was ↦ elim (nothing-else es held history off blob was) [ inl stores ↦ stores-good ds es off blob among stores | inr breaks ↦ breaks-good ds es off blob among breaks ]
              | inr good ↦ good
            ]),
            (λ good. all.1 (inr good)),
          ));
    }
