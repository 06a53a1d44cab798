-- Deliveries that crashes and store faults break off, with the store opened again after each.
use Rattle.std.specs.Prelude.{◌≡◌, ◌⊎◌, ◌↔◌, ℕ, List, [], ◌∷◌, Some}
use Rattle.std.specs.FinMap.{get, empty}
use Rattle.osm_rows.specs.Held.{Blob, HeldMap}
use Rattle.osm_import.specs.Deliveries.{DeliveryValue}
use Rattle.osm_import.specs.Files.{AreFrames, AreOfFile, IsFrameAt}
use Rattle.osm_import.specs.Runs.{IsRun, IsStored, IsFault, IsNone, IsGoodIn}
use Rattle.osm_import.specs.Step.{IsStep, IsEntry, IsStoring}
use Rattle.osm_import.specs.declared.answer.Answer.{Answer}

-- a delivery with its answer; a delivery that a crash or a store fault broke off, after which the store was opened again; a crash between two
pub data Event : Type 0 where
  answered : DeliveryValue → Answer → Event
  broken : DeliveryValue → Event
  reopened : Event

-- the map after an event
abbrev pub IsEvent : HeldMap → Event → HeldMap → Type 0
IsEvent held (answered delivery answer) next = IsStep held delivery.off delivery.bytes answer next × ¬ (IsFault answer)
IsEvent held (broken delivery) next = (next ≡ held) ⊎ ((count : ℕ) × IsStoring held delivery.off delivery.bytes count next)
IsEvent held reopened next = next ≡ held

-- each map that a crash may leave after a delivery is that of an event: of the answered one, unless the answer is a
-- fault, and of the broken one
pub record LeavesEvents (leaves : HeldMap → Type 0) (held : HeldMap) (delivery : DeliveryValue) (answer : Answer) : Type 0 where
  pub of_answered : ¬ (IsFault answer) → (left : HeldMap) → leaves left → IsEvent held (answered delivery answer) left
  pub of_broken : (left : HeldMap) → leaves left → IsEvent held (broken delivery) left

-- The events happened one after the other, from what was held at first to what is held at last.
abbrev pub IsHistory : HeldMap → List Event → HeldMap → Type 0
IsHistory held [] after = after ≡ held
IsHistory held (event ∷ events) after = (next : HeldMap) × IsEvent held event next × IsHistory next events after

-- the event's delivery has this property
abbrev pub OfDelivery : (DeliveryValue → Type 0) → Event → Type 0
OfDelivery P (answered delivery answer) = P delivery
OfDelivery P (broken delivery) = P delivery
OfDelivery P reopened = Unit {0}

-- the same of each event that has a delivery
abbrev pub OfDeliveries : (DeliveryValue → Type 0) → List Event → Type 0
OfDeliveries P [] = Unit {0}
OfDeliveries P (event ∷ events) = OfDelivery P event × OfDeliveries P events

-- the blob is the entry of a delivery at off that was answered Stored
abbrev pub StoresAt : Event → ℕ → Blob → Type 0
StoresAt (answered delivery answer) off blob = IsStored answer × (off ≡ delivery.off) × IsEntry off delivery.bytes blob
StoresAt _ off blob = ⊥

-- the blob is the entry of a good delivery at off that was broken off
abbrev pub BreaksAt : Event → ℕ → Blob → Type 0
BreaksAt (broken delivery) off blob = (off ≡ delivery.off) × IsEntry off delivery.bytes blob
BreaksAt _ off blob = ⊥

-- some event does so
abbrev pub Somewhere : (Event → ℕ → Blob → Type 0) → List Event → ℕ → Blob → Type 0
Somewhere P [] off blob = ⊥
Somewhere P (event ∷ events) off blob = P event off blob ⊎ Somewhere P events off blob

-- it is one of the deliveries
abbrev pub IsAmong : List DeliveryValue → DeliveryValue → Type 0
IsAmong [] delivery = ⊥
IsAmong (first ∷ rest) delivery = (delivery ≡ first) ⊎ IsAmong rest delivery

-- After any history of deliveries of one file to a new store, it holds the entries answered Stored, with or without
-- those of good deliveries that were broken off. The whole list delivered again without a fault gives all of it.
pub record IsRestartable (frames : List (List ℕ)) (events : List Event) (held : HeldMap) : Type 0 where
  pub stored : (off : ℕ) (blob : Blob) → Somewhere StoresAt events off blob → get held off ≡ Some blob
  pub nothing_else : (off : ℕ) (blob : Blob) → get held off ≡ Some blob → Somewhere StoresAt events off blob ⊎ Somewhere BreaksAt events off blob
  pub again : (deliveries : List DeliveryValue) (answers : List Answer) (after : HeldMap) → AreOfFile frames deliveries → OfDeliveries (IsAmong deliveries) events
      → IsRun held deliveries answers after → IsNone IsFault answers → (off : ℕ) (blob : Blob) → (get after off ≡ Some blob) ↔ IsGoodIn deliveries off blob

-- This is so of every history of deliveries of one file to a store that held nothing.
abbrev pub HistoriesRestart : Type 0
HistoriesRestart = (frames : List (List ℕ)) (events : List Event) (held : HeldMap) → AreFrames frames
    → OfDeliveries (λ delivery. IsFrameAt frames delivery.off delivery.bytes) events → IsHistory empty events held → IsRestartable frames events held
