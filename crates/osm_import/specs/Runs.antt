-- Any list of deliveries, and what the store holds after it.
use Rattle.std.specs.Prelude.{◌≡◌, ◌⊎◌, ◌↔◌, ◌≤◌, ℕ, List, [], ◌∷◌, Some}
use Rattle.std.specs.FinMap.{get}
use Rattle.osm_rows.specs.Held.{Blob, HeldMap}
use Rattle.osm_import.specs.Deliveries.{DeliveryValue}
use Rattle.osm_import.specs.Files.{IsHeldOfFile}
use Rattle.osm_import.specs.Step.{IsStep, IsEntry, IsOwn, CrashLeaves, FaultHasCause}
use Rattle.osm_import.specs.declared.answer.Answer.{Answer}
use Rattle.osm_import.specs.declared.answer.Answer.TheVariants.{Stored, AlreadyHeld, Refused, Fault}

-- the deliveries are answered one after the other, each by its step
abbrev pub IsRun : HeldMap → List DeliveryValue → List Answer → HeldMap → Type 0
IsRun held [] [] after = after ≡ held
IsRun held [] (answer ∷ answers) after = ⊥
IsRun held (delivery ∷ deliveries) [] after = ⊥
IsRun held (delivery ∷ deliveries) (answer ∷ answers) after = (next : HeldMap) × IsStep held delivery.off delivery.bytes answer next × IsRun next deliveries answers after

-- the answer is Stored
abbrev pub IsStored : Answer → Type 0
IsStored (Stored _) = Unit {0}
IsStored _ = ⊥

abbrev pub IsRefused : Answer → Type 0
IsRefused (Refused _) = Unit {0}
IsRefused _ = ⊥

-- the answer is a fault of the store
abbrev pub IsFault : Answer → Type 0
IsFault (Fault _) = Unit {0}
IsFault _ = ⊥

-- the blob is the entry of a delivery at off that is answered Stored
abbrev pub IsStoredIn : List DeliveryValue → List Answer → ℕ → Blob → Type 0
IsStoredIn [] answers off blob = ⊥
IsStoredIn (delivery ∷ deliveries) [] off blob = ⊥
IsStoredIn (delivery ∷ deliveries) (answer ∷ answers) off blob = (IsStored answer × (off ≡ delivery.off) × IsEntry off delivery.bytes blob) ⊎ IsStoredIn deliveries answers off blob

-- the blob is the entry of a good delivery at off
abbrev pub IsGoodIn : List DeliveryValue → ℕ → Blob → Type 0
IsGoodIn [] off blob = ⊥
IsGoodIn (delivery ∷ deliveries) off blob = ((off ≡ delivery.off) × IsEntry off delivery.bytes blob) ⊎ IsGoodIn deliveries off blob

-- the union: what was held at the start and the entries of the deliveries answered Stored, and nothing else
abbrev pub IsUnion : HeldMap → List DeliveryValue → List Answer → HeldMap → Type 0
IsUnion start deliveries answers held = (off : ℕ) (blob : Blob) → (get held off ≡ Some blob) ↔ ((get start off ≡ Some blob) ⊎ IsStoredIn deliveries answers off blob)

-- the same of all good deliveries
abbrev pub IsAll : HeldMap → List DeliveryValue → HeldMap → Type 0
IsAll start deliveries held = (off : ℕ) (blob : Blob) → (get held off ≡ Some blob) ↔ ((get start off ≡ Some blob) ⊎ IsGoodIn deliveries off blob)

-- no offset is answered Stored twice
abbrev pub AreStoredOnce : List DeliveryValue → List Answer → Type 0
AreStoredOnce [] answers = Unit {0}
AreStoredOnce (delivery ∷ deliveries) [] = Unit {0}
AreStoredOnce (delivery ∷ deliveries) (answer ∷ answers) = (IsStored answer → (blob : Blob) → ¬ (IsStoredIn deliveries answers delivery.off blob)) × AreStoredOnce deliveries answers

-- no answer is one of these
abbrev pub IsNone : (Answer → Type 0) → List Answer → Type 0
IsNone P [] = Unit {0}
IsNone P (answer ∷ answers) = ¬ (P answer) × IsNone P answers

-- what deliveries of one file do, to a store that holds nothing but blobs of that file
pub record IsImport (frames : List (List ℕ)) (start : HeldMap) (deliveries : List DeliveryValue) (answers : List Answer) (held : HeldMap) : Type 0 where
  pub run : IsRun start deliveries answers held
  pub union : IsUnion start deliveries answers held
  pub once : AreStoredOnce deliveries answers
  pub unrefused : IsNone IsRefused answers
  pub all : IsNone IsFault answers → IsAll start deliveries held
  pub of_file : IsHeldOfFile frames held

-- the deliveries, so answered, are a run over what a store held, and it holds what the run comes to
abbrev pub Runs : (HeldMap → Type 0) → HeldMap → List DeliveryValue → List Answer → Type 0
Runs holds start deliveries answers = (held : HeldMap) × IsRun start deliveries answers held × holds held

-- The store holds what these deliveries of one file, so answered, come to.
abbrev pub Imports : (HeldMap → Type 0) → List (List ℕ) → HeldMap → List DeliveryValue → List Answer → Type 0
Imports holds frames start deliveries answers = (held : HeldMap) × IsImport frames start deliveries answers held × holds held

-- Each fault among the answers has a cause of its own: the store's failures rise from the one number to the other, delivery
-- by delivery, a fault that isn't refused memory takes a rise in its own, and where they rise the answer is a fault.
abbrev pub HaveCauses : ℕ → ℕ → List Answer → Type 0
HaveCauses before now [] = now ≡ before
HaveCauses before now (answer ∷ answers) = (next : ℕ) × (before ≤ next) × FaultHasCause before next answer × HaveCauses next now answers

-- What a crash may leave after deliveries up to the first fault: the map after the answered ones, and after a fault
-- alone that map with the entry of the delivery at fault.
abbrev pub LeavesAfter : (HeldMap → Type 0) → HeldMap → List DeliveryValue → List Answer → Type 0
LeavesAfter leaves held deliveries [] = (left : HeldMap) → leaves left → left ≡ held
LeavesAfter leaves held [] (answer ∷ answers) = ⊥
LeavesAfter leaves held (delivery ∷ deliveries) (Fault fault ∷ answers) = CrashLeaves leaves held delivery.off delivery.bytes
LeavesAfter leaves held (delivery ∷ deliveries) (answer ∷ answers) = (next : HeldMap) × IsStep held delivery.off delivery.bytes answer next × LeavesAfter leaves next deliveries answers

-- A fault among the answers has shut the store: up to it each answer is that of its step, a crash leaves the map before
-- it or that map with the entry of its delivery, and nothing was stored behind it.
abbrev pub ShutAfter : (HeldMap → Type 0) → HeldMap → List DeliveryValue → List Answer → Type 0
ShutAfter leaves held [] answers = ⊥
ShutAfter leaves held (delivery ∷ deliveries) [] = ⊥
ShutAfter leaves held (delivery ∷ deliveries) (answer ∷ answers) = (IsFault answer × CrashLeaves leaves held delivery.off delivery.bytes × IsNone IsStored answers)
    ⊎ ((next : HeldMap) × IsStep held delivery.off delivery.bytes answer next × ShutAfter leaves next deliveries answers)

-- What a crash may leave after deliveries that go on after a fault: the map after all of them, or what the fault left
-- that shut the store.
abbrev pub LeavesAfterAll : (HeldMap → Type 0) → HeldMap → List DeliveryValue → List Answer → Type 0
LeavesAfterAll leaves held deliveries answers = Runs (λ after. (left : HeldMap) → leaves left → left ≡ after) held deliveries answers ⊎ ShutAfter leaves held deliveries answers

-- A store that had to be opened again before a delivery stores nothing, and a crash leaves what it could leave before.
pub record StaysShut (could_leave leaves : HeldMap → Type 0) (left_a_map leaves_a_map : Type 0) (answer : Answer) : Type 0 where
  pub unstored : ¬ (IsStored answer)
  pub crash : (left : HeldMap) → leaves left → could_leave left
  pub whole : left_a_map → leaves_a_map

-- the first fault among the answers, if there is one, doesn't say that the tables are another store's
abbrev pub IsFirstFaultOwn : List Answer → Type 0
IsFirstFaultOwn [] = Unit {0}
IsFirstFaultOwn (Fault fault ∷ answers) = IsOwn (Fault fault)
IsFirstFaultOwn (_ ∷ answers) = IsFirstFaultOwn answers

-- no fault among the answers says that the tables are another store's
abbrev pub AreOwn : List Answer → Type 0
AreOwn [] = Unit {0}
AreOwn (answer ∷ answers) = IsOwn answer × AreOwn answers

-- A blob that was stored or was held already is answered AlreadyHeld when it is delivered again, whatever was delivered
-- meanwhile, and the map stays as it is.
abbrev pub RepeatsChangeNothing : Type 0
RepeatsChangeNothing = (held next now after : HeldMap) (delivery : DeliveryValue) (first again : Answer) (between : List DeliveryValue) (answers : List Answer)
    → IsStep held delivery.off delivery.bytes first next → IsStored first ⊎ (first ≡ AlreadyHeld) → IsRun next between answers now
    → IsStep now delivery.off delivery.bytes again after → ¬ (IsFault again) → (again ≡ AlreadyHeld) × (after ≡ now)
