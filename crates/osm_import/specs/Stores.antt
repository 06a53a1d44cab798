-- What calls do to a store, in the terms of what is said of one.
use Rattle.std.specs.Prelude.{◌≡◌, ◌⊎◌, ℕ, ◌≤◌, false, List, [], ◌∷◌, length, Some, Result, Ok, Err, OnOk, OnErr, IfOk, IfErr}
use Rattle.std.specs.FinMap.{get}
use Rattle.osm_value.specs.declared.element.Element.{Element}
use Rattle.osm_rows.specs.Held.{Blob, HeldMap, IsFree}
use Rattle.osm_rows.specs.Calls.{OfHeld}
use Rattle.osm_rows.specs.Keeping.{KeepsList, extent_of, with_blob}
use Rattle.osm_rows.specs.declared.keeper.Extent.{Extent}
use Rattle.osm_rows.specs.declared.keeper.BlobReader.{Ghosts}
use Rattle.osm_import.specs.Copies.{BlobCopied, CopiesBlob, Copies, CrashLeavesBlob, CrashLeavesSome, BlobHasCause, BlobTells, CopyHasCause, CopyTells, IsOwnBlob, IsOwnCopy, ComeTo, is_added}
use Rattle.osm_import.specs.Deliveries.{DeliveryValue}
use Rattle.osm_import.specs.Files.{AreFrames, AreOfFile, IsHeldOfFile}
use Rattle.osm_import.specs.Step.{Delivers, CrashLeaves, FaultHasCause, IsOwn}
use Rattle.osm_import.specs.Histories.{LeavesEvents}
use Rattle.osm_import.specs.Runs.{Runs, Imports, LeavesAfter, LeavesAfterAll, HaveCauses, AreOwn, IsFirstFaultOwn, IsFault, IsNone, IsStored, StaysShut}
use Rattle.osm_import.specs.declared.answer.Answer.{Answer}
use Rattle.osm_import.specs.declared.copy.BlobCopy.TheVariants.{Added, AlreadyHeld}
use Rattle.osm_import.specs.declared.copy.CopyCounts.{CopyCounts}
use Rattle.osm_import.specs.declared.copy.CopyStop.{CopyStop}

-- All that `deliver` promises of one delivery: what it answers and leaves, what a crash may leave now, why a fault is answered,
-- and what becomes of the store. Where nothing is stored, the tables are as they were, whatever rows they have.
pub record TakesOne {S : Type 0} (store : Ghosts S) (old new : S) (off : ℕ) (bytes : List ℕ) (answer : Answer) : Type 0 where
  pub step : OfHeld store old new (λ held. Delivers (store.is_open new) (store.holds new) held off bytes answer)
  pub crash : OfHeld store old new (λ held. CrashLeaves (store.leaves new) held off bytes)
  pub events : OfHeld store old new (λ held. LeavesEvents (store.leaves new) held (record { off = off; bytes = bytes }) answer)
  pub whole : OfHeld store old new (λ _. store.leaves_a_map new)
  pub list : OfHeld store old new (λ _. KeepsList store.lists old new)
  pub own : OfHeld store old new (λ _. IsOwn answer)
  pub cause : FaultHasCause (store.failures old) (store.failures new) answer
  pub same : store.is_honest new → store.is_open new → ¬ (IsStored answer) → store.same_tables old new
  pub shut : store.is_honest new → ¬ (store.is_open old)
      → StaysShut (store.leaves old) (store.leaves new) (store.leaves_a_map old) (store.leaves_a_map new) answer
  pub honest : store.is_honest new → store.is_honest old
  pub open_if : store.is_open new → store.is_open old
  pub counted : store.failures old ≤ store.failures new

-- Each delivery in turn is one that `deliver` may have made, of the store that the one before has left.
abbrev pub TakesEach : {S : Type 0} → Ghosts S → S → S → List DeliveryValue → List Answer → Type 0
TakesEach store old new [] [] = new ≡ old
TakesEach store old new [] (answer ∷ answers) = ⊥
TakesEach store old new (delivery ∷ deliveries) [] = ⊥
TakesEach {S} store old new (delivery ∷ deliveries) (answer ∷ answers) =
    (next : S) × TakesOne store old next delivery.off delivery.bytes answer × TakesEach store next new deliveries answers

-- What deliveries in turn have done, of which the last alone may be answered with a fault: each is a step, and a crash
-- leaves the map after the answered ones, or after a fault alone that map with the blob at fault.
pub record Takes {S : Type 0} (store : Ghosts S) (old new : S) (deliveries : List DeliveryValue) (replies : List Answer) : Type 0 where
  pub each : TakesEach store old new deliveries replies
  pub run : OfHeld store old new (λ held. store.is_open new → Runs (store.holds new) held deliveries replies)
  pub unbroken : OfHeld store old new (λ held. IsNone IsFault replies → Runs (store.holds new) held deliveries replies)
  pub crash : OfHeld store old new (λ held. LeavesAfter (store.leaves new) held deliveries replies)
  pub whole : OfHeld store old new (λ _. store.leaves_a_map new)
  pub list : OfHeld store old new (λ _. KeepsList store.lists old new)
  pub own : OfHeld store old new (λ _. AreOwn replies)
  pub causes : HaveCauses (store.failures old) (store.failures new) replies
  pub same : store.is_honest new → store.is_open new → IsNone IsStored replies → store.same_tables old new
  pub honest : store.is_honest new → store.is_honest old
  pub open_if : store.is_open new → store.is_open old
  pub counted : store.failures old ≤ store.failures new

-- What a list of deliveries has done, over any answers, faults among them.
pub record TakesAll {S : Type 0} (store : Ghosts S) (old new : S) (deliveries : List DeliveryValue) (answers : List Answer) : Type 0 where
  -- Each delivery is one that `deliver` may have made, of the store that the one before has left. So one that isn't stored
  -- leaves the tables, whatever rows they have, also beside others that are; and where none is, they are as they were.
  pub each : TakesEach store old new deliveries answers
  pub same : store.is_honest new → store.is_open new → IsNone IsStored answers → store.same_tables old new
  -- each answer is that of its step, and the store holds what the steps leave, also where nothing is known of its being open
  -- but that no answer is a fault
  pub run : OfHeld store old new (λ held. store.is_open new ⊎ IsNone IsFault answers → Runs (store.holds new) held deliveries answers)
  -- over one file the store holds the union of what was answered Stored, each once, and nothing is refused
  pub one_file : (held : HeldMap) (frames : List (List ℕ)) → store.holds old held → store.is_honest new → AreFrames frames → AreOfFile frames deliveries → IsHeldOfFile frames held
      → store.is_open new ⊎ IsNone IsFault answers → Imports (store.holds new) frames held deliveries answers
  -- what a crash may leave, also behind a fault that has shut the store
  pub crash : OfHeld store old new (λ held. LeavesAfterAll (store.leaves new) held deliveries answers)
  pub whole : OfHeld store old new (λ _. store.leaves_a_map new)
  -- why faults are answered: each has a cause of its own, and the first never says that the tables are another store's
  pub first_own : OfHeld store old new (λ _. IsFirstFaultOwn answers)
  pub own : OfHeld store old new (λ _. store.is_open new ⊎ IsNone IsFault answers → AreOwn answers)
  pub cause : HaveCauses (store.failures old) (store.failures new) answers
  pub honest : store.is_honest new → store.is_honest old
  pub open_if : store.is_open new → store.is_open old

-- Whatever a call answered, the store keeps what it holds, if it can go on, and what a crash may leave.
pub record Stays {S : Type 0} (store : Ghosts S) (old new : S) : Type 0 where
  pub honest : store.is_honest new → store.is_honest old
  pub open_if : store.is_open new → store.is_open old
  pub kept : store.is_honest new → store.is_open new → (held : HeldMap) → store.holds old held → store.holds new held
  pub crash : store.is_honest new → (held : HeldMap) → store.leaves new held → store.leaves old held
  pub whole : store.is_honest new → store.leaves_a_map old → store.leaves_a_map new

-- any number of reads has kept that, and at Ok the store can go on
pub record Rereads {S T E : Type 0} (store : Ghosts S) (old : S) (result : Result T E) (new : S) : Type 0 where
  pub stays : Stays store old new
  pub ok : OnOk result (store.is_honest new → (held : HeldMap) → store.holds old held → store.holds new held)

-- ---- copies of one store into another

-- each blob of the first map is in the second, at its offset
abbrev pub Keeps : HeldMap → HeldMap → Type 0
Keeps held after = (off : ℕ) (blob : Blob) → get held off ≡ Some blob → get after off ≡ Some blob

-- the store holds a map that keeps this one
abbrev pub HoldsStill : {S : Type 0} → Ghosts S → S → HeldMap → Type 0
HoldsStill store new held = (after : HeldMap) × Keeps held after × store.holds new after

-- What a store held stays, whatever came to it: at Ok, and after a fault where it can go on, it holds a map that keeps that,
-- and so is each map that a crash leaves.
pub record KeepsHeld {S T E : Type 0} (store : Ghosts S) (new : S) (result : Result T E) (held : HeldMap) : Type 0 where
  pub ok : OnOk result (HoldsStill store new held)
  pub err : OnErr result (store.is_open new → HoldsStill store new held)
  pub crash : (left : HeldMap) → store.leaves new left → Keeps held left

-- said of the map that a store holds and of the blob at an extent, which another store holds, where both have given what was written
abbrev pub WhereHeld : {F T : Type 0} → Ghosts F → Ghosts T → F → F → T → T → Extent → (HeldMap → Blob → Type 0) → Type 0
WhereHeld from to first last old new extent P =
    (source held : HeldMap) (blob : Blob) → from.holds first source → from.is_honest last → to.holds old held → to.is_honest new
    → get source extent.off ≡ Some blob → extent ≡ extent_of (extent.off, blob) → P held blob

-- the blob of an extent with these elements
abbrev pub blob_of : Extent → List Element → Blob
blob_of extent elements = record { fin = extent.fin; digest = extent.digest; kind = extent.kind; elements = elements }

-- What is added, whatever rows the store that is read has: the blob of the extent with as many elements as that says, at a
-- place that was free.
abbrev pub AddsComplete : {T : Type 0} → Ghosts T → T → T → BlobCopied → Type 0
AddsComplete to old new (extent, Ok Added) = (elements : List Element) × (length elements ≡ extent.n)
    × OfHeld to old new (λ held. IsFree held extent.off extent.fin × to.holds new (with_blob held extent.off (blob_of extent elements)))
AddsComplete to old new (extent, Ok AlreadyHeld) = Unit {0}
AddsComplete to old new (extent, Err fault) = Unit {0}

-- What the copy of one blob has done, to the store that is read and to the one that it goes into. What the other held stays,
-- whatever rows the first has. Where the blob isn't added, the tables of the other are as they were, whatever rows they have.
pub record CopiesOne {F T : Type 0} (from : Ghosts F) (to : Ghosts T) (first last : F) (old new : T) (copy : BlobCopied) : Type 0 where
  pub step : WhereHeld from to first last old new copy.0 (λ held blob. CopiesBlob (to.is_open new) (to.holds new) held copy.0.off blob copy.1)
  pub crash : WhereHeld from to first last old new copy.0 (λ held blob. CrashLeavesBlob (to.leaves new) held copy.0.off blob)
  pub kept : OfHeld to old new (λ held. KeepsHeld to new copy.1 held)
  pub whole : OfHeld to old new (λ _. to.leaves_a_map new)
  pub list : OfHeld to old new (λ _. KeepsList to.lists old new)
  pub own : WhereHeld from to first last old new copy.0 (λ held blob. IsOwnBlob copy.1)
  pub source : Rereads from first copy.1 last
  pub cause : BlobHasCause (from.failures first) (from.failures last) (to.failures old) (to.failures new) copy.1
  pub told : BlobTells (from.failures first) (from.failures last) (to.failures old) (to.failures new) copy.1
  pub same : to.is_honest new → to.is_open new → is_added copy ≡ false → to.same_tables old new
  pub complete : AddsComplete to old new copy
  pub honest : to.is_honest new → to.is_honest old
  pub open_if : to.is_open new → to.is_open old
  pub counted : (from.failures first ≤ from.failures last) × (to.failures old ≤ to.failures new)

-- each copy in turn is such a one, of the stores that the one before has left
abbrev pub CopiesEach : {F T : Type 0} → Ghosts F → Ghosts T → F → F → T → T → List BlobCopied → Type 0
CopiesEach from to first last old new [] = (last ≡ first) × (new ≡ old)
CopiesEach {F} {T} from to first last old new (copy ∷ copies) =
    (left : F) × (next : T) × CopiesOne from to first left old next copy × CopiesEach from to left last next new copies

-- the copies of the blobs of a store, once its extents were read
pub record CopiesInTurn {F T : Type 0} (from : Ghosts F) (to : Ghosts T) (first last : F) (old new : T) (result : Result CopyCounts CopyStop) : Type 0 where
  pub listed : F
  pub lists : Stays from first listed
  pub copies : List BlobCopied
  pub each : CopiesEach from to listed last old new copies
  pub come : ComeTo copies result

-- The copy of all blobs of a store, which is this of the map that it holds.
pub record CopiesAll {F T : Type 0} (from : Ghosts F) (to : Ghosts T) (IsSource : HeldMap → Type 0) (first last : F) (old new : T) (result : Result CopyCounts CopyStop) : Type 0 where
  pub copies : (source held : HeldMap) → IsSource source → from.is_honest last → to.holds old held → to.is_honest new → Copies (to.is_open new) (to.holds new) source held result
  -- it stops at a blob of the first store, or at 0 before the first
  pub reached : (source : HeldMap) → IsSource source → from.is_honest last → IfErr result (λ stop. (stop.off ≡ 0) ⊎ ((blob : Blob) × (get source stop.off ≡ Some blob)))
  -- what a crash may leave now
  pub crash : (source held : HeldMap) → IsSource source → from.is_honest last → to.holds old held → to.is_honest new → CrashLeavesSome (to.leaves new) source held result
  -- what the other store held stays, whatever the first one holds and gives
  pub kept : OfHeld to old new (λ held. KeepsHeld to new result held)
  pub whole : OfHeld to old new (λ _. to.leaves_a_map new)
  pub list : OfHeld to old new (λ _. KeepsList to.lists old new)
  -- what the first store holds stays
  pub source : Rereads from first result last
  -- why a fault is answered
  pub own : (source held : HeldMap) → IsSource source → from.is_honest last → to.holds old held → to.is_honest new → IsOwnCopy result
  pub cause : CopyHasCause (from.failures first) (from.failures last) (to.failures old) (to.failures new) result
  pub told : CopyTells (from.failures first) (from.failures last) (to.failures old) (to.failures new) result
  pub honest : to.is_honest new → to.is_honest old
  pub open_if : to.is_open new → to.is_open old
  -- The copy of a blob that isn't added leaves the other's tables, whatever rows they have, also beside others that are. So
  -- where nothing is copied they are as they were.
  pub each : CopiesInTurn from to first last old new result
  pub same : to.is_honest new → to.is_open new → IfOk result (λ counts. counts.copied ≡ 0 → to.same_tables old new)
  pub counted : (from.failures first ≤ from.failures last) × (to.failures old ≤ to.failures new)
