-- What a delivery does to the held map.
use Rattle.std.specs.Prelude.{◌≡◌, ◌≢◌, ◌⊎◌, ℕ, ◌+◌, ◌-◌, ◌^◌, ◌<◌, ◌≤◌, List, length, Some, None}
use Rattle.std.specs.FinMap.{get, insert}
use Rattle.sha2.specs.Sha256.{sha256}
use Rattle.osm_reading.specs.Good.{IsGood}
use Rattle.osm_reading.specs.Bad.{IsBad}
use Rattle.osm_rows.specs.Held.{Blob, HeldMap, IsFree}
use Rattle.osm_rows.specs.Keeping.{IsForeign}
use Rattle.osm_rows.specs.declared.fault.StoreFault.{StoreFault}
use Rattle.osm_rows.specs.declared.fault.StoreFault.TheVariants as store
use Rattle.osm_import.specs.declared.answer.Conflict.TheVariants.{Differs, Overlap}
use Rattle.osm_import.specs.declared.answer.Answer.{Answer}
use Rattle.osm_import.specs.declared.answer.Answer.TheVariants.{Stored, AlreadyHeld, Bad, Refused, Fault}

-- the entry of a good delivery: its end, its SHA-256 (FIPS 180-4), its kind and its elements
pub record IsEntry (off : ℕ) (frame : List ℕ) (blob : Blob) : Type 0 where
  pub good : IsGood off frame blob.kind blob.elements
  pub ends : blob.fin ≡ off + length frame
  pub digested : blob.digest ≡ sha256 frame

-- the delivery is good, and its offset is held with its digest
pub record IsHeldAlready (held : HeldMap) (off : ℕ) (frame : List ℕ) : Type 0 where
  pub entry : Blob
  pub is_entry : IsEntry off frame entry
  pub blob : Blob
  pub found : get held off ≡ Some blob
  pub same : blob.digest ≡ sha256 frame

-- the delivery is good, and its offset is held with another digest
pub record IsHeldOtherwise (held : HeldMap) (off : ℕ) (frame : List ℕ) : Type 0 where
  pub entry : Blob
  pub is_entry : IsEntry off frame entry
  pub blob : Blob
  pub found : get held off ≡ Some blob
  pub other : blob.digest ≢ sha256 frame

-- the delivery is good, its offset is not held, and its extent meets a held one
pub record IsOverlapping (held : HeldMap) (off : ℕ) (frame : List ℕ) : Type 0 where
  pub entry : Blob
  pub is_entry : IsEntry off frame entry
  pub unheld : get held off ≡ None
  pub at : ℕ
  pub blob : Blob
  pub found : get held at ≡ Some blob
  pub starts : at < off + length frame
  pub ends : off < blob.fin

-- the delivery is good, its offset is not held, its extent meets no held one, and its entry is added
pub record IsStoring (held : HeldMap) (off : ℕ) (frame : List ℕ) (count : ℕ) (after : HeldMap) : Type 0 where
  pub entry : Blob
  pub is_entry : IsEntry off frame entry
  pub unheld : get held off ≡ None
  pub free : IsFree held off entry.fin
  pub counted : count ≡ length entry.elements
  pub added : after ≡ insert held off entry

-- what an answer to a delivery says, and the map after it
abbrev pub IsStep : HeldMap → ℕ → List ℕ → Answer → HeldMap → Type 0
IsStep held off bytes (Bad fault) after = IsBad off bytes fault × (after ≡ held)
IsStep held off bytes AlreadyHeld after = IsHeldAlready held off bytes × (after ≡ held)
IsStep held off bytes (Refused Differs) after = IsHeldOtherwise held off bytes × (after ≡ held)
IsStep held off bytes (Refused Overlap) after = IsOverlapping held off bytes × (after ≡ held)
IsStep held off bytes (Stored count) after = IsStoring held off bytes count after
IsStep held off bytes (Fault fault) after = after ≡ held

-- after a fault the store holds what it held, unless it has to be opened again; after another answer what the step says
abbrev pub Delivers : Type 0 → (HeldMap → Type 0) → HeldMap → ℕ → List ℕ → Answer → Type 0
Delivers is_open holds held off bytes (Fault fault) = is_open → holds held
Delivers is_open holds held off bytes answer = (after : HeldMap) × IsStep held off bytes answer after × holds after

-- what a crash may leave: the old map, or the old map with the delivery's entry
abbrev pub CrashLeaves : (HeldMap → Type 0) → HeldMap → ℕ → List ℕ → Type 0
CrashLeaves leaves held off bytes = (left : HeldMap) → leaves left → (left ≡ held) ⊎ ((count : ℕ) × IsStoring held off bytes count left)

-- why a store fault is answered: a call of the store has failed, its count is full, or memory was refused
abbrev pub HasCause : ℕ → ℕ → StoreFault → Type 0
HasCause before now fault = (fault ≡ store.Memory) ⊎ ((before < now) ⊎ (2 ^ 64 - 1 ≤ now))

-- a fault that is answered has a cause, and any other answer comes only where no call of the store has failed
abbrev pub FaultHasCause : ℕ → ℕ → Answer → Type 0
FaultHasCause before now (Fault fault) = HasCause before now fault
FaultHasCause before now _ = now ≡ before

-- no fault that is answered says that the tables are another store's
abbrev pub IsOwn : Answer → Type 0
IsOwn (Fault fault) = ¬ (IsForeign fault)
IsOwn _ = Unit {0}
