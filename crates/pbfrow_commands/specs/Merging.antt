-- What the command `merge` does: to the store that it fills, from several others, and to its output.
use Rattle.std.specs.Prelude.{◌≡◌, ◌⊎◌, ℕ, ◌+◌, Bool, List, [], ◌∷◌, ◌++◌, length, slice_get, sum_by, Some, None, Result, Ok, Err, OnOk, if◌then◌else◌}
use Rattle.std.specs.FinMap.{get, entries}
use Rattle.std.specs.List.{flat_map}
use Rattle.osm_value.specs.Sink.{Wrote}
use Rattle.osm_value.specs.declared.sink.Sink.{Ghosts as SinkOf}
use Rattle.osm_rows.specs.Calls.{OfHeld}
use Rattle.osm_rows.specs.Held.{Blob, HeldMap}
use Rattle.osm_rows.specs.Keeping.{IsForeign, KeepsList}
use Rattle.osm_rows.specs.declared.keeper.BlobReader.{Ghosts}
use Rattle.osm_import.specs.Copies.{Copies, Stops, IsUnited, held_among, FaultIsCaused, IsOwnFault}
use Rattle.osm_import.specs.Merges.{AreUnited, IsFrontUnited}
use Rattle.osm_import.specs.Step.{HasCause}
use Rattle.osm_import.specs.Stores.{HoldsStill, Keeps, KeepsHeld}
use Rattle.osm_import.specs.declared.copy.CopyCounts.{CopyCounts}
use Rattle.osm_import.specs.declared.copy.CopyStop.{CopyStop}
use Rattle.osm_parts.specs.Parts.{IsInPart}
use Rattle.pbfrow_reading.specs.Checking.{capped}
use Rattle.pbfrow_commands.specs.CommandLines.{store_fault_line}
use Rattle.pbfrow_commands.specs.Copying.{copied_line, outcome_line, total_line}
use Rattle.pbfrow_commands.specs.declared.merge.MergeStop.{MergeStop}
use Rattle.pbfrow_commands.specs.declared.merge.MergeStop.TheVariants.{Unopened, Stopped}

-- ---- what is held

-- The map took blobs of the others: what it held stays, and nothing is new but blobs of theirs at offsets that it didn't hold.
pub record TakesOf (maps : List HeldMap) (held after : HeldMap) : Type 0 where
  pub kept : (off : ℕ) (blob : Blob) → get held off ≡ Some blob → get after off ≡ Some blob
  pub only : (off : ℕ) (blob : Blob) → get after off ≡ Some blob → (get held off ≡ Some blob) ⊎ ((get held off ≡ None) × IsInPart maps off blob)

-- It took all: for each blob that one of the maps holds, it holds one of the same SHA-256 there.
pub record IsMergeOf (maps : List HeldMap) (held after : HeldMap) : Type 0 where
  pub takes : TakesOf maps held after
  pub all : (off : ℕ) (blob : Blob) → IsInPart maps off blob → (other : Blob) × (get after off ≡ Some other) × (other.digest ≡ blob.digest)

-- The maps were united with it, one after the other, and each was counted: how many of its blobs were added, and how many
-- stood at offsets that were held by then.
abbrev pub AreCopied : List HeldMap → List CopyCounts → HeldMap → HeldMap → Type 0
AreCopied [] [] held after = after ≡ held
AreCopied [] (counts ∷ rest) held after = ⊥
AreCopied (source ∷ sources) [] held after = ⊥
AreCopied (source ∷ sources) (counts ∷ rest) held after =
    (next : HeldMap) × IsUnited source held next × (counts.copied + counts.held ≡ length (entries source)) × (counts.held ≡ held_among held (entries source)) × AreCopied sources rest next after

-- a store that isn't opened changes nothing; a copy that stopped has come so far
abbrev pub EndsAt : Type 0 → (HeldMap → Type 0) → HeldMap → HeldMap → MergeStop → Type 0
EndsAt is_open holds source held (Unopened fault) = holds held
EndsAt is_open holds source held (Stopped stop) = Stops is_open holds source held stop.off stop.fault

-- one store of a merge was copied, or it ended there
abbrev pub CopiesAt : Type 0 → (HeldMap → Type 0) → HeldMap → HeldMap → Result CopyCounts MergeStop → Type 0
CopiesAt is_open holds source held (Ok counts) = Copies is_open holds source held (Ok counts)
CopiesAt is_open holds source held (Err stop) = EndsAt is_open holds source held stop

-- all were copied; or those in front of the one where it ended
abbrev pub Merges : Type 0 → (HeldMap → Type 0) → List HeldMap → HeldMap → List CopyCounts → Result CopyCounts MergeStop → Type 0
Merges is_open holds maps held counts (Ok total) = (after : HeldMap) × AreCopied maps counts held after × holds after
Merges is_open holds maps held counts (Err stop) =
    (front : List HeldMap) × (source : HeldMap) × (behind : List HeldMap) × (maps ≡ front ++ source ∷ behind) × (next : HeldMap) × AreCopied front counts held next × EndsAt is_open holds source next stop

-- ---- the counts and the lines

-- the sums of what was counted, which stop at 2 ^ 64 - 1
abbrev pub total_of : List CopyCounts → CopyCounts
total_of counts = record { copied = capped (sum_by (λ c. c.copied) counts); held = capped (sum_by (λ c. c.held) counts) }

-- the counts that are told at the end are the sums
abbrev pub IsTotal : List CopyCounts → Result CopyCounts MergeStop → Type 0
IsTotal counts (Ok total) = total ≡ total_of counts
IsTotal counts (Err stop) = Unit {0}

-- the line of the fault at which it ended
abbrev pub end_line : MergeStop → List ℕ
end_line (Unopened fault) = store_fault_line fault
end_line (Stopped stop) = outcome_line (Err stop)

-- the line of one store of a merge
abbrev pub store_line : Result CopyCounts MergeStop → List ℕ
store_line (Ok counts) = copied_line counts
store_line (Err stop) = end_line stop

-- a line for each store that was copied, in order, and that of the fault behind them
abbrev pub store_lines : List CopyCounts → Result CopyCounts MergeStop → List ℕ
store_lines counts (Ok total) = flat_map copied_line counts
store_lines counts (Err stop) = flat_map copied_line counts ++ end_line stop

-- a line for each copied store, and behind them that of all together
abbrev pub merge_text : List CopyCounts → Result CopyCounts MergeStop → List ℕ
merge_text counts (Ok total) = flat_map copied_line counts ++ total_line total
merge_text counts (Err stop) = flat_map copied_line counts ++ end_line stop

-- 0 where all were copied, and the output hasn't failed
abbrev pub merge_status : Result CopyCounts MergeStop → Bool → ℕ
merge_status (Ok total) has_failed = if has_failed then 1 else 0
merge_status (Err stop) has_failed = 1

-- ---- the whole

-- what the copy of one store is to the merge
abbrev pub merged_of : Result CopyCounts CopyStop → Result CopyCounts MergeStop
merged_of (Ok counts) = Ok counts
merged_of (Err stop) = Err (Stopped stop)

-- Why it ended: a store couldn't be opened, what the store that is filled held was in a blob's way, or a call of one has
-- failed since the merge began, of the others or of the one that is filled.
abbrev pub MergeHasCause : ℕ → ℕ → ℕ → ℕ → Result CopyCounts MergeStop → Type 0
MergeHasCause from_before from_now to_before to_now (Ok total) = Unit {0}
MergeHasCause from_before from_now to_before to_now (Err (Unopened fault)) = HasCause from_before from_now fault
MergeHasCause from_before from_now to_before to_now (Err (Stopped stop)) = FaultIsCaused from_before from_now to_before to_now stop.fault

-- no fault says that the tables are another store's
abbrev pub IsOwnMerge : Result CopyCounts MergeStop → Type 0
IsOwnMerge (Ok total) = Unit {0}
IsOwnMerge (Err (Unopened fault)) = ¬ (IsForeign fault)
IsOwnMerge (Err (Stopped stop)) = IsOwnFault stop.fault

-- What the copy of the store at a place came to, which was opened for it and closed again: what the filled one holds, and what a
-- crash may leave of it. What was held stays, whatever the other holds and gives.
pub record MergesAt {A B : Type 0} (holds : A → List HeldMap → Type 0) (is_honest : A → Type 0) (to : Ghosts B) (from_old from_new : A) (place : ℕ) (to_old to_new : B) (outcome : Result CopyCounts MergeStop) : Type 0 where
  -- what it holds of the store's map, and of what it held
  pub copies : (maps : List HeldMap) (source held : HeldMap) → holds from_old maps → is_honest from_new → slice_get maps place ≡ Some source → to.holds to_old held → to.is_honest to_new → CopiesAt (to.is_open to_new) (to.holds to_new) source held outcome
  -- a crash leaves what was held with a front of the copy
  pub crash : (maps : List HeldMap) (source held : HeldMap) → holds from_old maps → is_honest from_new → slice_get maps place ≡ Some source → to.holds to_old held → to.is_honest to_new → (left : HeldMap) → to.leaves to_new left → IsFrontUnited (source ∷ []) held left
  pub kept : OfHeld to to_old to_new (λ held. KeepsHeld to to_new outcome held)
  pub whole : OfHeld to to_old to_new (λ _. to.leaves_a_map to_new)
  pub list : OfHeld to to_old to_new (λ _. KeepsList to.lists to_old to_new)
  -- no fault says that the tables are another store's
  pub own : (maps : List HeldMap) (source held : HeldMap) → holds from_old maps → is_honest from_new → slice_get maps place ≡ Some source → to.holds to_old held → to.is_honest to_new → IsOwnMerge outcome

-- What a merge of so many stores came to: what the filled one holds, what a crash may leave of it, and why it ended early, if it
-- did. A crash leaves what was held with a front of the merge, and after Ok with all of it. What was held stays, whatever the
-- others hold and give.
pub record MergesStores {A B : Type 0} (holds : A → List HeldMap → Type 0) (is_honest : A → Type 0) (failures : A → ℕ) (to : Ghosts B) (from_old from_new : A) (count : ℕ) (to_old to_new : B) (counts : List CopyCounts) (outcome : Result CopyCounts MergeStop) : Type 0 where
  pub merges : (maps : List HeldMap) (held : HeldMap) → holds from_old maps → is_honest from_new → length maps ≡ count → to.holds to_old held → to.is_honest to_new → Merges (to.is_open to_new) (to.holds to_new) maps held counts outcome
  pub crash : (maps : List HeldMap) (held : HeldMap) → holds from_old maps → is_honest from_new → length maps ≡ count → to.holds to_old held → to.is_honest to_new → (left : HeldMap) → to.leaves to_new left → IsFrontUnited maps held left
  pub all : (maps : List HeldMap) (held : HeldMap) → holds from_old maps → is_honest from_new → length maps ≡ count → to.holds to_old held → to.is_honest to_new → OnOk outcome ((left : HeldMap) → to.leaves to_new left → AreUnited maps held left)
  pub kept : OfHeld to to_old to_new (λ held. KeepsHeld to to_new outcome held)
  pub whole : OfHeld to to_old to_new (λ _. to.leaves_a_map to_new)
  pub list : OfHeld to to_old to_new (λ _. KeepsList to.lists to_old to_new)
  pub own : (maps : List HeldMap) (held : HeldMap) → holds from_old maps → is_honest from_new → length maps ≡ count → to.holds to_old held → to.is_honest to_new → IsOwnMerge outcome
  pub cause : MergeHasCause (failures from_old) (failures from_new) (to.failures to_old) (to.failures to_new) outcome

-- What a store held stays whatever came to it, also after a crash. If it has given what was written by now, it had before, and if
-- it can go on, it could before.
pub record NeverLoses {S : Type 0} (store : Ghosts S) (old new : S) : Type 0 where
  -- if it can go on, it holds a map that keeps what it held
  pub still : OfHeld store old new (λ held. store.is_open new → HoldsStill store new held)
  -- so does each map that a crash leaves
  pub left : OfHeld store old new (λ held. (left : HeldMap) → store.leaves new left → Keeps held left)
  pub honest : store.is_honest new → store.is_honest old
  pub open_if : store.is_open new → store.is_open old

-- What `merge` did with so many stores, and told: a line for each store that was copied, and behind them that of all together or
-- that of the fault. The exit status is 0 where all were copied and the output hasn't failed.
pub record HasMerged {A B C : Type 0} (holds : A → List HeldMap → Type 0) (is_honest : A → Type 0) (failures : A → ℕ) (to : Ghosts B) (sink : SinkOf C) (from_old from_new : A) (count : ℕ) (to_old to_new : B) (out_old out_new : C) (status : ℕ) : Type 0 where
  -- what was counted of each store that was copied
  pub counts : List CopyCounts
  -- what was counted of all together, or where it ended
  pub outcome : Result CopyCounts MergeStop
  pub merges : MergesStores holds is_honest failures to from_old from_new count to_old to_new counts outcome
  pub total : IsTotal counts outcome
  pub text : Wrote (sink.written out_old) (merge_text counts outcome) (sink.written out_new) (sink.has_failed out_new)
  pub status_is : status ≡ merge_status outcome (sink.has_failed out_new)
