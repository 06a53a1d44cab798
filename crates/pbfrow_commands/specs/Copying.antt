-- What the commands `migrate` and `merge` do: to the stores that they copy, to the other, and to their output.
use Rattle.std.specs.Prelude.{◌≡◌, ℕ, ◌≤◌, ◌++◌, Bool, List, Result, Ok, Err, IfOk, codes, if◌then◌else◌}
use Rattle.std.specs.Fmt.{decimal}
use Rattle.osm_rows.specs.Calls.{OfHeld}
use Rattle.osm_rows.specs.Held.{HeldMap}
use Rattle.osm_rows.specs.Keeping.{KeepsList}
use Rattle.osm_rows.specs.declared.keeper.BlobReader.{Ghosts}
use Rattle.osm_import.specs.Copies.{Copies, CopyHasCause, CopyTells, CrashLeavesSome, IsOwnCopy}
use Rattle.osm_import.specs.Stores.{CopiesInTurn, KeepsHeld}
use Rattle.osm_import.specs.CopyFaults.{copy_number_of, copy_name_of}
use Rattle.osm_reading.specs.Lines.{fault_line}
use Rattle.osm_import.specs.declared.copy.CopyStop.{CopyStop}
use Rattle.osm_import.specs.declared.copy.CopyCounts.{CopyCounts}

-- What a copy of what one store holds into another came to: what the other holds, what a crash may leave of it, and
-- why the copy stopped, if it did. Whatever rows the first has, what the other held stays. Whatever rows either has, a blob
-- that isn't added leaves the other's tables.
pub record CopiesStore {A B : Type 0} (from : Ghosts A) (to : Ghosts B) (from_old from_new : A) (to_old to_new : B) (outcome : Result CopyCounts CopyStop) : Type 0 where
  pub copies : (source held : HeldMap) → from.holds from_old source → from.is_honest from_new → to.holds to_old held → to.is_honest to_new → Copies (to.is_open to_new) (to.holds to_new) source held outcome
  pub crash : (source held : HeldMap) → from.holds from_old source → from.is_honest from_new → to.holds to_old held → to.is_honest to_new → CrashLeavesSome (to.leaves to_new) source held outcome
  pub kept : OfHeld to to_old to_new (λ held. KeepsHeld to to_new outcome held)
  pub whole : OfHeld to to_old to_new (λ _. to.leaves_a_map to_new)
  pub list : OfHeld to to_old to_new (λ _. KeepsList to.lists to_old to_new)
  pub own : (source held : HeldMap) → from.holds from_old source → from.is_honest from_new → to.holds to_old held → to.is_honest to_new → IsOwnCopy outcome
  pub cause : CopyHasCause (from.failures from_old) (from.failures from_new) (to.failures to_old) (to.failures to_new) outcome
  pub told : CopyTells (from.failures from_old) (from.failures from_new) (to.failures to_old) (to.failures to_new) outcome
  pub each : CopiesInTurn from to from_old from_new to_old to_new outcome
  pub same : to.is_honest to_new → to.is_open to_new → IfOk outcome (λ counts. counts.copied ≡ 0 → to.same_tables to_old to_new)
  pub counted : (from.failures from_old ≤ from.failures from_new) × (to.failures to_old ≤ to.failures to_new)

abbrev pub copied_line : CopyCounts → List ℕ
copied_line counts = codes "copied " ++ decimal counts.copied ++ codes " held " ++ decimal counts.held ++ codes "\n"

-- the last line of a merge, of all stores together
abbrev pub total_line : CopyCounts → List ℕ
total_line counts = codes "blobs " ++ copied_line counts

-- the line of the counts, or that of the fault at which it stopped
abbrev pub outcome_line : Result CopyCounts CopyStop → List ℕ
outcome_line (Ok counts) = copied_line counts
outcome_line (Err stop) = fault_line (copy_number_of stop.fault) (copy_name_of stop.fault) stop.off

-- 0 where all was copied, and the output hasn't failed
abbrev pub copy_status : Result CopyCounts CopyStop → Bool → ℕ
copy_status (Ok counts) has_failed = if has_failed then 1 else 0
copy_status (Err stop) has_failed = 1
