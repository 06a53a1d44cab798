-- A store that is opened again and again, each time after a crash.
use Rattle.std.specs.Prelude.{◌≡◌, ℕ, List, [], ◌∷◌, ◌++◌}
use Rattle.sqlite_disk.specs.declared.Disk.{Ghosts}
use Rattle.sqlite_store.specs.declared.store.FileStore.{FileStore}
use Rattle.osm_import.specs.FileHistories.{AreEventsOf}
use Rattle.osm_import.specs.Histories.{Event}
use Rattle.osm_restarts.specs.Left.{CrashesAfter, IsReopened}

-- from one opening to the next: the deliveries between, the store as it crashed, and the store that was opened over what was left
pub record Restart {D : Type 0} (g : Ghosts D) : Type 0 where
  pub events : List Event
  pub before : FileStore D g
  pub after : FileStore D g

-- The deliveries were of frames of the file, to the store that was opened first, which made it the one that crashed. The next store was
-- opened over what the crash left.
pub record IsRestart {D : Type 0} {g : Ghosts D} (frames : List (List ℕ)) (first : FileStore D g) (restart : Restart g) : Type 0 where
  pub of_file : AreEventsOf frames restart.events
  pub after : CrashesAfter restart.events first restart.before
  pub reopened : IsReopened restart.before restart.after

-- one restart after the other, from the first store to the last
abbrev pub AreRestarts : {D : Type 0} {g : Ghosts D} → List (List ℕ) → FileStore D g → List (Restart g) → FileStore D g → Type 0
AreRestarts frames first [] last = last ≡ first
AreRestarts frames first (restart ∷ restarts) last = IsRestart frames first restart × AreRestarts frames restart.after restarts last

-- the deliveries of all of them
abbrev pub events_in : {D : Type 0} {g : Ghosts D} → List (Restart g) → List Event
events_in [] = []
events_in (restart ∷ restarts) = restart.events ++ events_in restarts
