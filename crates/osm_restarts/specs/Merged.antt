-- What a store is that was opened over what a crash left of a merge into it, and one that is opened so again and again.
use Rattle.std.specs.Prelude.{◌≡◌, ◌↔◌, ℕ, List, [], ◌∷◌}
use Rattle.sqlite_disk.specs.declared.Disk.{Ghosts}
use Rattle.sqlite_trees.specs.Tree.{Trees}
use Rattle.sqlite_store.specs.declared.store.FileStore.{FileStore}
use Rattle.sqlite_store.specs.FileStore.{view, recovers}
use Rattle.osm_rows.specs.declared.schema.layout.Layout.TheVariants.{Tables}
use Rattle.osm_rows.specs.Held.{HeldMap}
use Rattle.osm_trees.specs.Below.{HoldsBelow, LeavesAMap, MayLeave}
use Rattle.osm_import.specs.Merges.{AreUnited, IsFrontUnited, IsUnionRefused}
use Rattle.osm_import.specs.declared.answer.Conflict.{Conflict}
use Rattle.osm_restarts.specs.Left.{CanCrash, IsReopened}

-- whatever a crash leaves now is a map, and it is the map that was held with a front of the sources
pub record LeavesFront (sources : List HeldMap) (held : HeldMap) (recovers : Trees → Type 0) : Type 0 where
  pub whole : LeavesAMap recovers
  pub front : (left : HeldMap) → MayLeave recovers left → IsFrontUnited sources held left

-- The store holds what was held with all blobs of the first sources and those of the next below some offset. The merge begun again,
-- from the first source on, ends in what it would have ended in with no crash: all sources united with what was held at first, or
-- those up to the same conflict. Where it is broken off once more, that is a front of the merge, too. And the next crash finds
-- what this one found.
pub record MergeGoesOn {D : Type 0} {g : Ghosts D} (sources : List HeldMap) (held left : HeldMap) (store : FileStore D g) : Type 0 where
  pub holds : HoldsBelow Tables (view store) left
  pub merged : IsFrontUnited sources held left
  pub again : (after : HeldMap) → AreUnited sources left after ↔ AreUnited sources held after
  pub refused : (place off : ℕ) (conflict : Conflict) (after : HeldMap) → IsUnionRefused sources place off conflict left after → IsUnionRefused sources place off conflict held after
  pub further : (more : HeldMap) → IsFrontUnited sources left more → IsFrontUnited sources held more
  pub crash : CanCrash store

-- from one opening to the next: the store as it crashed in a merge, and the store that was opened over what was left
pub record MergeRestart {D : Type 0} (g : Ghosts D) : Type 0 where
  pub before : FileStore D g
  pub after : FileStore D g

-- The sources were merged into the store that was opened first, from the first of them on, which made it the one that crashed. The
-- next store was opened over what the crash left.
pub record IsMergeRestart {D : Type 0} {g : Ghosts D} (sources : List HeldMap) (first : FileStore D g) (restart : MergeRestart g) : Type 0 where
  pub merged : (held : HeldMap) → HoldsBelow Tables (view first) held → LeavesFront sources held (recovers restart.before)
  pub reopened : IsReopened restart.before restart.after

-- one restart after the other, from the first store to the last
abbrev pub AreMergeRestarts : {D : Type 0} {g : Ghosts D} → List HeldMap → FileStore D g → List (MergeRestart g) → FileStore D g → Type 0
AreMergeRestarts sources first [] last = last ≡ first
AreMergeRestarts sources first (restart ∷ restarts) last = IsMergeRestart sources first restart × AreMergeRestarts sources restart.after restarts last
