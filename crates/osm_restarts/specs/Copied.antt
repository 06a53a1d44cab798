-- What a store is that was opened over what a crash left of a copy into it.
use Rattle.std.specs.Prelude.{◌⊎◌, ℕ, MatchResult, Result}
use Rattle.sqlite_disk.specs.declared.Disk.{Ghosts}
use Rattle.sqlite_store.specs.declared.store.FileStore.{FileStore}
use Rattle.sqlite_store.specs.FileStore.{view}
use Rattle.osm_rows.specs.declared.schema.layout.Layout.TheVariants.{Tables}
use Rattle.osm_rows.specs.Held.{HeldMap}
use Rattle.osm_trees.specs.Below.{HoldsBelow}
use Rattle.osm_import.specs.Copies.{IsUnited, IsUnitedBelow, IsRefused}
use Rattle.osm_import.specs.declared.answer.Conflict.{Conflict}
use Rattle.osm_import.specs.declared.copy.CopyCounts.{CopyCounts}
use Rattle.osm_import.specs.declared.copy.CopyStop.{CopyStop}
use Rattle.osm_restarts.specs.Left.{CanCrash}

-- The store holds what was held with the blobs of the source below some offset, or with all of them. The copy begun again ends in
-- what it would have ended in with no crash: all blobs united with what was held at first, or those below the same conflict. And
-- the next crash finds what this one found.
pub record CopyGoesOn {D : Type 0} {g : Ghosts D} (source held left : HeldMap) (store : FileStore D g) : Type 0 where
  pub holds : HoldsBelow Tables (view store) left
  pub copied : IsUnited source held left ⊎ ((place : ℕ) × IsUnitedBelow place source held left)
  pub again : (after : HeldMap) → IsUnited source left after → IsUnited source held after
  pub refused : (off : ℕ) (conflict : Conflict) (after : HeldMap) → IsUnitedBelow off source left after → IsRefused source after off conflict → IsUnitedBelow off source held after
  pub crash : CanCrash store

-- after `Ok` all blobs of the source were united with what was held, and else those below some offset
abbrev pub IsCopied : Result CopyCounts CopyStop → HeldMap → HeldMap → HeldMap → Type 0
IsCopied outcome source held left = MatchResult outcome (λ _. IsUnited source held left) (λ _. (place : ℕ) × IsUnitedBelow place source held left)
