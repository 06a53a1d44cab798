-- What a put of a blob into the trees of a store promises.
use Rattle.std.specs.Prelude.{◌⊎◌, ℕ, Result, OnOk}
use Rattle.sqlite_trees.specs.declared.store.Store.{Ghosts}
use Rattle.sqlite_trees.specs.Tree.{Trees}
use Rattle.sqlite_trees.specs.Objects.{catalog_tree}
use Rattle.sqlite_trees.specs.View.{IsClean}
use Rattle.osm_rows.specs.declared.fault.StoreFault.{StoreFault}
use Rattle.osm_rows.specs.declared.schema.layout.Layout.TheVariants.{Tables}
use Rattle.osm_rows.specs.Held.{Blob}
use Rattle.osm_rows.specs.Keeping.{Adds}
use Rattle.osm_tree_writes.specs.Added.{plain_indexes}
use Rattle.osm_tree_writes.specs.Appending.{KeepIndexed}
use Rattle.osm_trees.specs.Below.{HoldsBelow, IsUsable, MayLeave, LeavesAMap, SameTrees, ListsAlways}
use Rattle.osm_trees.specs.Reading.{Reading}

-- what each keeper promises, of this store
abbrev pub AddsBelow : {S T : Type 0} → Ghosts S → ℕ → Blob → Reading S → Result T StoreFault → Reading S → Type 0
AddsBelow g off blob old result new = Adds (λ r held. HoldsBelow Tables (g.view r.store) held) (λ r left. MayLeave (g.recovers r.store) left) (λ r. LeavesAMap (g.recovers r.store)) (λ r rows. ListsAlways (g.view r.store) (g.recovers r.store) rows) (λ r s. SameTrees (g.view r.store) (g.view s.store))
    (λ r. IsClean (g.view r.store)) (λ r. IsUsable (g.view r.store)) (λ r. r.failures) off blob old result new

-- Of the indexes added to the tables, as the list of objects tells of them, each that had one entry for each
-- row of its table has one for each still; and so it is in what a crash leaves.
pub record KeepsAddedIndexes {S T : Type 0} (g : Ghosts S) (old new : S) (r : Result T StoreFault) : Type 0 where
  pub written : IsClean (g.view new) → OnOk r (KeepIndexed (plain_indexes ((g.view old).trees catalog_tree)) (g.view old).trees (g.view new).trees)
  pub crash : IsClean (g.view new) → (db : Trees) → g.recovers new db → g.recovers old db ⊎ KeepIndexed (plain_indexes ((g.view old).trees catalog_tree)) (g.view old).trees db
