-- What is known of a store whose indexes were checked, and of one that `verify` has compared with a file.
use Rattle.std.specs.Prelude.{◌≡◌, ℕ, List, take}
use Rattle.sqlite_trees.specs.declared.store.Store.{Ghosts}
use Rattle.sqlite_trees.specs.Objects.{catalog_tree}
use Rattle.sqlite_trees.specs.Tree.{Trees}
use Rattle.sqlite_trees.specs.View.{IsClean}
use Rattle.osm_rows.specs.declared.schema.layout.Layout.TheVariants.{Tables}
use Rattle.osm_rows.specs.Held.{Blob}
use Rattle.osm_tree_audits.specs.Looks.{IsLook}
use Rattle.osm_tree_writes.specs.Tables.{table_listings}
use Rattle.osm_trees.specs.Below.{IsChecked}
use Rattle.osm_trees.specs.Checking.{Checking}
use Rattle.osm_verify.specs.Audits.{KeepsImport}

-- The disk is honest, nothing is written, the database lists the trees of a store first, and these with their indexes are as an
-- opening that looks at each page, tree and index has seen them.
pub record IsLookedAt {S : Type 0} (g : Ghosts S) (store : Checking S) : Type 0 where
  pub clean : IsClean (g.view store.trees.store)
  pub checked : IsChecked (g.view store.trees.store)
  pub look : IsLook (g.view store.trees.store).trees store.look
  pub listed : take 9 ((g.view store.trees.store).trees catalog_tree) ≡ table_listings

-- the tables have the rows of an import of these frames, and no others, as is said of rows at an offset: what `verify` tells by
-- elements at status 0
abbrev pub KeepsFile : (Trees → ℕ → Blob → Type 0) → Trees → List (List ℕ) → Type 0
KeepsFile has_rows db frames = KeepsImport (has_rows db) Tables db frames
