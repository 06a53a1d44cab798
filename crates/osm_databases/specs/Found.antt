-- What an opening gives: trees that lie under a name, or those of a store that was made under it.
use Rattle.std.specs.Prelude.{◌⊎◌}
use Rattle.std.specs.FinMap.{empty}
use Rattle.sqlite_trees.specs.declared.store.Store.{Ghosts}
use Rattle.sqlite_trees.specs.Objects.{catalog_tree}
use Rattle.sqlite_trees.specs.Tree.{Trees}
use Rattle.sqlite_trees.specs.View.{View, IsClean}
use Rattle.sqlite_exec.specs.Calls.{OnlyReads}
use Rattle.osm_rows.specs.declared.schema.layout.Layout.TheVariants.{Tables}
use Rattle.osm_tree_writes.specs.Appending.{IsStoreAt, TakeBlobs}
use Rattle.osm_tree_writes.specs.Beside.{ListsAlone}
use Rattle.osm_trees.specs.Below.{HoldsBelow, ListsAlways}
use Rattle.osm_databases.specs.Checked.{IsOfVersion}

-- the trees are some that lie under the name, and those of a store of this version
pub record AreFound {S : Type 0} (g : Ghosts S) (gives : S → Type 0) (trees : S) : Type 0 where
  pub given : gives trees
  pub version : IsClean (g.view trees) → IsOfVersion (g.view trees)

-- the trees were found, and since then nothing was done but reads
pub record AreReadFrom {S : Type 0} (g : Ghosts S) (gives : S → Type 0) (trees : S) : Type 0 where
  pub first : S
  pub found : AreFound g gives first
  pub reads : IsClean (g.view trees) → OnlyReads (g.view first) (g.view trees)

-- the trees were found, and a put can keep all that their database has
pub record TakeAsFound {S : Type 0} (g : Ghosts S) (gives : S → Type 0) (trees : S) : Type 0 where
  pub found : AreFound g gives trees
  pub store : IsStoreAt (g.view trees).shape
  pub takes : IsClean (g.view trees) → TakeBlobs (g.view trees).shape ((g.view trees).trees catalog_tree)

-- the trees list those of a store and nothing else, and so does whatever a crash leaves of them
abbrev pub ListOnlyAStore : View → (Trees → Type 0) → Type 0
ListOnlyAStore v recovers = ListsAlone (v.trees catalog_tree) × ListsAlways v recovers (v.trees catalog_tree)

-- the trees are those of a store that was made: it holds nothing, and nothing is listed beside its own
pub record AreMade {S : Type 0} (g : Ghosts S) (trees : S) : Type 0 where
  pub empty : IsClean (g.view trees) → HoldsBelow Tables (g.view trees) empty
  pub alone : IsClean (g.view trees) → ListOnlyAStore (g.view trees) (g.recovers trees)

-- the trees are some that are made under the name, and those of such a store
pub record AreMadeUnder {S : Type 0} (g : Ghosts S) (makes : S → Type 0) (trees : S) : Type 0 where
  pub given : makes trees
  pub made : AreMade g trees

-- the trees were found under the name and take blobs, or were made under it
abbrev pub AreFoundOrMade : {S : Type 0} → Ghosts S → (gives makes : S → Type 0) → S → Type 0
AreFoundOrMade g gives makes trees = TakeAsFound g gives trees ⊎ AreMadeUnder g makes trees
