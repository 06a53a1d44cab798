-- What is known of the trees of files that were opened as a store of this version.
use Rattle.std.specs.Prelude.{◌≡◌, false, [], ◌∷◌, take}
use Rattle.sqlite_trees.specs.Objects.{catalog_tree}
use Rattle.sqlite_trees.specs.View.{View}
use Rattle.sqlite_exec.specs.Calls.{OnlyReads}
use Rattle.sqlite_wal.specs.Recovery.{Image}
use Rattle.osm_rows.specs.declared.schema.layout.Layout.TheVariants.{Tables}
use Rattle.osm_rows.specs.Rows.{version_row}
use Rattle.osm_tree_writes.specs.Tables.{table_listings}
use Rattle.osm_openings.specs.Presumed.{ReadsAs}
use Rattle.osm_rows.specs.declared.trees.TheConstants.{META}

-- The store can go on, its pages end in no sums, and nothing is written beyond the last commit. Its first trees are those of a
-- store of this version, and all of them are what these files read as, so that nothing was changed.
pub record IsOpened (image : Image) (v : View) : Type 0 where
  pub unbroken : v.is_broken ≡ false
  pub settled : v.trees ≡ v.committed
  pub plain : v.has_sums ≡ false
  pub listed : take 9 (v.trees catalog_tree) ≡ table_listings
  pub version : v.trees META ≡ version_row Tables ∷ []
  pub reads : ReadsAs image v.trees

-- the table that names the version has the one row of this version, and was only read
abbrev pub IsOfThisVersion : View → View → Type 0
IsOfThisVersion old new = OnlyReads old new × (new.is_broken ≡ false) × (old.trees META ≡ version_row Tables ∷ [])
