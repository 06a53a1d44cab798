-- What is known of the trees of a database each page of which was checked.
use Rattle.std.specs.Prelude.{◌≡◌, false, [], ◌∷◌, take}
use Rattle.sqlite_trees.specs.Objects.{catalog_tree}
use Rattle.sqlite_trees.specs.Tree.{Trees}
use Rattle.sqlite_trees.specs.View.{View}
use Rattle.osm_rows.specs.declared.schema.layout.Layout.TheVariants.{Tables}
use Rattle.osm_rows.specs.Rows.{version_row}
use Rattle.osm_tree_writes.specs.Added.{AreKept, plain_indexes}
use Rattle.osm_tree_writes.specs.Tables.{table_listings}
use Rattle.osm_tree_audits.specs.Indexes.{AreWhole}
use Rattle.osm_trees.specs.Below.{IsChecked}
use Rattle.osm_openings.specs.Asked.{ListsAsAsked}
use Rattle.osm_rows.specs.declared.trees.TheConstants.{META}

-- The store can go on, nothing is written, and its first trees are those of a store of this version. Each other is listed as its
-- row asks.
pub record IsOfVersion (v : View) : Type 0 where
  pub unbroken : v.is_broken ≡ false
  pub settled : v.trees ≡ v.committed
  pub listed : take 9 (v.trees catalog_tree) ≡ table_listings
  pub version : v.trees META ≡ version_row Tables ∷ []
  pub asked : ListsAsAsked (v.trees catalog_tree)

-- each index added to a table of the store is one that a put keeps, and has one entry for each row of its table, and no other
abbrev pub HasWholeAdded : Trees → Type 0
HasWholeAdded db = AreKept (db catalog_tree) × AreWhole db (plain_indexes (db catalog_tree))

-- the trees were checked, and the first are those of a store
abbrev pub IsCheckedStore : View → Type 0
IsCheckedStore v = IsChecked v × (take 9 (v.trees catalog_tree) ≡ table_listings)
