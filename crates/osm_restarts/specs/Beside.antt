-- Stores whose trees are listed as their rows ask, beside objects of anybody's.
use Rattle.std.specs.Prelude.{◌≡◌, false}
use Rattle.sqlite_trees.specs.Tree.{Trees}
use Rattle.sqlite_trees.specs.View.{View}
use Rattle.sqlite_trees.specs.Objects.{catalog_tree}
use Rattle.osm_openings.specs.Asked.{ListsAsAsked}
use Rattle.osm_trees.specs.Below.{IsUsable}

-- The trees list those of a store, and each other as its row asks, if they needn't be opened again; so do those that a crash
-- leaves. Nothing is written unless a transaction is broken.
pub record StandsBeside (v : View) (recovers : Trees → Type 0) : Type 0 where
  pub settled : IsUsable v → v.is_broken ≡ false → v.trees ≡ v.committed
  pub committed : IsUsable v → ListsAsAsked (v.committed catalog_tree)
  pub left : (db : Trees) → recovers db → ListsAsAsked (db catalog_tree)
