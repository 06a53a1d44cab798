-- The rows of a table that an index finds by the first columns of its entries.
use Rattle.std.specs.Prelude.{◌≡◌, ℕ, Bool, List, map, drop, filter, flat_map}
use Rattle.std.specs.Ordering.{is_eq}
use Rattle.sqlite_value.specs.Order.{Row}
use Rattle.sqlite_value.specs.Keys.{plain, prefix_cmp}
use Rattle.sqlite_trees.specs.declared.store.Shape.TheVariants.{Table, Index}
use Rattle.sqlite_trees.specs.Tree.{Trees}
use Rattle.sqlite_trees.specs.View.{IsShaped}
use Rattle.sqlite_exec.specs.Plan.{resolved}

-- the entry's first columns are those of the key
abbrev pub starts : Row → Row → Bool
starts key entry = is_eq (prefix_cmp plain entry key)

-- the rows of a table, without their rowids, whose entries in an index begin with this key, in the index's order
pub record Finds {R : Type 0} (gives : Row → R) (trees : Trees) (index table width : ℕ) (key : Row) (rows : List R) : Type 0 where
  pub shaped : IsShaped Table (trees table)
  pub ordered : IsShaped (Index plain) (trees index)
  pub are : rows ≡ map gives (map (drop 1) (flat_map (resolved (trees table) width) (filter (starts key) (trees index))))
