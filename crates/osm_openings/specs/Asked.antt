-- When a list of trees is the one that its rows ask for.
use Rattle.std.specs.Prelude.{◌≡◌, ◌⊎◌, ℕ, List, [], ◌∷◌, map, take, drop, All, Option, None, Some}
use Rattle.sqlite_value.specs.declared.value.Value.TheVariants.{Null}
use Rattle.sqlite_value.specs.Order.{Row, column}
use Rattle.sqlite_value.specs.declared.keys.Order.{Order}
use Rattle.sqlite_trees.specs.Objects.{number_in, shape_code}
use Rattle.osm_index_orders.specs.Orders.{index_order}
use Rattle.osm_openings.specs.Presumed.{foreign_tree}
use Rattle.osm_tree_writes.specs.Beside.{ListsAlone}
use Rattle.osm_tree_writes.specs.Tables.{table_listings}

-- a row of a list of trees as one of `sqlite_schema`, which names a root page too
abbrev pub entry_of : Row → Row
entry_of row = column row 0 ∷ column row 1 ∷ column row 2 ∷ column row 3 ∷ Null ∷ column row 4 ∷ []

-- the row of the list has the shape of a tree with this order, if its root page begins an index
abbrev pub HasShape : Row → Option Order → Type 0
HasShape row order = number_in (column row 5) ≡ shape_code (foreign_tree (entry_of row) order).shape

-- it has that of a table, or of an index in the order that these rows ask; that of a view or a trigger is none
abbrev pub IsAsAsked : List Row → Row → Type 0
IsAsAsked rows row = HasShape row None ⊎ HasShape row (Some (index_order (map entry_of rows) (entry_of row)))

-- each row behind the first so many is listed as it asks
abbrev pub AreAsAsked : ℕ → List Row → Type 0
AreAsAsked first rows = All (IsAsAsked rows) (drop first rows)

-- the list begins with the trees of a store that keeps elements in tables, and each other is listed as its row asks
pub record ListsAsAsked (rows : List Row) : Type 0 where
  pub own : take 9 rows ≡ table_listings
  pub asked : AreAsAsked 9 rows

-- An opening makes this list again of the rows that it tells of, maybe in another order: it has the trees of a store alone, or
-- each other as its row asks.
abbrev pub IsFoundAgain : List Row → Type 0
IsFoundAgain rows = ListsAlone rows ⊎ ListsAsAsked rows
