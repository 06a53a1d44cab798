-- Of the rows of some items an index finds those of the items that pass a test.
use Rattle.std.proofs.Common.{◌≡◌, ℕ, ◌≤◌, Bool, Less, List, map, filter, flat_map, length, drop, subst, IsPermutation}
use Rattle.std.proofs.lemmas.List.Sorted.{IsPermutation-trans}
use Rattle.sqlite_value.specs.Order.{Row, column}
use Rattle.sqlite_value.specs.Keys.{plain, entry_cmp}
use Rattle.sqlite_trees.specs.declared.store.Shape.TheVariants.{Table}
use Rattle.sqlite_trees.specs.Tree.{IsAscending, IsIndex}
use Rattle.sqlite_trees.specs.View.{IsShaped}
use Rattle.sqlite_trees.proofs.ListLemmas.{IsPermutation-filter, ascending-filter, ascending_weaker}
use Rattle.sqlite_sql.specs.Catalog.{IsIndexOf}
use Rattle.sqlite_exec.specs.Plan.{resolved}
use Rattle.osm_rows.specs.LayoutHolding.{HasRows}
use Rattle.osm_tree_audits.specs.Finding.{starts}
use Rattle.osm_tree_audits.proofs.Found.{begins, filter_mapped}
use Rattle.osm_tree_audits.proofs.Found as index

module _ {X : Type 0} (row : X → Row) (cs shown : List ℕ) (same : (r : Row) → map (column (drop 1 r)) shown ≡ map (column r) cs)
    (key : Row) (short : length key ≤ length cs) (test : X → Bool) (tells : (x : X) → starts key (map (column (row x)) shown) ≡ test x) where
  item_begins : (x : X) → begins cs shown same key short (row x) ≡ test x
  unfolding begins
  item_begins x = tells x

  passing : (xs : List X) (rows : List Row) → HasRows (map row xs) rows → IsPermutation (map row (filter test xs)) (filter (begins cs shown same key short) (map (drop 1) rows))
  passing xs rows has =
      let own = begins cs shown same key short in
      subst (λ ys. IsPermutation ys (filter own (map (drop 1) rows))) (filter_mapped row own test item_begins xs) (IsPermutation-filter own _ _ has)

  -- in some order
  pub found : (xs : List X) (rows entries : List Row) → IsShaped Table rows → IsIndexOf cs rows entries → HasRows (map row xs) rows
      → IsPermutation (map row (filter test xs)) (map (drop 1) (flat_map (resolved rows (length cs)) (filter (starts key) entries)))
  found xs rows entries table is has = IsPermutation-trans _ _ _ (passing xs rows has) (index.found cs shown same key short rows entries table is)

  -- in the order of these columns
  pub in_order : (Before : X → X → Type 0) (rises : (a b : X) → Before a b → entry_cmp plain (map (column (row a)) shown) (map (column (row b)) shown) ≡ Less)
      → (xs : List X) (rows entries : List Row) → IsAscending Before xs → IsShaped Table rows → IsIndex plain entries → IsIndexOf cs rows entries → HasRows (map row xs) rows
      → map (drop 1) (flat_map (resolved rows (length cs)) (filter (starts key) entries)) ≡ map row (filter test xs)
  in_order Before rises xs rows entries before table up is has =
      index.in_order cs shown same key short row (filter test xs) (ascending_weaker _ _ rises _ (ascending-filter Before test xs before)) rows entries table up is (passing xs rows has)
