-- A table with some rows more.
use Rattle.std.proofs.Common.{List, [], ◌++◌, map, drop, subst, append-nil, append_assoc}
use Rattle.std.specs.List.Sorted.{IsPermutation}
use Rattle.std.proofs.lemmas.List.Sorted.{IsPermutation-refl, IsPermutation-trans, IsPermutation-append_left}
use Rattle.sqlite.specs.Order.{Row}
use Rattle.osm_rows.specs.Put.Gains.{Gains}

pub gains_nothing : (rows : List Row) → Gains rows [] rows
gains_nothing rows = rw append-nil (IsPermutation-refl (map (drop 1) rows))

pub gains_then : (old mid new xs ys : List Row) → Gains old xs mid → Gains mid ys new → Gains old (xs ++ ys) new
gains_then old mid new xs ys before h =
    subst (λ all. IsPermutation all (map (drop 1) new)) (append_assoc (map (drop 1) old) xs ys) (IsPermutation-trans _ _ _ (IsPermutation-append_left ys _ _ before) h)
