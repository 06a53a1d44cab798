use Rattle.std.proofs.Common.{◌≡◌, ◌++◌, drop}
use Rattle.std.specs.List.{list_any}
use Rattle.osm_tree_writes.specs.Added.{is_refused, plain_indexes}
use Rattle.osm_tree_writes.proofs.added.index.plain_indexes.Given as goal

abbrev pub invariant-loop-row : goal.invariant-loop-row
invariant-loop-row l =
    (l.indexes.items ++ plain_indexes (drop l.row-index l.rows) ≡ plain_indexes l.rows)
    × (list_any is_refused (drop l.row-index l.rows) ≡ list_any is_refused l.rows)
