use Rattle.std.proofs.Common.{◌≡◌, ◌<◌, ℕ}
use Rattle.sqlite_value.specs.Order.{column}
use Rattle.sqlite_sql.specs.Catalog.{entry_of}
use Rattle.osm_tree_audits.proofs.indexes.is_entry_of.Given as goal

abbrev pub invariant-loop-at : goal.invariant-loop-at
invariant-loop-at l = (k : ℕ) → k < l.at → column l.entry k ≡ column (entry_of l.columns l.row) k
