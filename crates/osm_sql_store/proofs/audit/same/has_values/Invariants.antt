use Rattle.std.proofs.Common.{◌≡◌, ◌<◌, ℕ}
use Rattle.sqlite.specs.Order.{column}
use Rattle.sqlite.specs.Values.{bound}
use Rattle.osm_sql_store.proofs.audit.same.has_values.Given as goal

abbrev pub invariant-loop-at : goal.invariant-loop-at
invariant-loop-at l = (k : ℕ) → k < l.at → column l.row k ≡ column (bound l.values) k
