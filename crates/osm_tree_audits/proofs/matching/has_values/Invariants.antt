use Rattle.std.proofs.Common.{◌≡◌, ◌+◌, ◌<◌, ℕ}
use Rattle.sqlite.specs.Order.{column}
use Rattle.sqlite.specs.Values.{bound}
use Rattle.osm_tree_audits.proofs.matching.has_values.Given as goal

abbrev pub invariant-loop-at : goal.invariant-loop-at
invariant-loop-at l = (k : ℕ) → k < l.at → column l.row (k + 1) ≡ column (bound l.values) k
