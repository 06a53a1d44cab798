use Rattle.std.proofs.Common.{◌≡◌, ◌++◌, drop}
use Rattle.osm_tree_audits.proofs.keyed.copy_columns.Given as goal

abbrev pub invariant-loop-at : goal.invariant-loop-at
invariant-loop-at l = l.columns ++ drop l.at l.row ≡ drop 1 l.row
