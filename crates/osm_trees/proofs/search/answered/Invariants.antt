use Rattle.std.proofs.Common.{◌≡◌, take}
use Rattle.osm_trees.proofs.search.answered.Given as goal

abbrev pub invariant-loop-row : goal.invariant-loop-row
invariant-loop-row l = l.answer.items ≡ take l.row-index l.rows
