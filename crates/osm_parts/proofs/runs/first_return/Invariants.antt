use Rattle.std.proofs.Common.{ℕ, ◌<◌}
use Rattle.osm_parts.specs.Runs.{ReturnsAt}
use Rattle.osm_parts.proofs.runs.first_return.Given as goal

abbrev pub invariant-loop-index : goal.invariant-loop-index
invariant-loop-index l = (k : ℕ) → k < l.index → ¬ (ReturnsAt l.parts k)
