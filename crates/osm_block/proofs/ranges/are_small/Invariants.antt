use Rattle.std.proofs.Common.{◌≤◌, take}
use Rattle.std.specs.Prelude.{unsigned_abs}
use Rattle.std.specs.List.{AllByRecursion}
use Rattle.osm_block.proofs.ranges.are_small.Given as goal

abbrev pub invariant-loop-number : goal.invariant-loop-number
invariant-loop-number l = AllByRecursion (λ n. unsigned_abs n ≤ l.bits) (take l.number-index l.numbers)
