use Rattle.std.proofs.Common.{◌≡◌, ◌++◌, ◌+ℤ◌, map, drop, take, FitsSigned}
use Rattle.std.specs.List.{AllByRecursion}
use Rattle.std.specs.Int.{w64}
use Rattle.osm_block.specs.Differences.{front_sums}
use Rattle.osm_block.proofs.deltas.add_up.Given as goal

-- the sums so far, and those of what is left, each added to the last
abbrev pub invariant-loop-number : goal.invariant-loop-number
invariant-loop-number l = record {
  sums : take l.number-index l.numbers ++ map (λ s. l.last +ℤ s) (front_sums (drop l.number-index l.numbers)) ≡ front_sums l.fn.numbers;
  fit : AllByRecursion (FitsSigned w64) (take l.number-index l.numbers);
}
