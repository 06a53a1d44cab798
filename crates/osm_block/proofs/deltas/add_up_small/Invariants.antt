use Rattle.std.proofs.Common.{◌≡◌, ◌≤◌, ◌*◌, ◌^◌, ◌++◌, ◌+ℤ◌, map, drop, take, FitsSigned}
use Rattle.std.specs.Prelude.{unsigned_abs}
use Rattle.std.specs.List.{AllByRecursion}
use Rattle.std.specs.Int.{w64}
use Rattle.osm_block.specs.Differences.{front_sums}
use Rattle.osm_block.proofs.deltas.add_up_small.Given as goal

-- the sums so far, and those of what is left, each added to the last, which is no greater than so many differences
abbrev pub invariant-loop-number : goal.invariant-loop-number
invariant-loop-number l = record {
  sums : take l.number-index l.numbers ++ map (λ s. l.last +ℤ s) (front_sums (drop l.number-index l.numbers)) ≡ front_sums l.fn.numbers;
  fit : AllByRecursion (FitsSigned w64) (take l.number-index l.numbers);
  small : AllByRecursion (λ d. unsigned_abs d ≤ 2 ^ 41) (drop l.number-index l.numbers);
  near : unsigned_abs l.last ≤ l.number-index * 2 ^ 41;
}
