use Rattle.std.proofs.Common.{◌≡◌, ◌++◌, map, drop, take, ◌%◌, ◌^◌}
use Rattle.osm_block.proofs.payloads.low_32.Given as goal

abbrev pub invariant-loop-number : goal.invariant-loop-number
invariant-loop-number l = l.numbers ≡ map (λ n. n % 2 ^ 32) (take l.number-index l.fn.numbers) ++ drop l.number-index l.fn.numbers
