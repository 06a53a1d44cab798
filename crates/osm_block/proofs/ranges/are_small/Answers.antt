use Rattle.std.proofs.lemmas.Int.{to_z-of_z}
use Rattle.std.proofs.Common.{rules, ◌≡◌, ◌<◌, ◌^◌, ℤ, pos, get_or, length, arith, w64, FitsSigned, to_z, of_z}
use Rattle.std.specs.Prelude.{unsigned_abs}
use Rattle.osm_block.proofs.SmallLemmas.{bits_more, bits_of_all, below}
use Rattle.osm_block.proofs.ranges.are_small.Goals as goal

pub loop-number-preserved : goal.loop-number-preserved
loop-number-preserved c =
    let inside : c.loop-number.number-index < length c.args.numbers.now = omega (arith, c.loop-number-test.true) in
    let number : ℤ = get_or c.args.numbers.now c.loop-number.number-index (pos 0) in
    let number_fits : FitsSigned w64 number = search rules in
    let number_is : to_z w64 (of_z w64 number) ≡ number = to_z-of_z w64 number number_fits in
    rw c.unsigned_abs-bits.ensures.value (rw number_is (bits_more unsigned_abs c.loop-number.bits c.args.numbers.now c.loop-number.number-index (pos 0) inside c.loop-number.invariant))

pub returns : goal.returns
returns c = λ small.
    below unsigned_abs c.loop-number.bits (2 ^ 36) c.args.numbers.now (grind (arith, small))
    (bits_of_all unsigned_abs c.loop-number.bits c.args.numbers.now c.loop-number.number-index (omega (arith, c.loop-number-test.false)) c.loop-number.invariant)
