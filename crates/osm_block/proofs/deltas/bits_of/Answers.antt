use Rattle.std.proofs.Common.{◌<◌, length, arith}
use Rattle.osm_block.proofs.SmallLemmas.{bits_more, bits_of_all}
use Rattle.osm_block.proofs.deltas.bits_of.Goals as goal

pub loop-number-preserved : goal.loop-number-preserved
loop-number-preserved c =
    let inside : c.loop-number.number-index < length c.args.numbers.now = omega (arith, c.loop-number-test.true) in
    bits_more (λ n. n) c.loop-number.bits c.args.numbers.now c.loop-number.number-index 0 inside c.loop-number.invariant

pub returns : goal.returns
returns c = bits_of_all (λ n. n) c.loop-number.bits c.args.numbers.now c.loop-number.number-index (omega (arith, c.loop-number-test.false)) c.loop-number.invariant
