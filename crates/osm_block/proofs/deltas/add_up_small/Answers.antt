use Rattle.std.proofs.lemmas.Int.{to_z-of_z}
use Rattle.std.proofs.Common.{◌∙◌, ◌≡◌, ℤ, ◌+ℤ◌, ◌+◌, ◌*◌, ◌^◌, pos, get_or, ◌<◌, ◌≤◌, length, arith, w64, FitsSigned, to_z, of_z, ap}
use Rattle.std.specs.Prelude.{unsigned_abs}
use Rattle.osm_block.proofs.DifferencesLemmas.{onto-zero, step, step-fits, finish, finish-fits}
use Rattle.osm_block.proofs.SmallLemmas.{abs-sum, small_fits, small_at, small_behind}
use Rattle.osm_block.proofs.deltas.add_up_small.Goals as goal

pub loop-number-init : goal.loop-number-init
loop-number-init c = record { sums = onto-zero _; fit = tt; small = c.requires.small; near = omega arith }

pub loop-number-preserved : goal.loop-number-preserved
loop-number-preserved c =
    let inside : c.loop-number.number-index < length c.loop-number.numbers = omega (arith, c.loop-number.auto.numbers, c.loop-number-test.true) in
    let number : ℤ = get_or c.loop-number.numbers c.loop-number.number-index (pos 0) in
    let number_small : unsigned_abs number ≤ 2 ^ 41 = small_at (λ d. unsigned_abs d ≤ 2 ^ 41) c.loop-number.numbers c.loop-number.number-index (pos 0) inside c.loop-number.invariant.small in
    let number_is : to_z w64 (of_z w64 number) ≡ number = to_z-of_z w64 _ (small_fits number (omega (arith, number_small))) in
    let last : ℤ = to_z w64 c.loop-number.last-bits in
    let near : unsigned_abs (last +ℤ number) ≤ (c.loop-number.number-index + 1) * 2 ^ 41 = omega (arith, abs-sum last number, c.loop-number.invariant.near, number_small) in
    let fits : FitsSigned w64 (last +ℤ number) = small_fits _ (omega (arith, near, inside, c.requires.few, c.loop-number.auto.numbers)) in
    let value_is : to_z w64 (of_z w64 (last +ℤ to_z w64 (of_z w64 number))) ≡ last +ℤ number = ap (λ n. to_z w64 (of_z w64 (last +ℤ n))) number_is ∙ to_z-of_z w64 _ fits in
    record {
      sums = step c.loop-number.numbers _ _ _ (pos 0) _ inside c.loop-number.invariant.sums value_is;
      fit = step-fits c.loop-number.numbers _ _ inside c.loop-number.invariant.fit (rw value_is fits);
      small = small_behind (λ d. unsigned_abs d ≤ 2 ^ 41) c.loop-number.numbers c.loop-number.number-index _ (pos 0) inside c.loop-number.invariant.small;
      near = rw value_is near;
    }

pub returns-clause-sums : goal.returns-clause-sums
returns-clause-sums c =
    let over : length c.loop-number.numbers ≤ c.loop-number.number-index = omega (arith, c.loop-number.auto.numbers, c.loop-number-test.false) in
    finish c.loop-number.numbers _ _ _ over c.loop-number.invariant.sums

pub returns-clause-fit : goal.returns-clause-fit
returns-clause-fit c =
    let over : length c.loop-number.numbers ≤ c.loop-number.number-index = omega (arith, c.loop-number.auto.numbers, c.loop-number-test.false) in
    finish-fits c.loop-number.numbers _ over c.loop-number.invariant.fit
