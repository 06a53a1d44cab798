use Rattle.std.proofs.lemmas.Int.{to_z-of_z}
use Rattle.std.proofs.Common.{rules, ◌∙◌, ◌≡◌, ◌+ℤ◌, pos, get_or, ◌<◌, ◌≤◌, length, arith, w64, FitsSigned, to_z, of_z, sym, ap}
use Rattle.std.specs.List.{list_all}
use Rattle.osm_block.specs.Differences.{fits_i64}
use Rattle.osm_block.proofs.DifferencesLemmas.{onto-zero, step, step-fits, stop, finish, finish-fits, list_all-fits}
use Rattle.osm_block.proofs.deltas.add_up.Goals as goal

pub loop-number-init : goal.loop-number-init
loop-number-init c = record { sums = onto-zero _; fit = tt }

pub loop-number-preserved : goal.loop-number-preserved
loop-number-preserved c =
    let inside : c.loop-number.number-index < length c.loop-number.numbers = omega (arith, c.loop-number.auto.numbers, c.loop-number-test.true) in
    let number_fits : FitsSigned w64 (get_or c.loop-number.numbers c.loop-number.number-index (pos 0)) = search rules in
    let number_is : to_z w64 (of_z w64 (get_or c.loop-number.numbers c.loop-number.number-index (pos 0))) ≡ get_or c.loop-number.numbers c.loop-number.number-index (pos 0) = to_z-of_z w64 _ number_fits in
    let fits : FitsSigned w64 c.in-Some.sum = rw c.in-Some.ensures.1 c.in-Some.ensures.0 in
    let value_is : to_z w64 (of_z w64 c.in-Some.sum) ≡ c.in-Some.sum = to_z-of_z w64 _ fits in
    record {
      sums = step c.loop-number.numbers _ _ _ _ _ inside c.loop-number.invariant.sums (value_is ∙ c.in-Some.ensures.1 ∙ ap (λ z. to_z w64 c.loop-number.last-bits +ℤ z) number_is);
      fit = step-fits c.loop-number.numbers _ _ inside c.loop-number.invariant.fit (rw value_is fits);
    }

pub returns-in-None-clause-fits : goal.returns-in-None-clause-fits
returns-in-None-clause-fits c =
    let inside : c.loop-number.number-index < length c.loop-number.numbers = omega (arith, c.loop-number.auto.numbers, c.loop-number-test.true) in
    let number_fits : FitsSigned w64 (get_or c.loop-number.numbers c.loop-number.number-index (pos 0)) = search rules in
    let number_is : to_z w64 (of_z w64 (get_or c.loop-number.numbers c.loop-number.number-index (pos 0))) ≡ get_or c.loop-number.numbers c.loop-number.number-index (pos 0) = to_z-of_z w64 _ number_fits in
    sym (stop c.loop-number.numbers _ _ _ _ inside c.loop-number.invariant.sums (λ f. c.in-None.ensures (rw number_is f)))

pub returns-clause-sums : goal.returns-clause-sums
returns-clause-sums c =
    let over : length c.loop-number.numbers ≤ c.loop-number.number-index = omega (arith, c.loop-number.auto.numbers, c.loop-number-test.false) in
    λ u. finish c.loop-number.numbers _ _ _ over c.loop-number.invariant.sums

pub returns-clause-fit : goal.returns-clause-fit
returns-clause-fit c =
    let over : length c.loop-number.numbers ≤ c.loop-number.number-index = omega (arith, c.loop-number.auto.numbers, c.loop-number-test.false) in
    λ u. finish-fits c.loop-number.numbers _ over c.loop-number.invariant.fit

pub returns-clause-fits : goal.returns-clause-fits
returns-clause-fits c =
    let over : length c.loop-number.numbers ≤ c.loop-number.number-index = omega (arith, c.loop-number.auto.numbers, c.loop-number-test.false) in
    sym (ap (list_all fits_i64) (sym (finish c.loop-number.numbers _ _ _ over c.loop-number.invariant.sums))
    ∙ list_all-fits _ (finish-fits c.loop-number.numbers _ over c.loop-number.invariant.fit))
