use Rattle.std.proofs.Common.{◌≡◌, ◌≤◌, ◌^◌, ◌∙◌, subst, ap, sym, arith, length, map, false, refl}
use Rattle.std.proofs.lemmas.List.{take_at}
use Rattle.std.specs.Prelude.{unsigned_abs}
use Rattle.std.specs.List.{list_all, AllByRecursion}
use Rattle.pbf_wire.specs.Readings.{sint64}
use Rattle.osm_block.specs.Differences.{front_sums, fits_i64}
use Rattle.osm_block.proofs.DifferencesLemmas.{gives, stops}
use Rattle.osm_block.proofs.SmallLemmas.{small_differences}
use Rattle.osm_block.proofs.deltas.absolute.Goals as goal

pub add_up_small-requires-clause-small : goal.add_up_small-requires-clause-small
add_up_small-requires-clause-small c =
    let are : c.deref_mut.result.now ≡ map sint64 c.args.deltas.now = c.deref_mut.ensures.value ∙ c.in_ok-values.ensures in
    subst (AllByRecursion (λ d. unsigned_abs d ≤ 2 ^ 41)) (sym are) (small_differences c.args.deltas.now (c.if-are_small.ensures.small refl))

pub returns-then-are_small : goal.returns-then-are_small
returns-then-are_small c =
    let are : c.deref_mut.result.now ≡ map sint64 c.args.deltas.now = c.deref_mut.ensures.value ∙ c.in_ok-values.ensures in
    let long : length c.add_up_small.new.numbers ≡ c.in_ok-values.values.len = omega (arith, c.add_up_small.auto.numbers, c.deref_mut.ensures.len) in
    rw (take_at c.add_up_small.new.numbers _ _ long) (gives _ _ (c.add_up_small.ensures.sums ∙ ap front_sums are) c.add_up_small.ensures.fit)

pub returns-then-add_up : goal.returns-then-add_up
returns-then-add_up c =
    let are : c.deref_mut-2.result.now ≡ map sint64 c.args.deltas.now = c.deref_mut-2.ensures.value ∙ c.in_ok-values.ensures in
    let long : length c.add_up.new.numbers ≡ c.in_ok-values.values.len = omega (arith, c.add_up.auto.numbers, c.deref_mut-2.ensures.len) in
    rw (take_at c.add_up.new.numbers _ _ long) (gives _ _ (c.if-add_up.ensures.sums refl ∙ ap front_sums are) (c.if-add_up.ensures.fit refl))

pub returns-else-add_up : goal.returns-else-add_up
returns-else-add_up c =
    let are : c.deref_mut-2.result.now ≡ map sint64 c.args.deltas.now = c.deref_mut-2.ensures.value ∙ c.in_ok-values.ensures in
    let fails : list_all fits_i64 (front_sums (map sint64 c.args.deltas.now)) ≡ false = ap (λ l. list_all fits_i64 (front_sums l)) (sym are) ∙ sym c.if-add_up.ensures.fits in
    stops _ fails
