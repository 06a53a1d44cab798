use Rattle.std.proofs.Common.{◌<◌, ◌∙◌, sym, arith, get_or, refl, inl, inr}
use Rattle.pbf_wire.specs.Number.{number_at, number_within}
use Rattle.pbf_wire.proofs.NumberLoop.{resumed_none, resumed_more, resumed_end, resumed_tenth, resumed_long, resumed_cut, group_fits, next_place, GroupFits, NextPlace}
use Rattle.pbf_wire.proofs.number.long_number_at.Goals as goal

pub loop-index-init : goal.loop-index-init
unfolding number_at
loop-index-init c = record { few = omega arith; place = refl; below = omega arith; so_far = resumed_none (number_within 9 c.args.bytes.now) }

pub returns-then-byte-gt1-clause-exact : goal.returns-then-byte-gt1-clause-exact
returns-then-byte-gt1-clause-exact c =
    (sym (resumed_long c.loop-index.number c.loop-index.place c.loop-index.index c.args.bytes.now c.if-index-eq9.true c.loop-index-test.true c.if-byte-gt1.true) ∙ c.loop-index.invariant.so_far)

pub overflow_mul-number : goal.overflow_mul-number
overflow_mul-number c =
    let f : GroupFits c.loop-index.number c.loop-index.place c.loop-index.index (get_or c.args.bytes.now c.loop-index.index 0) = group_fits c.loop-index.number c.loop-index.place c.loop-index.index (get_or c.args.bytes.now c.loop-index.index 0) c.loop-index.invariant.place c.loop-index.invariant.below c.loop-index.invariant.few (omega (arith, c.else-index-eq9.either)) in
    rw c.from.ensures (omega (arith, f.product))

pub overflow_add-number : goal.overflow_add-number
overflow_add-number c =
    let f : GroupFits c.loop-index.number c.loop-index.place c.loop-index.index (get_or c.args.bytes.now c.loop-index.index 0) = group_fits c.loop-index.number c.loop-index.place c.loop-index.index (get_or c.args.bytes.now c.loop-index.index 0) c.loop-index.invariant.place c.loop-index.invariant.below c.loop-index.invariant.few (λ nine. elim c.else-index-eq9.either [ inl p ↦ p.1 | inr h ↦ absurd (h nine) ]) in
    rw c.from.ensures (omega (arith, f.sum))

pub returns-then-byte-lt128-clause-exact : goal.returns-then-byte-lt128-clause-exact
returns-then-byte-lt128-clause-exact c =
    rw c.from.ensures (elim c.else-index-eq9.either [
      | inl p ↦ (sym (resumed_tenth c.loop-index.number c.loop-index.place c.loop-index.index c.args.bytes.now p.0 c.loop-index-test.true p.1) ∙ c.loop-index.invariant.so_far)
      | inr h ↦ (sym (resumed_end c.loop-index.number c.loop-index.place c.loop-index.index c.args.bytes.now (omega arith) c.loop-index-test.true c.if-byte-lt128.true) ∙ c.loop-index.invariant.so_far)
    ])

pub loop-index-preserved : goal.loop-index-preserved
loop-index-preserved c =
    let few : c.loop-index.index < 9 = elim c.else-index-eq9.either [ inl p ↦ absurd (omega arith) | inr h ↦ omega arith ] in
    let n : NextPlace c.loop-index.number c.loop-index.place c.loop-index.index (get_or c.args.bytes.now c.loop-index.index 0) = next_place c.loop-index.number c.loop-index.place c.loop-index.index (get_or c.args.bytes.now c.loop-index.index 0) c.loop-index.invariant.place c.loop-index.invariant.below few in
    rw c.from.ensures (record {
      few = omega arith;
      place = n.grows;
      below = n.below;
      so_far = sym (resumed_more c.loop-index.number c.loop-index.place c.loop-index.index c.args.bytes.now few c.loop-index-test.true c.if-byte-lt128.false) ∙ c.loop-index.invariant.so_far;
    })

pub returns-clause-exact : goal.returns-clause-exact
returns-clause-exact c =
    (sym (resumed_cut c.loop-index.number c.loop-index.place c.loop-index.index c.args.bytes.now c.loop-index-test.false) ∙ c.loop-index.invariant.so_far)
