use Rattle.std.proofs.Common.{◌≤◌, ◌∙◌, sym, arith}
use Rattle.pbf_wire.specs.Field.{view}
use Rattle.pbfrow_c.proofs.Places.{bytes_fit, later, last_from-end, last_from-fault}
use Rattle.pbfrow_c.proofs.blob.last_place.Goals as goal

pub later_place-last-requires : goal.later_place-last-requires
later_place-last-requires c =
    let within = rw c.in-Ok-Some.field-0-is at c.in-Ok-Some.ensures.within in
    let low : c.fields.at ≤ c.in-Ok-Some.next = omega arith in
    bytes_fit (view c.in-Ok-Some.field) c.args.message.now c.fields.at c.in-Ok-Some.next low within.1 (rw c.in-Ok-Some.field-0-is at c.in-Ok-Some.ensures.found)

pub fields-preserved : goal.fields-preserved
fields-preserved c =
    let within = rw c.in-Ok-Some.field-0-is at c.in-Ok-Some.ensures.within in
    let low : c.fields.at ≤ c.in-Ok-Some.next = omega arith in
    let l = later c.args.number c.fields.at c.in-Ok-Some.next c.args.message.now (view c.in-Ok-Some.field) c.fields.last low within.1
    (rw c.in-Ok-Some.field-0-is at c.in-Ok-Some.ensures.exact) (rw c.in-Ok-Some.field-0-is at c.in-Ok-Some.ensures.found) c.fields.invariant.within in
    rw c.later_place-last.ensures (record { in_range = within.1; within = l.within; so_far = l.so_far ∙ c.fields.invariant.so_far })

pub returns-in-Ok-None-clause-exact : goal.returns-in-Ok-None-clause-exact
returns-in-Ok-None-clause-exact c =
    sym (last_from-end c.args.number c.fields.at c.args.message.now c.fields.last (rw c.in-Ok-None.field-0-is at c.in-Ok-None.ensures.exact)) ∙ c.fields.invariant.so_far

pub returns-in-Err-clause-exact : goal.returns-in-Err-clause-exact
returns-in-Err-clause-exact c =
    sym (last_from-fault c.args.number c.fields.at c.args.message.now c.fields.last c.in-Err.field-0 c.in-Err.ensures.exact) ∙ c.fields.invariant.so_far
