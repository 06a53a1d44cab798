use Rattle.std.proofs.Common.{◌≡◌, ◌<◌, ◌∙◌, false, length, sym, arith, rules, true≢false}
use Rattle.osm_rows.specs.Rows.{body_row}
use Rattle.osm_old_store.proofs.AuditLemmas.RowLists.{placed_same_more, placed_same_at, placed_same_length}
use Rattle.osm_old_store.proofs.audit.bodies.are_bodies.Goals as goal

pub returns-then-rows-elements-clause-told : goal.returns-then-rows-elements-clause-told
returns-then-rows-elements-clause-told c = (
  (λ bad. absurd (true≢false (sym bad))),
  λ all. (let long = placed_same_length body_row c.args.off c.args.rows.now c.args.elements.now all in absurd (omega (arith, c.if-rows-elements.true, long))),
)

pub returns-then-not-branch-clause-told : goal.returns-then-not-branch-clause-told
returns-then-not-branch-clause-told c = (
  (λ bad. absurd (true≢false (sym bad))),
  λ all.
      let below : c.loop-at.at < length c.args.elements.now = omega (arith, c.if-rows-elements.false, c.loop-at-test.true) in
      let no : c.in_ok-is_body.field-0 ≡ false = search rules in
      let same = placed_same_at body_row c.args.off c.args.rows.now c.args.elements.now c.loop-at.at c.index-rows-at.result c.index-elements-at.result below c.index-rows-at.is c.index-elements-at.is all in
      absurd (true≢false (sym (c.in_ok-is_body.ensures.told.1 same) ∙ no)),
)

pub loop-at-preserved : goal.loop-at-preserved
loop-at-preserved c =
    let below : c.loop-at.at < length c.args.elements.now = omega (arith, c.if-rows-elements.false, c.loop-at-test.true) in
    placed_same_more body_row c.args.off c.args.rows.now c.args.elements.now c.loop-at.at c.index-rows-at.result c.index-elements-at.result c.loop-at-test.true below c.index-rows-at.is c.index-elements-at.is
    c.loop-at.invariant (c.in_ok-is_body.ensures.told.0 (search rules))
