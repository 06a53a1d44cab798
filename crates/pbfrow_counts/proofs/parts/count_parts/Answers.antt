use Rattle.std.proofs.Common.{arith}
use Rattle.osm_parts.proofs.ExportingLemmas.{part-at}
use Rattle.osm_parts.proofs.OpeningLemmas.{if-err}
use Rattle.pbfrow_counts.specs.Counting.{CountHasCause, IsOfMap}
use Rattle.pbfrow_counts.proofs.CountLemmas.{no-more}
use Rattle.pbfrow_counts.proofs.WalkLemmas.{cause-of-later, part-more, parts-all}
use Rattle.pbfrow_counts.proofs.parts.count_parts.Goals as goal

pub loop-part-init : goal.loop-part-init
loop-part-init g c = record {
  honest = λ h. h;
  open_if = λ o. o;
  kept = λ h maps holds. holds;
  counted = omega arith;
  held = λ maps asked ordered holds honest each. no-more c.args.counts.now;
}

pub loop-part-preserved : goal.loop-part-preserved
loop-part-preserved g c =
    let inv = c.loop-part.invariant in
    let made = c.in_ok-count_part.ensures in
    record {
      honest = λ h. inv.honest (made.opens.keeps.honest h);
      open_if = λ o. inv.open_if (made.opens.keeps.open_if o);
      kept = λ h maps holds. made.opens.ok h maps (inv.kept (made.opens.keeps.honest h) maps holds);
      counted = omega (arith, inv.counted, made.counted);
      held = λ maps asked ordered holds honest each.
          let earlier = made.opens.keeps.honest honest in
          let at = part-at maps asked c.args.parts.now ordered c.loop-part.part-index c.part-item.result each c.loop-part-test.true c.part-item.is in
          part-more maps asked c.args.parts.now ordered c.loop-part.part-index c.part-item.result c.args.counts.now c.loop-part.counts c.count_part.new.counts
          each c.loop-part-test.true c.part-item.is (inv.held maps asked ordered holds earlier each) (made.held maps asked at.held (inv.kept earlier maps holds) honest at.is);
    }

pub returns-in_err-count_part-clause-own : goal.returns-in_err-count_part-clause-own
returns-in_err-count_part-clause-own g c = λ maps asked holds honest read.
    let inv = c.loop-part.invariant in
    let made = c.in_err-count_part.ensures in
    let earlier = made.opens.keeps.honest honest in
    let at = part-at maps asked c.args.parts.now read.ordered c.loop-part.part-index c.part-item.result read.each c.loop-part-test.true c.part-item.is in
    if-err c.from_residual.result c.in_err-count_part.field-0.0 IsOfMap c.from_residual.ensures.1
    (made.own maps asked at.held (inv.kept earlier maps holds) honest at.is)

pub returns-in_err-count_part-clause-cause : goal.returns-in_err-count_part-clause-cause
returns-in_err-count_part-clause-cause g c =
    if-err c.from_residual.result c.in_err-count_part.field-0.0 (CountHasCause _ _) c.from_residual.ensures.1
    (cause-of-later _ _ _ c.in_err-count_part.field-0.0 c.loop-part.invariant.counted c.in_err-count_part.ensures.cause)

pub returns-clause-held : goal.returns-clause-held
returns-clause-held g c = λ maps asked whole holds honest read are.
    parts-all maps asked c.args.parts.now whole c.loop-part.part-index c.args.counts.now c.loop-part.counts read are c.loop-part-test.false
    (c.loop-part.invariant.held maps asked read.ordered holds honest read.each)
