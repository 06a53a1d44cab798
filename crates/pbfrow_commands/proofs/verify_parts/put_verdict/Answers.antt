use Rattle.std.proofs.Common.{length, sym, ap, ◌∙◌}
use Rattle.osm_value.proofs.SinkLemmas.{Wrote-text}
use Rattle.pbfrow_commands.proofs.VerdictLines.{verdict_parts}
use Rattle.pbfrow_commands.proofs.verify_parts.put_verdict.Goals as goal

pub returns : goal.returns
returns g c = λ start before h.
    let gaps = c.len-2.ensures ∙ sym c.deref-2.ensures.len ∙ ap length c.deref-2.ensures.value in
    let count = c.len.ensures ∙ sym c.deref.ensures.len ∙ ap length c.deref.ensures.value in
    Wrote-text start _ _ _ _
    (verdict_parts before c.args.verdict.now c.deref.result.now c.deref-3.result.now c.deref-2.result.now c.len-2.result c.count_others-others.result c.len.result c.deref.ensures.value c.deref-3.ensures.value c.deref-2.ensures.value gaps c.count_others-others.ensures count)
    (c.put_counts.ensures start _ (c.put_gaps.ensures start _ (c.put_findings.ensures start before h)))
