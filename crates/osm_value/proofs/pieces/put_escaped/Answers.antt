use Rattle.std.proofs.Common.{◌++◌, ◌∙◌, sym, ap, arith}
use Rattle.osm_value.specs.Escape.{escaped}
use Rattle.osm_value.proofs.SinkLemmas.{Wrote-text}
use Rattle.osm_value.proofs.EscapeLemmas.{put_text-step, put_text-end}
use Rattle.osm_value.proofs.pieces.put_escaped.Goals as goal

pub loop-at-preserved : goal.loop-at-preserved
loop-at-preserved g c = record {
  in_order = omega arith;
  plain = λ k low high. absurd (omega arith);
  wrote = λ start before h.
      Wrote-text start _ _ _ _
      (put_text-step before _ _ _ _ _ c.loop-at.invariant.in_order c.loop-at-test.true c.loop-at.invariant.plain (sym c.if-not-is_escaped.ensures) c.hex_digit.ensures c.hex_digit-in-loop-at.ensures)
      (c.put-in-loop-at.ensures start _ (c.put.ensures start _ (c.loop-at.invariant.wrote start before h)));
}

pub returns : goal.returns
returns g c = λ start before h.
    Wrote-text start _ _ _ _
    (put_text-end before _ _ _ c.loop-at.invariant.in_order c.loop-at.auto.at-end c.loop-at-test.false c.loop-at.invariant.plain ∙ ap (λ t. before ++ escaped t) c.as_bytes-bytes.ensures.value)
    (c.put-2.ensures start _ (c.loop-at.invariant.wrote start before h))
