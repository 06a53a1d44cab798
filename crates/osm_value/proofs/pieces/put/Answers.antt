use Rattle.std.proofs.Common.{sym}
use Rattle.osm_value.proofs.SinkLemmas.{put-failed, put-end, put-more, put-stops, Appends-from_keeps, stop-took_nothing, stop-error, rest_is, Appends-nothing}
use Rattle.osm_value.proofs.pieces.put.Goals as goal

pub returns-then-failed : goal.returns-then-failed
returns-then-failed g c = λ start text h. put-failed start text _ c.loop-at.at _ _ (sym c.if-failed.ensures) (c.loop-at.invariant start text h)

pub loop-at-preserved : goal.loop-at-preserved
loop-at-preserved g c = λ start text h. put-more start text _ _ _ _ _ _ _ _ (sym c.if-failed.ensures) (c.loop-at.invariant start text h) (rest_is _ c.loop-at.at) c.in-Ok.ensures.taken

pub returns-then-taken-eq0 : goal.returns-then-taken-eq0
returns-then-taken-eq0 g c = λ start text h.
    put-stops start text _ c.loop-at.at _ _ _ _ (sym c.if-failed.ensures)
    (stop-took_nothing _ _ _ _ _ _ (sym c.if-failed.ensures) c.loop-at-test.true c.if-taken-eq0.true (rest_is _ c.loop-at.at) c.in-Ok.ensures.failed)
    (c.loop-at.invariant start text h) (Appends-nothing _ _ _ _ c.if-taken-eq0.true c.in-Ok.ensures.taken)

pub returns-in-Err : goal.returns-in-Err
returns-in-Err g c = λ start text h.
    put-stops start text _ c.loop-at.at _ _ _ _ (sym c.if-failed.ensures) (stop-error _ _ (sym c.if-failed.ensures) c.in-Err.ensures.failed)
    (c.loop-at.invariant start text h) (Appends-from_keeps _ _ c.in-Err.ensures.taken)

pub returns : goal.returns
returns g c = λ start text h. put-end start text _ c.loop-at.at _ _ c.loop-at-test.false (c.loop-at.invariant start text h)
