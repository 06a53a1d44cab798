use Rattle.std.proofs.Common.{length, ◌+◌}
use Rattle.osm_value.proofs.SinkLemmas.{Wrote-text}
use Rattle.pbfrow_reading.proofs.CheckLemmas.{all_in, bad_in, frame-end, one-more, other-end}
use Rattle.pbfrow_reading.proofs.check.finish_early.Goals as goal

pub returns-in-Frame : goal.returns-in-Frame
returns-in-Frame g c = λ blobs is start before h.
    let counts = c.add_fault.new.self in
    Wrote-text start _ _ _ _
    (frame-end before blobs c.args.stop c.in-Frame.field-0 counts c.in-Frame.is (one-more blobs counts (c.add_fault.ensures (length blobs) (bad_in blobs + 0) (all_in blobs) is)))
    (c.put_totals.ensures start _ (c.put_stop.ensures start before h))

pub returns-in_default : goal.returns-in_default
returns-in_default g c = λ blobs is start before h. Wrote-text start _ _ _ _ (other-end before blobs c.args.stop c.in_default.not-Frame) (c.put_stop.ensures start before h)
