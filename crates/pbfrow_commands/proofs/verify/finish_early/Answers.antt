use Rattle.osm_value.proofs.SinkLemmas.{Wrote-text}
use Rattle.pbfrow_commands.proofs.VerifyLemmas.{frame-end, other-end}
use Rattle.pbfrow_commands.proofs.verify.finish_early.Goals as goal

pub returns-in-Frame : goal.returns-in-Frame
returns-in-Frame g c = λ blobs is start before h.
    Wrote-text start _ _ _ _ (frame-end before blobs c.args.stop c.in-Frame.field-0 c.args.counts.now c.in-Frame.is is) (c.put_counts.ensures start _ (c.put_stop.ensures start before h))

pub returns-in_default : goal.returns-in_default
returns-in_default g c = λ blobs is start before h. Wrote-text start _ _ _ _ (other-end before blobs c.args.stop c.in_default.not-Frame) (c.put_stop.ensures start before h)
