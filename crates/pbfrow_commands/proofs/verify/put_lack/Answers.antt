use Rattle.osm_value.proofs.SinkLemmas.{Wrote-text}
use Rattle.pbfrow_commands.proofs.VerifyLemmas.{lack-parts, no-lack}
use Rattle.pbfrow_commands.proofs.verify.put_lack.Goals as goal

pub returns-then-counts-eq0 : goal.returns-then-counts-eq0
returns-then-counts-eq0 g c = λ blobs is start before h. Wrote-text start _ _ _ _ (lack-parts before blobs c.args.counts.now is c.if-counts-eq0.true) (c.put_stop.ensures start before h)

pub returns-else-counts-eq0 : goal.returns-else-counts-eq0
returns-else-counts-eq0 g c = λ blobs is start before h. Wrote-text start _ _ _ _ (no-lack before blobs c.args.counts.now is c.if-counts-eq0.false) h
