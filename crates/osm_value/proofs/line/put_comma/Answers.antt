use Rattle.osm_value.proofs.SinkLemmas.{Wrote-text}
use Rattle.osm_value.proofs.LineLemmas.{no_comma, one_comma}
use Rattle.osm_value.proofs.line.put_comma.Goals as goal

pub returns-then-at-eq0 : goal.returns-then-at-eq0
returns-then-at-eq0 g c = λ start before h. Wrote-text start _ _ _ _ (no_comma before c.args.at c.if-at-eq0.true) h

pub returns : goal.returns
returns g c = λ start before h. Wrote-text start _ _ _ _ (one_comma before c.args.at c.if-at-eq0.false) (c.put.ensures start before h)
