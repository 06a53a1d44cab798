use Rattle.std.proofs.Common.{append_assoc}
use Rattle.osm_value.proofs.SinkLemmas.{Wrote-text}
use Rattle.osm_value.proofs.line.put_tag.Goals as goal

pub returns : goal.returns
returns g c = λ start before h. Wrote-text start _ _ _ _ (simp append_assoc) (c.put_escaped-2.ensures start _ (c.put.ensures start _ (c.put_escaped.ensures start before h)))
