use Rattle.std.proofs.Common.{map}
use Rattle.osm_value.specs.Line.{tag_text}
use Rattle.osm_value.proofs.SinkLemmas.{Wrote-text}
use Rattle.osm_value.proofs.LineLemmas.{tail_parts, map_through}
use Rattle.osm_value.proofs.line.put_tail.Goals as goal

pub returns : goal.returns
returns g c = λ start before h.
    let tags = c.args.tags.now in
    let writes = rw (map_through tag_text (λ t. (t.0.now, t.1.now)) tags) at (c.put_joined.ensures (λ t. tag_text (t.0.now, t.1.now)) (λ s t x writes. writes)) in
    Wrote-text start _ _ _ _ (tail_parts before c.args.info.now (map (λ t. (t.0.now, t.1.now)) tags))
    (c.put-3.ensures start _ (writes start _ (c.put-2.ensures start _ (c.put_info.ensures start _ (c.put.ensures start before h)))))
