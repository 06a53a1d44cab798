use Rattle.std.proofs.Common.{◌++◌, ap, ◌∙◌, take, map}
use Rattle.osm_value.specs.Line.{commas, comma_before}
use Rattle.osm_value.proofs.SinkLemmas.{Wrote-text}
use Rattle.osm_value.proofs.LineLemmas.{commas-step, commas-all}
use Rattle.osm_value.proofs.line.put_joined.Goals as goal

pub loop-at-preserved : goal.loop-at-preserved
loop-at-preserved g c = λ text each start before h.
    let items = c.args.items.now in
    let at = c.loop-at.at in
    let item = c.index-items-at.result in
    Wrote-text start _ _ _ _
    (ap (λ x. ((before ++ commas (map text (take at items))) ++ comma_before at) ++ text x) c.index-items-at.is ∙ commas-step text before items at item c.loop-at-test.true)
    (each _ _ _ c.put_item.ensures start _ (c.put_comma.ensures start _ (c.loop-at.invariant text each start before h)))

pub returns : goal.returns
returns g c = λ text each start before h. Wrote-text start _ _ _ _ (commas-all text before _ _ c.loop-at-test.false) (c.loop-at.invariant text each start before h)
