use Rattle.std.proofs.Common.{rules, ◌∙◌, FitsSigned, w64}
use Rattle.std.proofs.lemmas.Int.{to_z-of_z}
use Rattle.std.specs.Fmt.{signed_decimal}
use Rattle.osm_value.proofs.SinkLemmas.{Wrote-text}
use Rattle.osm_value.proofs.LineLemmas.{way_parts}
use Rattle.osm_value.proofs.line.put_way.Goals as goal

pub returns : goal.returns
returns g c = λ start before h.
    let fits : FitsSigned w64 c.id.result = search rules in
    Wrote-text start _ _ _ _
    (way_parts before c.args.way.now _ _ _ _ (to_z-of_z w64 _ fits ∙ c.id.ensures.exact) c.refs.ensures.exact c.info.ensures.exact c.tags.ensures.exact)
    (c.put_tail.ensures start _ (c.put-3.ensures start _ (c.put_joined.ensures signed_decimal (λ s t x writes. writes) start _
    (c.put-2.ensures start _ (c.put_number.ensures start _ (c.put.ensures start before h))))))
