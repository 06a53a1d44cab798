use Rattle.std.proofs.Common.{rules, ◌∙◌, FitsSigned, w64}
use Rattle.std.proofs.lemmas.Int.{to_z-of_z}
use Rattle.osm_value.specs.Line.{member_text}
use Rattle.osm_value.proofs.SinkLemmas.{Wrote-text}
use Rattle.osm_value.proofs.LineLemmas.{relation_parts}
use Rattle.osm_value.proofs.line.put_relation.Goals as goal

pub returns : goal.returns
returns g c = λ start before h.
    let fits : FitsSigned w64 c.id.result = search rules in
    Wrote-text start _ _ _ _
    (relation_parts before c.args.relation.now _ _ _ _ (to_z-of_z w64 _ fits ∙ c.id.ensures.exact) c.members.ensures.exact c.info.ensures.exact c.tags.ensures.exact)
    (c.put_tail.ensures start _ (c.put-3.ensures start _ (c.put_joined.ensures member_text (λ s t x writes. writes) start _
    (c.put-2.ensures start _ (c.put_number.ensures start _ (c.put.ensures start before h))))))
