use Rattle.std.proofs.Common.{ltb-true}
use Rattle.osm_import.proofs.SeenTextsLemmas.{as-many, few-uses, of-relation}
use Rattle.osm_import.proofs.few_texts.has_few_uses.Goals as goal

pub returns-then-few_tags : goal.returns-then-few_tags
returns-then-few_tags c = λ few.
    few-uses c.args.element.now (as-many c.tags.result.now _ _ c.tags.ensures.exact c.if-few_tags.true)
    (λ r is. of-relation c.args.element.now c.in-Relation.relation r c.members.result.now c.in-Relation.is c.members.ensures.exact is (ltb-true _ _ few))

pub returns-in_default : goal.returns-in_default
returns-in_default c = λ few. few-uses c.args.element.now (as-many c.tags.result.now _ _ c.tags.ensures.exact (ltb-true _ _ few)) (λ r is. absurd (c.in_default.not-Relation r is))
