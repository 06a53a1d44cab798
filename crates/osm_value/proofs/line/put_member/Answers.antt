use Rattle.std.proofs.Common.{rules, ap, ◌∙◌, FitsSigned, w64}
use Rattle.std.proofs.lemmas.Int.{to_z-of_z}
use Rattle.osm_value.specs.Line.{letter_of}
use Rattle.osm_value.proofs.SinkLemmas.{Wrote-text}
use Rattle.osm_value.proofs.LineLemmas.{member_parts}
use Rattle.osm_value.proofs.line.put_member.Goals as goal

pub returns : goal.returns
returns g c = λ start before h.
    let fits : FitsSigned w64 c.id.result = search rules in
    Wrote-text start _ _ _ _ (member_parts before _ _ _ c.args.member.now (c.letter_of.ensures ∙ ap letter_of c.kind.ensures.exact) (to_z-of_z w64 _ fits ∙ c.id.ensures.exact) c.role.ensures.exact)
    (c.put_escaped.ensures start _ (c.put-2.ensures start _ (c.put_number.ensures start _ (c.put.ensures start before h))))
