use Rattle.std.proofs.Common.{List, [], ◌∷◌, Option, Some, subst}
use Rattle.osm_value.specs.Value.{Text, MemberValue}
use Rattle.osm_columns.specs.Indexes.{NamesMore}
use Rattle.osm_columns.proofs.ListLemmas.{mapped-next}
use Rattle.osm_columns.proofs.IndexLemmas.{more-twice}
use Rattle.osm_columns.proofs.indexes.push_roles.Goals as goal

pub loop-member-preserved : goal.loop-member-preserved
loop-member-preserved c =
    let f : MemberValue → Option Text = λ m. Some m.role in
    let P : List (Option Text) → Type 0 = λ named. NamesMore named c.args.dictionary.now c.push_text.new.dictionary c.args.indexes.now.items c.push_text.new.indexes.items in
    let Q : Text → Type 0 = λ t. NamesMore (Some t ∷ []) c.loop-member.dictionary c.push_text.new.dictionary c.loop-member.indexes.items c.push_text.new.indexes.items in
    let next : Q c.member-item.result.role = subst Q c.role.ensures.exact c.in_ok-push_text.ensures in
    subst P (mapped-next f c.args.members.now c.loop-member.member-index c.member-item.result _ c.loop-member-test.true c.member-item.is) (more-twice _ _ _ _ _ _ _ _ c.loop-member.invariant next)
