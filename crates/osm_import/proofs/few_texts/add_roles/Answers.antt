use Rattle.osm_import.proofs.SeenTextsLemmas.{roles-more}
use Rattle.osm_import.proofs.few_texts.add_roles.Goals as goal

pub loop-member-preserved : goal.loop-member-preserved
loop-member-preserved c =
    roles-more c.args.seen.now c.loop-member.seen c.insert.new.self c.args.members.now c.loop-member.member-index c.member-item.result c.role.result.now c.loop-member-test.true c.member-item.is c.role.ensures.exact
    c.loop-member.invariant c.in_ok-insert.ensures.updates.0
