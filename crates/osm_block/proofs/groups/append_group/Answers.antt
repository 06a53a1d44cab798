use Rattle.osm_block.proofs.GroupsLemmas.{held_more, nothing_more}
use Rattle.osm_block.proofs.groups.append_group.Goals as goal

pub returns-then-not-has_elements : goal.returns-then-not-has_elements
returns-then-not-has_elements c = λ b es xs held here. nothing_more b es xs c.args.out.now.items (c.has_elements.ensures c.if-not-has_elements.true b xs here) held

pub returns : goal.returns
returns c = λ b es xs held here. held_more b es xs c.args.out.now.items _ c.args.group c.in_ok-push.ensures.items held here
