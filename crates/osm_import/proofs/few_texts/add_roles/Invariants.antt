use Rattle.std.proofs.Common.{map, take}
use Rattle.osm_import.specs.SeenTexts.{AddsTexts}
use Rattle.osm_import.proofs.few_texts.add_roles.Given as goal

abbrev pub invariant-loop-member : goal.invariant-loop-member
invariant-loop-member l = AddsTexts l.fn.seen l.seen (map (λ m. m.role) (take l.member-index l.members))
