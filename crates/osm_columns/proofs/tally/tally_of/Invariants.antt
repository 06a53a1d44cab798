use Rattle.std.proofs.Common.{List, take}
use Rattle.osm_value.specs.declared.element.Element.{Element}
use Rattle.osm_block.specs.Block.{Joins}
use Rattle.osm_block.specs.Fields.{context_of}
use Rattle.osm_block.specs.Groups.{GroupHolds}
use Rattle.osm_columns.specs.Tally.{AreTallied}
use Rattle.osm_columns.proofs.tally.tally_of.Given as goal

abbrev pub invariant-loop-group : goal.invariant-loop-group
invariant-loop-group l = (es : List Element) → Joins (GroupHolds (context_of l.groups.scale)) es (take l.group-index l.groups.groups.items) → AreTallied l.tally es
