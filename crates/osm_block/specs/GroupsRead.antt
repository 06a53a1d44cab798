-- What a call that leaves dense nodes in their arrays has read.
use Rattle.std.specs.Prelude.{List, ℕ}
use Rattle.osm_value.specs.declared.element.Element.{Element}
use Rattle.osm_block.specs.declared.groups.GroupElements.{GroupElements}
use Rattle.osm_block.specs.Message.{Context}
use Rattle.osm_block.specs.Block.{Joins, GroupOf}
use Rattle.osm_block.specs.Groups.{GroupHolds}

-- it holds the elements that stand to the group
abbrev pub GroupRead : Context → GroupElements → List ℕ → Type 0
GroupRead b g w = (es : List Element) × GroupOf b es w × GroupHolds b es g

-- they hold the elements that stand to the groups
abbrev pub GroupsRead : Context → List GroupElements → List (List ℕ) → Type 0
GroupsRead b gs ws = (es : List Element) × Joins (GroupOf b) es ws × Joins (GroupHolds b) es gs
