-- What a call that appends elements has read.
use Rattle.std.specs.Prelude.{◌≡◌, List, ◌++◌, ℕ}
use Rattle.osm_value.specs.declared.element.Element.{Element}
use Rattle.osm_block.specs.Message.{Context, Message}
use Rattle.osm_block.specs.Block.{Joins, AllAreWire, MessageOf, GroupOf}

-- the message is wire and stands to the elements
abbrev pub Says : Context → List Element → Message → Type 0
Says b es m = AllAreWire m × MessageOf b es m

-- what was appended stands to the messages
abbrev pub Appended : Context → List Element → List Element → List Message → Type 0
Appended b old new ms = (es : List Element) × (new ≡ old ++ es) × Joins (Says b) es ms

-- what was appended stands to the groups
abbrev pub AppendedGroups : Context → List Element → List Element → List (List ℕ) → Type 0
AppendedGroups b old new gs = (es : List Element) × (new ≡ old ++ es) × Joins (GroupOf b) es gs

-- what was appended stands in R to one thing
abbrev pub AppendedOne : {B : Type 0} → (List Element → B → Type 0) → List Element → List Element → B → Type 0
AppendedOne R old new x = (es : List Element) × (new ≡ old ++ es) × R es x
