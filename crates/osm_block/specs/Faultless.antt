-- What a block says for which no phase stands.
use Rattle.std.specs.Prelude.{◌≡◌, ℕ, List, None}
use Rattle.osm_value.specs.declared.element.Element.{Element}
use Rattle.osm_block.specs.Block.{Block}
use Rattle.osm_block.specs.Phases.{fault}

-- every block without a fault decodes to some elements
abbrev pub FaultlessBlocksSay : Type 0
FaultlessBlocksSay = (w : List ℕ) → fault w ≡ None → (es : List Element) × Block es w
