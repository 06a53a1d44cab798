-- Flags of visibility: an element of a history file says whether it is there or was deleted.
use Rattle.std.specs.Prelude.{Bool, is_some}
use Rattle.std.specs.List.{list_any}
use Rattle.osm_value.specs.declared.element.Element.{Element}
use Rattle.osm_value.specs.Elements.{info_of_element}
use Rattle.osm_rows.specs.Held.{HeldMap}
use Rattle.osm_rows.specs.Rows.{Placed, placed_in}

-- the element has a flag, whichever
abbrev pub has_flag : Element → Bool
has_flag e = is_some (info_of_element e).visible

-- some element of the map has a flag of visibility
abbrev pub has_flags : HeldMap → Bool
has_flags held = list_any (λ (p : Placed). has_flag p.2) (placed_in held)
