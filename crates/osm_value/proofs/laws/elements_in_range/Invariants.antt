use Rattle.std.proofs.Common.{take}
use Rattle.std.specs.List.{AllByRecursion}
use Rattle.osm_value.specs.Elements.{IsElement}
use Rattle.osm_value.proofs.laws.elements_in_range.Given as goal

abbrev pub invariant-loop-element : goal.invariant-loop-element
invariant-loop-element l = AllByRecursion IsElement (take l.element-index l.elements)
