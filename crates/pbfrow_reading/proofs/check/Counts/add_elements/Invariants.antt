use Rattle.std.proofs.Common.{◌≡◌, ℕ, List, ◌++◌, take}
use Rattle.osm_value.specs.declared.element.Element.{Element}
use Rattle.pbfrow_reading.specs.Checking.{tally}
use Rattle.pbfrow_reading.proofs.check.Counts.add_elements.Given as goal

abbrev pub invariant-loop-element : goal.invariant-loop-element
invariant-loop-element l = (blobs faults : ℕ) (es : List Element) → l.fn.self ≡ tally blobs es faults → l.self ≡ tally blobs (es ++ take l.element-index l.elements) faults
