use Rattle.std.proofs.Common.{◌≡◌, take}
use Rattle.osm_parts.specs.Reading.{joined_extents}
use Rattle.osm_parts.proofs.reading.extents_of_parts.Given as goal

abbrev pub invariant-loop-part : goal.invariant-loop-part
invariant-loop-part l = l.extents.items ≡ joined_extents (take l.part-index l.parts)
