use Rattle.std.proofs.Common.{◌≡◌, drop, ◌%◌, ◌==◌, unsigned_abs}
use Rattle.std.specs.List.{flat_map, list_all}
use Rattle.osm_write.specs.Canon.{coordinates_of}
use Rattle.osm_write.proofs.collect.coordinates_are_whole.Given as goal

abbrev pub invariant-loop-element : goal.invariant-loop-element
invariant-loop-element l = list_all (λ z. unsigned_abs z % 100 == 0) (flat_map coordinates_of (drop l.element-index l.elements)) ≡ list_all (λ z. unsigned_abs z % 100 == 0) (flat_map coordinates_of l.elements)
