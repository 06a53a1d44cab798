use Rattle.std.proofs.Common.{◌≡◌, ◌++◌, map, drop}
use Rattle.std.specs.List.{flat_map}
use Rattle.pbf_wire.specs.Readings.{fields}
use Rattle.pbf_wire.specs.Readings.{each}
use Rattle.osm_block.proofs.payloads.each_of_all.Given as goal

abbrev pub invariant-loop-payload : goal.invariant-loop-payload
invariant-loop-payload l = map (λ p. p.now) l.out.items ++ each (flat_map fields (map (λ p. p.now) (drop l.payload-index l.payloads))) l.number ≡ map (λ p. p.now) l.fn.out.items ++ each (flat_map fields (map (λ p. p.now) l.payloads)) l.number
