use Rattle.std.proofs.Common.{◌≡◌, ◌++◌, map, drop}
use Rattle.std.specs.List.{flat_map}
use Rattle.std.specs.Option.{option_or}
use Rattle.pbf_wire.specs.Readings.{fields, packed, each, nums}
use Rattle.osm_block.specs.FieldsLeft.{first_there}
use Rattle.osm_block.proofs.dense.fields.read_array.Given as goal

abbrev pub invariant-loop-payload : goal.invariant-loop-payload
invariant-loop-payload l = record {
  numbers : l.array.numbers.items ++ nums (flat_map fields (map (λ p. p.now) (drop l.payload-index l.payloads))) l.number ≡ nums (flat_map fields (map (λ p. p.now) l.payloads)) l.number;
  fault : option_or l.array.fault (first_there (map packed (each (flat_map fields (map (λ p. p.now) (drop l.payload-index l.payloads))) l.number))) ≡ first_there (map packed (each (flat_map fields (map (λ p. p.now) l.payloads)) l.number));
}
