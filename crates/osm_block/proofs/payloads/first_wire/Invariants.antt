use Rattle.std.proofs.Common.{◌≡◌, map, drop}
use Rattle.pbf_wire.specs.Readings.{wire}
use Rattle.osm_block.specs.FieldsLeft.{first_there}
use Rattle.osm_block.proofs.payloads.first_wire.Given as goal

abbrev pub invariant-loop-payload : goal.invariant-loop-payload
invariant-loop-payload l = first_there (map wire (map (λ p. p.now) (drop l.payload-index l.payloads))) ≡ first_there (map wire (map (λ p. p.now) l.payloads))
