use Rattle.std.proofs.Common.{◌∙◌, ap, sym, map}
use Rattle.std.specs.Prelude.{option_map}
use Rattle.pbf_wire.specs.Readings.{wire}
use Rattle.osm_block.specs.declared.fault.BlockFault.TheVariants as faults
use Rattle.osm_block.proofs.FieldLemmas.{first_of_wire}
use Rattle.osm_block.proofs.payloads.check_all.Goals as goal

pub returns-in-None : goal.returns-in-None
returns-in-None c = (first_of_wire (map wire (map (λ p. p.now) c.args.payloads.now)) ∙ ap (option_map faults.BlockWire) (sym c.first_wire.ensures ∙ c.in-None.is), tt)

pub returns-in-Some : goal.returns-in-Some
returns-in-Some c = rw c.from.ensures (first_of_wire (map wire (map (λ p. p.now) c.args.payloads.now)) ∙ ap (option_map faults.BlockWire) (sym c.first_wire.ensures ∙ c.in-Some.is))
