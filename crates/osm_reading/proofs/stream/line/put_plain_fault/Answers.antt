use Rattle.osm_reading.proofs.stream.line.put_plain_fault.Goals as goal

pub returns : goal.returns
returns g c = c.put_fault_and.ensures
