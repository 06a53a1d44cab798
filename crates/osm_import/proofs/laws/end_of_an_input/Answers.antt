use Rattle.osm_import.proofs.EndOfInput.{needs-a-byte, no-frame-left, no-fault-left}
use Rattle.osm_import.proofs.laws.end_of_an_input.Goals as goal

pub returns : goal.returns
returns c = record { fault = needs-a-byte; no_frame = no-frame-left; no_fault = no-fault-left }
