-- The lines of faults that commands write.
use Rattle.std.specs.Prelude.{ℕ, List, Option, Some, None}
use Rattle.osm_reading.specs.Lines.{plain_fault_line, fault_line}
use Rattle.osm_reading.specs.StopFaults.{stop_number_of, stop_name_of}
use Rattle.osm_reading.specs.declared.stream.fault.Stop.{Stop}
use Rattle.osm_reading.specs.declared.stream.fault.Stop.TheVariants.{Memory}

-- what ended an input early, at an offset
abbrev pub stop_line : Stop → ℕ → List ℕ
stop_line fault at = fault_line (stop_number_of fault) (stop_name_of fault) at

-- refused memory: of a command as a whole, or at an offset
abbrev pub memory_line : Option ℕ → List ℕ
memory_line None = plain_fault_line (stop_number_of Memory) (stop_name_of Memory)
memory_line (Some at) = stop_line Memory at
