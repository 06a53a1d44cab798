-- The numbers and names of what ends the frames of a source early.
use Rattle.std.specs.Prelude.{ℕ, List, codes}
use Rattle.pbf_frame.specs.Fault as frames
use Rattle.osm_reading.specs.declared.stream.fault.Stop.{Stop}
use Rattle.osm_reading.specs.declared.stream.fault.Stop.TheVariants.{Frame, NoHeaderFirst, ReadFailed, Memory}

-- the number of what ends the frames early
abbrev pub stop_number_of : Stop → ℕ
stop_number_of (Frame fault) = frames.number_of fault
stop_number_of NoHeaderFirst = 61
stop_number_of ReadFailed = 68
stop_number_of Memory = 65

-- its name
abbrev pub stop_name_of : Stop → List ℕ
stop_name_of (Frame fault) = frames.name_of fault
stop_name_of NoHeaderFirst = codes "NoHeaderFirst"
stop_name_of ReadFailed = codes "ReadFailed"
stop_name_of Memory = codes "Memory"
