-- The numbers and names of the faults of a delivery.
use Rattle.std.specs.Prelude.{ℕ, List, codes}
use Rattle.pbf_frame.specs.Fault as frames
use Rattle.osm_block.specs.HeaderBlock as headers
use Rattle.osm_block.specs.Fault as blocks
use Rattle.osm_reading.specs.declared.fault.Fault.{Fault}
use Rattle.osm_reading.specs.declared.fault.Fault.TheVariants.{Frame, NoHeaderFirst, HeaderNotFirst, Blob, Header, Block}

-- the number of a delivery's fault
abbrev pub number_of : Fault → ℕ
number_of (Frame fault) = frames.number_of fault
number_of NoHeaderFirst = 61
number_of HeaderNotFirst = 62
number_of (Blob fault) = frames.blob_number_of fault
number_of (Header fault) = headers.number_of fault
number_of (Block fault) = blocks.number_of fault

-- its name
abbrev pub name_of : Fault → List ℕ
name_of (Frame fault) = frames.name_of fault
name_of NoHeaderFirst = codes "NoHeaderFirst"
name_of HeaderNotFirst = codes "HeaderNotFirst"
name_of (Blob fault) = frames.blob_name_of fault
name_of (Header fault) = headers.name_of fault
name_of (Block fault) = blocks.name_of fault
