-- The numbers and names of what stops an import.
use Rattle.std.specs.Prelude.{ℕ, List, codes}
use Rattle.osm_rows.specs.Faults as stores
use Rattle.osm_reading.specs.StopFaults.{stop_number_of, stop_name_of}
use Rattle.osm_import.specs.declared.stream.fault.ImportFault.{ImportFault}
use Rattle.osm_import.specs.declared.stream.fault.ImportFault.TheVariants.{Stream, WriteFailed, Store, BlobLimit}

-- the number of what stops an import
abbrev pub import_number_of : ImportFault → ℕ
import_number_of (Stream stop) = stop_number_of stop
import_number_of WriteFailed = 24
import_number_of (Store fault) = stores.number_of fault
import_number_of BlobLimit = 69

-- its name
abbrev pub import_name_of : ImportFault → List ℕ
import_name_of (Stream stop) = stop_name_of stop
import_name_of WriteFailed = codes "WriteFailed"
import_name_of (Store fault) = stores.name_of fault
import_name_of BlobLimit = codes "BlobLimit"
