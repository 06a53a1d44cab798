-- The numbers and names of what ends an export early.
use Rattle.std.specs.Prelude.{ℕ, List, codes}
use Rattle.osm_rows.specs.Faults as stores
use Rattle.osm_import.specs.declared.export.fault.ExportFault.{ExportFault}
use Rattle.osm_import.specs.declared.export.fault.ExportFault.TheVariants.{Incomplete, PastEnd, WriteFailed, BlockTooLarge, Miscounted, Store}

-- the number of what ends an export early
abbrev pub export_number_of : ExportFault → ℕ
export_number_of (Incomplete from to) = 67
export_number_of (PastEnd fin) = 70
export_number_of WriteFailed = 24
export_number_of BlockTooLarge = 53
export_number_of (Miscounted off) = 66
export_number_of (Store fault) = stores.number_of fault

-- its name
abbrev pub export_name_of : ExportFault → List ℕ
export_name_of (Incomplete from to) = codes "Incomplete"
export_name_of (PastEnd fin) = codes "PastEnd"
export_name_of WriteFailed = codes "WriteFailed"
export_name_of BlockTooLarge = codes "BlockTooLarge"
export_name_of (Miscounted off) = codes "NotThisStore"
export_name_of (Store fault) = stores.name_of fault
