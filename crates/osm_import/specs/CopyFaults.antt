-- The numbers and names of what stops a copy.
use Rattle.std.specs.Prelude.{ℕ, List, codes}
use Rattle.osm_rows.specs.Faults as stores
use Rattle.osm_import.specs.Faults.{conflict_number_of, conflict_name_of}
use Rattle.osm_import.specs.declared.copy.CopyFault.{CopyFault}
use Rattle.osm_import.specs.declared.copy.CopyFault.TheVariants.{Refused, Spoiled, Store}

-- the number of what stops a copy
abbrev pub copy_number_of : CopyFault → ℕ
copy_number_of (Refused conflict) = conflict_number_of conflict
copy_number_of Spoiled = 66
copy_number_of (Store fault) = stores.number_of fault

-- its name
abbrev pub copy_name_of : CopyFault → List ℕ
copy_name_of (Refused conflict) = conflict_name_of conflict
copy_name_of Spoiled = codes "NotThisStore"
copy_name_of (Store fault) = stores.name_of fault
