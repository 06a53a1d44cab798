-- The numbers and names of a store's faults, and which fault an error of `sqlite` is.
use Rattle.std.specs.Prelude.{ℕ, List, codes, Some, None}
use Rattle.sqlite.specs.declared.error.Error.{Error}
use Rattle.sqlite.specs.declared.error.Error.TheVariants.{SqliteFailure}
use Rattle.sqlite.specs.declared.error.ErrorCode.{ErrorCode}
use Rattle.sqlite.specs.declared.error.ErrorCode.TheVariants as code
use Rattle.osm_rows.specs.declared.fault.StoreFault.{StoreFault}
use Rattle.osm_rows.specs.declared.fault.StoreFault.TheVariants.{Memory, Full, Interrupted, Disk, NotThisStore}

abbrev pub fault_of_code : ErrorCode → StoreFault
fault_of_code code.OutOfMemory = Memory
fault_of_code code.DiskFull = Full
fault_of_code code.TooBig = Full
fault_of_code code.SchemaTooBig = Full
fault_of_code code.NoRowid = Full
fault_of_code code.OperationInterrupted = Interrupted
fault_of_code _ = Disk

-- over the tables of a store
abbrev pub fault_of : Error → StoreFault
fault_of (SqliteFailure c) = fault_of_code c
fault_of _ = Disk

abbrev pub fault_of_unknown_code : ErrorCode → StoreFault
fault_of_unknown_code code.OutOfMemory = Memory
fault_of_unknown_code code.DiskFull = Full
fault_of_unknown_code code.TooBig = Full
fault_of_unknown_code code.SchemaTooBig = Full
fault_of_unknown_code code.NoRowid = Full
fault_of_unknown_code code.OperationInterrupted = Interrupted
fault_of_unknown_code code.SystemIoFailure = Disk
fault_of_unknown_code code.DatabaseCorrupt = Disk
fault_of_unknown_code code.DatabaseBusy = Disk
fault_of_unknown_code code.CannotOpen = Disk
fault_of_unknown_code code.Closed = Disk
fault_of_unknown_code _ = NotThisStore None

-- over tables that may be another program's: what is neither memory nor room, no interruption and no failure of the disk
abbrev pub fault_over_unknown : Error → StoreFault
fault_over_unknown (SqliteFailure c) = fault_of_unknown_code c
fault_over_unknown _ = NotThisStore None

-- the number of each fault of a store
abbrev pub number_of : StoreFault → ℕ
number_of (NotThisStore found) = 66
number_of _ = 65

-- its name
abbrev pub name_of : StoreFault → List ℕ
name_of Memory = codes "Memory"
name_of Full = codes "Full"
name_of Interrupted = codes "Interrupted"
name_of Disk = codes "Disk"
name_of (NotThisStore found) = codes "NotThisStore"

-- a fault names no other version
abbrev pub NamesNoVersion : StoreFault → Type 0
NamesNoVersion (NotThisStore (Some version)) = ⊥
NamesNoVersion _ = Unit {0}
