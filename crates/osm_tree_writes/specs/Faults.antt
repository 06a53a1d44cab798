-- What a failure of the trees means for the store.
use Rattle.sqlite_trees.specs.declared.error.StoreError.{StoreError}
use Rattle.sqlite_trees.specs.declared.error.StoreError.TheVariants.{OutOfMemory, Full as NoRoom, Unstorable, Io, Corrupt, Broken}
use Rattle.osm_rows.specs.declared.fault.StoreFault.{StoreFault}
use Rattle.osm_rows.specs.declared.fault.StoreFault.TheVariants.{Memory, Full, Disk}

-- the fault of a store that a failure of the trees is: memory was refused, there was no room, or the disk failed
abbrev pub fault_of : StoreError → StoreFault
fault_of OutOfMemory = Memory
fault_of NoRoom = Full
fault_of Unstorable = Full
fault_of Io = Disk
fault_of Corrupt = Disk
fault_of Broken = Disk
