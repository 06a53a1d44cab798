-- The numbers and names of the faults of writing.
use Rattle.std.specs.Prelude.{ℕ, List, codes}
use Rattle.osm_write.specs.declared.fault.WriteFault.{WriteFault}
use Rattle.osm_write.specs.declared.fault.WriteFault.TheVariants.{BlockTooLarge, Memory}

-- the number of each fault of writing
abbrev pub number_of : WriteFault → ℕ
number_of BlockTooLarge = 53
number_of Memory = 65

-- its name
abbrev pub name_of : WriteFault → List ℕ
name_of BlockTooLarge = codes "BlockTooLarge"
name_of Memory = codes "Memory"
