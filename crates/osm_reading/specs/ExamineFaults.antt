-- The numbers and names of what an examination finds.
use Rattle.std.specs.Prelude.{ℕ, List, codes}
use Rattle.osm_reading.specs.Faults.{number_of, name_of}
use Rattle.osm_reading.specs.declared.examination.ExamineFault.{ExamineFault}
use Rattle.osm_reading.specs.declared.examination.ExamineFault.TheVariants.{Bad, Memory}

-- the number of what an examination answers for a delivery that isn't good
abbrev pub examine_number_of : ExamineFault → ℕ
examine_number_of (Bad fault) = number_of fault
examine_number_of Memory = 65

-- its name
abbrev pub examine_name_of : ExamineFault → List ℕ
examine_name_of (Bad fault) = name_of fault
examine_name_of Memory = codes "Memory"
