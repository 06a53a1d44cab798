-- The numbers and names of the faults of a block.
use Rattle.std.specs.Prelude.{ℕ, List, codes}
use Rattle.osm_block.specs.declared.fault.BlockFault.{BlockFault}
use Rattle.osm_block.specs.declared.fault.BlockFault.TheVariants.{BlockWire, NoStringTable, TextNotUtf8, TextHasNul, BadGranularity, MixedGroup, Missing, LengthsDiffer, BadIndex, SumTooLarge, OutOfRange, TagsUneven, BadMemberType}
use Rattle.osm_block.specs.declared.fault.BlockError.{BlockError}
use Rattle.osm_block.specs.declared.fault.BlockError.TheVariants.{Memory, Fault}

-- the number of each fault of a block
abbrev pub number_of : BlockFault → ℕ
number_of (BlockWire fault) = 40
number_of NoStringTable = 41
number_of TextNotUtf8 = 42
number_of TextHasNul = 43
number_of BadGranularity = 44
number_of MixedGroup = 45
number_of Missing = 46
number_of LengthsDiffer = 47
number_of BadIndex = 48
number_of SumTooLarge = 49
number_of OutOfRange = 50
number_of TagsUneven = 51
number_of BadMemberType = 52

-- its name
abbrev pub name_of : BlockFault → List ℕ
name_of (BlockWire fault) = codes "BlockWire"
name_of NoStringTable = codes "NoStringTable"
name_of TextNotUtf8 = codes "TextNotUtf8"
name_of TextHasNul = codes "TextHasNul"
name_of BadGranularity = codes "BadGranularity"
name_of MixedGroup = codes "MixedGroup"
name_of Missing = codes "Missing"
name_of LengthsDiffer = codes "LengthsDiffer"
name_of BadIndex = codes "BadIndex"
name_of SumTooLarge = codes "SumTooLarge"
name_of OutOfRange = codes "OutOfRange"
name_of TagsUneven = codes "TagsUneven"
name_of BadMemberType = codes "BadMemberType"

-- the same of what a call answers, which may also be refused memory
abbrev pub error_number_of : BlockError → ℕ
error_number_of Memory = 65
error_number_of (Fault fault) = number_of fault

-- its name
abbrev pub error_name_of : BlockError → List ℕ
error_name_of Memory = codes "Memory"
error_name_of (Fault fault) = name_of fault
