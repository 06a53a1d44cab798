-- The numbers, the names and the causes of what keeps several stores from being read as one map.
use Rattle.std.specs.Prelude.{ℕ, List, codes}
use Rattle.osm_rows.specs.Faults as stores
use Rattle.osm_rows.specs.Held.{HeldMap}
use Rattle.osm_rows.specs.Keeping.{IsForeign}
use Rattle.osm_import.specs.Faults.{conflict_number_of, conflict_name_of}
use Rattle.osm_import.specs.Step.{HasCause}
use Rattle.osm_import.specs.declared.answer.Conflict.TheVariants.{Differs, Overlap}
use Rattle.osm_parts.specs.Conflicts.{AreDiffering, AreOverlapping}
use Rattle.osm_parts.specs.Interleaved.{AreInterleaved}
use Rattle.osm_parts.specs.declared.fault.PartsFault.{PartsFault}
use Rattle.osm_parts.specs.declared.fault.PartsFault.TheVariants.{Interleaved, Refused, Store}

-- the number of such a fault
abbrev pub parts_number_of : PartsFault → ℕ
parts_number_of (Interleaved off) = 71
parts_number_of (Refused conflict off) = conflict_number_of conflict
parts_number_of (Store fault) = stores.number_of fault

-- its name
abbrev pub parts_name_of : PartsFault → List ℕ
parts_name_of (Interleaved off) = codes "Interleaved"
parts_name_of (Refused conflict off) = conflict_name_of conflict
parts_name_of (Store fault) = stores.name_of fault

-- Where these are the maps of the stores: two of them are interleaved at the offset, or hold blobs there that are in each
-- other's way, and no store's fault says that the tables are another store's.
abbrev pub IsOfMaps : List HeldMap → PartsFault → Type 0
IsOfMaps maps (Interleaved off) = AreInterleaved maps off
IsOfMaps maps (Refused Differs off) = AreDiffering maps off
IsOfMaps maps (Refused Overlap off) = AreOverlapping maps off
IsOfMaps maps (Store fault) = ¬ (IsForeign fault)

-- a store's fault has a cause
abbrev pub PartsFaultHasCause : ℕ → ℕ → PartsFault → Type 0
PartsFaultHasCause before now (Interleaved off) = Unit {0}
PartsFaultHasCause before now (Refused conflict off) = Unit {0}
PartsFaultHasCause before now (Store fault) = HasCause before now fault
