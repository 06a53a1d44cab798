-- What the commands on several stores, which are read as one, write.
use Rattle.std.specs.Prelude.{◌≡◌, ◌⊎◌, ℕ, Bool, List, Option, codes}
use Rattle.osm_value.specs.Sink.{Wrote}
use Rattle.osm_value.specs.declared.form.Form.{Form}
use Rattle.osm_value.specs.declared.form.Form.TheVariants.{Lines, Pbf}
use Rattle.osm_rows.specs.Held.{HeldMap}
use Rattle.osm_import.specs.Exports.{IsExport}
use Rattle.osm_import.specs.Faults.{conflict_number_of, conflict_name_of}
use Rattle.osm_reading.specs.Lines.{fault_line}
use Rattle.osm_import.specs.Pbf.{IsHeadedExport}
use Rattle.osm_parts.specs.PartsFaults.{IsOfMaps, PartsFaultHasCause}
use Rattle.osm_parts.specs.Unions.{IsUnionOf, IsHistoryOf}
use Rattle.osm_parts.specs.declared.fault.PartsFault.{PartsFault}
use Rattle.osm_parts.specs.declared.fault.PartsFault.TheVariants.{Interleaved, Refused, Store}
use Rattle.pbfrow_commands.specs.CommandLines.{store_fault_line}
use Rattle.pbfrow_commands.specs.Exporting.{TellsExported}
use Rattle.pbfrow_commands.specs.Telling.{Telling}

-- the line of what keeps stores from being read as one
abbrev pub parts_fault_line : PartsFault → List ℕ
parts_fault_line (Interleaved off) = fault_line 71 (codes "Interleaved") off
parts_fault_line (Refused conflict off) = fault_line (conflict_number_of conflict) (conflict_name_of conflict) off
parts_fault_line (Store fault) = store_fault_line fault

-- The line of a fault that the maps bear out went out, and the exit status is 1: two of them are interleaved at the offset,
-- or hold blobs there that are in each other's way; or a store has failed, which has a cause.
pub record TellsPartsFault (maps : List HeldMap) (t : Telling) : Type 0 where
  pub fault : PartsFault
  pub of_maps : IsOfMaps maps fault
  pub cause : PartsFaultHasCause t.failures_before t.failures_now fault
  pub line : Wrote t.before (parts_fault_line fault) t.after t.has_failed
  pub one : t.status ≡ 1

-- of a union of the maps this is told: where they are parts of a map, of that one
abbrev pub TellsOfUnion : (HeldMap → Type 0) → List HeldMap → Type 0
TellsOfUnion TellsWhole maps = (whole : HeldMap) × IsUnionOf maps whole × TellsWhole whole

-- the line of a fault, or what would be told of one store that holds the union
abbrev pub TellsParts : (HeldMap → Telling → Type 0) → List HeldMap → Telling → Type 0
TellsParts TellsWhole maps t = TellsPartsFault maps t ⊎ TellsOfUnion (λ whole. TellsWhole whole t) maps

-- An export of the union of these maps went out in this form, and what follows it. As PBF it stands behind a header that asks
-- for history where an element of the union has a flag, and only where one of the maps has one. Where the maps are parts of a
-- map, it is that map's export.
abbrev pub TellsUnionExport : Form → Option ℕ → Bool → List HeldMap → HeldMap → Telling → Type 0
TellsUnionExport Lines size partial maps whole t = TellsExported IsExport size partial whole t
TellsUnionExport Pbf size partial maps whole t = (history : Bool) × IsHistoryOf maps whole history × TellsExported (IsHeadedExport history) size partial whole t
