-- What the command `export` writes.
use Rattle.std.specs.Prelude.{◌≡◌, ℕ, Bool, List, Option, Result, Ok, Err}
use Rattle.osm_value.specs.Sink.{Wrote}
use Rattle.osm_value.specs.declared.form.Form.{Form}
use Rattle.osm_value.specs.declared.form.Form.TheVariants.{Lines, Pbf}
use Rattle.osm_rows.specs.Held.{HeldMap}
use Rattle.osm_rows.specs.Keeping.{extents_of}
use Rattle.osm_import.specs.ExportCauses.{ExportHasCause, ExportIsOwn}
use Rattle.osm_import.specs.ExportFaults.{export_number_of, export_name_of}
use Rattle.osm_import.specs.Exports.{IsExport, size_of}
use Rattle.osm_import.specs.Pbf.{IsPbfExport}
use Rattle.osm_reading.specs.Framings.{Known}
use Rattle.osm_reading.specs.Lines.{plain_fault_line, fault_line}
use Rattle.osm_import.specs.declared.export.fault.ExportFault.{ExportFault}
use Rattle.osm_import.specs.declared.export.fault.ExportFault.TheVariants.{Incomplete, PastEnd, WriteFailed, BlockTooLarge, Miscounted, Store}
use Rattle.pbfrow_commands.specs.Telling.{Telling}

-- the line of a fault of the whole export
abbrev pub export_fault_line : ExportFault → List ℕ
export_fault_line fault = plain_fault_line (export_number_of fault) (export_name_of fault)

-- What follows the exported text: nothing, and the exit status is 0; or the line of the fault at which the export
-- stopped, with the offset of a blob whose elements are others than its row counts, and it is 1. Where the output has
-- failed nothing follows.
abbrev pub EndsExport : Known → Known → Bool → ℕ → Result (Unit {0}) ExportFault → Type 0
EndsExport text written failed status (Ok _) = (status ≡ 0) × (written ≡ text)
EndsExport text written failed status (Err WriteFailed) = (status ≡ 1) × (written ≡ text)
EndsExport text written failed status (Err (Incomplete from to)) = (status ≡ 1) × Wrote text (export_fault_line (Incomplete from to)) written failed
EndsExport text written failed status (Err (PastEnd fin)) = (status ≡ 1) × Wrote text (export_fault_line (PastEnd fin)) written failed
EndsExport text written failed status (Err BlockTooLarge) = (status ≡ 1) × Wrote text (export_fault_line BlockTooLarge) written failed
EndsExport text written failed status (Err (Miscounted off)) = (status ≡ 1) × Wrote text (fault_line (export_number_of (Miscounted off)) (export_name_of (Miscounted off)) off) written failed
EndsExport text written failed status (Err (Store fault)) = (status ≡ 1) × Wrote text (export_fault_line (Store fault)) written failed

-- An export of this map went out, of which `Exports` says the bytes, and what follows it; a fault has its cause, and isn't
-- that the tables are another store's.
pub record TellsExported (Exports : HeldMap → ℕ → Bool → Known → Known → Result (Unit {0}) ExportFault → Type 0) (size : Option ℕ) (partial : Bool) (held : HeldMap) (t : Telling) : Type 0 where
  -- how it ended
  pub answer : Result (Unit {0}) ExportFault
  -- what was written by then
  pub text : Known
  pub exports : Exports held (size_of size (extents_of held)) partial t.before text answer
  pub cause : ExportHasCause t.failures_before t.failures_now t.has_failed answer
  pub own : ExportIsOwn answer
  pub ends : EndsExport text t.after t.has_failed t.status answer

-- an export of this map went out in this form, and what follows it
abbrev pub TellsExport : Form → Option ℕ → Bool → HeldMap → Telling → Type 0
TellsExport Lines size partial held t = TellsExported IsExport size partial held t
TellsExport Pbf size partial held t = TellsExported IsPbfExport size partial held t
