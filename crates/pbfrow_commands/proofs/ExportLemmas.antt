-- The line of the fault at which an export stopped, and its cause.
use Rattle.std.proofs.Common.{◌≡◌, ◌≢◌, ℕ, Bool, Result, Ok, Err, refl, ◌∙◌}
use Rattle.osm_value.specs.Sink.{Wrote}
use Rattle.osm_import.specs.ExportCauses.{ExportHasCause}
use Rattle.osm_reading.specs.Framings.{Known}
use Rattle.osm_import.specs.declared.export.fault.ExportFault.{ExportFault}
use Rattle.osm_import.specs.declared.export.fault.ExportFault.TheVariants.{Incomplete, PastEnd, WriteFailed, BlockTooLarge, Miscounted, Store}
use Rattle.pbfrow_commands.specs.Exporting.{EndsExport, export_fault_line}

pub ends-export : (text written : Known) (failed : Bool) (fault : ExportFault) → fault ≢ WriteFailed → ((off : ℕ) → fault ≢ Miscounted off) → Wrote text (export_fault_line fault) written failed → EndsExport text written failed 1 (Err fault)
ends-export text written failed (Incomplete from to) other whole h = (refl, h)
ends-export text written failed (PastEnd fin) other whole h = (refl, h)
ends-export text written failed WriteFailed other whole h = absurd (other refl)
ends-export text written failed BlockTooLarge other whole h = (refl, h)
ends-export text written failed (Miscounted off) other whole h = absurd (whole off refl)
ends-export text written failed (Store fault) other whole h = (refl, h)

-- the output goes on after an export, but for a failed write
pub cause-kept : (before now : ℕ) (a b : Bool) (answer : Result (Unit {0}) ExportFault) → (answer ≡ Err WriteFailed → b ≡ a) → ExportHasCause before now a answer → ExportHasCause before now b answer
cause-kept before now a b (Ok _) same h = h
cause-kept before now a b (Err WriteFailed) same h = same refl ∙ h
cause-kept before now a b (Err (Store fault)) same h = h
cause-kept before now a b (Err BlockTooLarge) same h = h
cause-kept before now a b (Err (Miscounted off)) same h = h
cause-kept before now a b (Err (Incomplete from to)) same h = h
cause-kept before now a b (Err (PastEnd fin)) same h = h
