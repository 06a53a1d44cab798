-- What the command `verify` writes of several stores that ought to hold a file together.
use Rattle.std.specs.Prelude.{◌≡◌, ◌↔◌, ◌⊎◌, ℕ, Bool, true, false, List, ◌++◌, length, codes, IsTrue}
use Rattle.std.specs.List.{count_by, flat_map}
use Rattle.std.specs.Fmt.{decimal}
use Rattle.osm_value.specs.Sink.{Wrote}
use Rattle.osm_rows.specs.Held.{HeldMap}
use Rattle.osm_reading.specs.Framings.{Known}
use Rattle.osm_reading.specs.declared.stream.fault.Stop.TheVariants.{ReadFailed}
use Rattle.osm_verify.specs.Faults.{AuditHasCause, IsOfParts}
use Rattle.osm_verify.specs.Together.{IsClean, IsVerdict}
use Rattle.osm_verify.specs.declared.part_audit.Finding.{Finding}
use Rattle.osm_verify.specs.declared.part_audit.Finding.TheVariants.{Differs, Extra}
use Rattle.osm_verify.specs.declared.fault.AuditFault.{AuditFault}
use Rattle.osm_verify.specs.declared.fault.AuditFault.TheVariants.{Unread, Parts}
use Rattle.osm_verify.specs.declared.together.Verdict.{Verdict}
use Rattle.osm_verify.specs.declared.comparing.Depth.{Depth}
use Rattle.pbfrow_commands.specs.CommandLines.{gap_lines}
use Rattle.pbfrow_reading.specs.CommandLines.{stop_line}
use Rattle.pbfrow_commands.specs.InParts.{parts_fault_line}
use Rattle.pbfrow_commands.specs.Telling.{Telling}
use Rattle.pbfrow_reading.specs.Walks.{status_of}

-- the line of a held blob that isn't one of the file
abbrev pub finding_line : Finding → List ℕ
finding_line (Differs off) = codes "differs " ++ decimal off ++ codes "\n"
finding_line (Extra off) = codes "extra " ++ decimal off ++ codes "\n"

abbrev pub finding_lines : List Finding → List ℕ
finding_lines findings = flat_map finding_line findings

abbrev pub is_other : Finding → Bool
is_other (Differs off) = true
is_other (Extra off) = false

abbrev pub is_extra : Finding → Bool
is_extra (Differs off) = false
is_extra (Extra off) = true

-- the last line: how many blobs are held, how many gaps there are, and how many blobs differ or are extra
abbrev pub verdict_line : ℕ → ℕ → ℕ → ℕ → List ℕ
verdict_line blobs gaps others extra = codes "blobs " ++ decimal blobs ++ codes " gaps " ++ decimal gaps ++ codes " differs " ++ decimal others ++ codes " extra " ++ decimal extra ++ codes "\n"

abbrev pub verdict_text : Verdict → List ℕ
verdict_text v = finding_lines v.findings.items ++ gap_lines v.gaps.items
    ++ verdict_line v.blobs (length v.gaps.items) (count_by is_other v.findings.items) (count_by is_extra v.findings.items)

-- the line of what keeps stores from being compared with a file
abbrev pub audit_fault_line : AuditFault → List ℕ
audit_fault_line (Unread off) = stop_line ReadFailed off
audit_fault_line (Parts fault) = parts_fault_line fault

-- the line of a fault that the maps bear out went out, with its cause, and the exit status is 1
pub record TellsAuditFault (maps : List HeldMap) (t : Telling) : Type 0 where
  pub fault : AuditFault
  pub of_maps : IsOfParts maps fault
  pub cause : AuditHasCause t.failures_before t.failures_now fault
  pub line : Wrote t.before (audit_fault_line fault) t.after t.has_failed
  pub one : t.status ≡ 1

-- the verdict on the maps went out, and the exit status is 0 exactly where it is clean and the output hasn't failed
pub record TellsVerdict (depth : Depth) (known : Known) (maps : List HeldMap) (t : Telling) : Type 0 where
  pub verdict : Verdict
  pub is : IsVerdict depth known maps verdict
  pub text : Wrote t.before (verdict_text verdict) t.after t.has_failed
  pub agreed : Bool
  pub agrees : IsTrue agreed ↔ IsClean verdict
  pub status_is : t.status ≡ status_of agreed t.has_failed

-- what `verify` of several stores has told: the verdict on their maps, or the line of a fault that the maps bear out
abbrev pub VerifiesParts : Depth → Known → List HeldMap → Telling → Type 0
VerifiesParts depth known maps t = TellsAuditFault maps t ⊎ TellsVerdict depth known maps t
