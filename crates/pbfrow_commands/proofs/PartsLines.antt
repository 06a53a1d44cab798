-- What the commands on several stores tell.
use Rattle.std.proofs.Common.{◌≡◌, ℕ, List, sym, ◌∙◌, ap}
use Rattle.std.specs.Prelude.{codes}
use Rattle.osm_rows.specs.Held.{HeldMap}
use Rattle.osm_import.specs.Faults.{conflict_number_of, conflict_name_of}
use Rattle.osm_reading.specs.Lines.{fault_line}
use Rattle.osm_import.specs.declared.answer.Conflict.{Conflict}
use Rattle.osm_parts.specs.Opening.{KeepsMaps}
use Rattle.osm_parts.specs.declared.fault.PartsFault.{PartsFault}
use Rattle.osm_parts.specs.declared.fault.PartsFault.TheVariants.{Interleaved, Refused}
use Rattle.pbfrow_commands.specs.InParts.{parts_fault_line}

-- ---- what keeps stores from being read as one

pub interleaved-line : (fault : PartsFault) (off n : ℕ) (name : List ℕ) → fault ≡ Interleaved off → n ≡ 71 → name ≡ codes "Interleaved" → fault_line n name off ≡ parts_fault_line fault
interleaved-line fault off n name is number named =
    ap (λ m. fault_line m name off) number ∙ ap (λ (text : List ℕ). fault_line 71 text off) named ∙ sym (ap parts_fault_line is)

pub refused-line : (fault : PartsFault) (conflict : Conflict) (off n : ℕ) (name : List ℕ) → fault ≡ Refused conflict off → n ≡ conflict_number_of conflict → name ≡ conflict_name_of conflict → fault_line n name off ≡ parts_fault_line fault
refused-line fault conflict off n name is number named =
    ap (λ m. fault_line m name off) number ∙ ap (λ (text : List ℕ). fault_line (conflict_number_of conflict) text off) named ∙ sym (ap parts_fault_line is)

-- ---- stores that are opened in two calls

pub keeps-then : {S : Type 0} (holds : S → List HeldMap → Type 0) (is_honest is_open : S → Type 0) (first next last : S) → KeepsMaps holds is_honest is_open first next → KeepsMaps holds is_honest is_open next last → KeepsMaps holds is_honest is_open first last
keeps-then holds is_honest is_open first next last one two = record {
  honest = λ h. one.honest (two.honest h);
  open_if = λ o. one.open_if (two.open_if o);
  kept = λ h o maps held. two.kept h o maps (one.kept (two.honest h) (two.open_if o) maps held);
}
