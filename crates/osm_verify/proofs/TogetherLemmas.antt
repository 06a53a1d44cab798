-- One store more.
use Rattle.std.proofs.Common.{◌≡◌, ℕ, zero, suc, ◌+◌, ◌-◌, ◌^◌, ◌≤◌, Bool, false, cond, List, [], ◌∷◌, ◌++◌, length, take, Some, None, slice_get, Result, Ok, Err, refl, sym, ◌∙◌, ap, subst, inl, inr, arith, append_assoc, append-nil, add-one}
use Rattle.std.specs.Prelude.{IfErr, IfSome}
use Rattle.std.proofs.lemmas.Bool.Decides.{eqb_tells}
use Rattle.osm_rows.specs.Held.{HeldMap, IsApart}
use Rattle.osm_rows.specs.Keeping.{extents_of, failures_after}
use Rattle.osm_rows.specs.declared.fault.StoreFault.{StoreFault}
use Rattle.osm_rows.specs.declared.fault.StoreFault.TheVariants.{Memory}
use Rattle.osm_reading.specs.Framings.{Known}
use Rattle.osm_import.specs.Step.{HasCause}
use Rattle.osm_parts.specs.Reading.{AreStores, IsReadOf}
use Rattle.osm_parts.specs.declared.runs.Part.{Part}
use Rattle.osm_parts.proofs.OpeningLemmas.{cause-closed, cause-later}
use Rattle.osm_verify.specs.declared.comparing.Depth.{Depth}
use Rattle.osm_verify.specs.Judging.{AreJudged}
use Rattle.osm_parts.specs.Opening.{AddsUp}
use Rattle.osm_verify.specs.Together.{AreAllJudged, HoldFile, IsClean, IsVerdict}
use Rattle.osm_verify.specs.declared.part_audit.Audit.{Audit}
use Rattle.osm_verify.specs.declared.together.Verdict.{Verdict}
use Rattle.osm_verify.proofs.FileFrames.{agreed-hold-file}
use Rattle.osm_verify.specs.Faults.{AuditHasCause, IsOfParts, IsOwnAudit, IsOwnFault}
use Rattle.osm_verify.specs.declared.part_audit.Finding.{Finding}
use Rattle.osm_verify.specs.declared.fault.AuditFault.{AuditFault}
use Rattle.osm_verify.specs.declared.fault.AuditFault.TheVariants.{Unread, Parts}
use Rattle.osm_parts.specs.declared.fault.PartsFault.TheVariants.{Interleaved, Refused, Store}

pub taken-place : (maps : List HeldMap) (place : ℕ) (held : HeldMap) → slice_get maps place ≡ Some held → take (place + 1) maps ≡ take place maps ++ held ∷ []
taken-place maps place held at = ap (λ n. take n maps) (add-one place) ∙ taken maps place at
  where
    taken : (maps : List HeldMap) (place : ℕ) → slice_get maps place ≡ Some held → take (suc place) maps ≡ take place maps ++ held ∷ []
    taken [] place at = absurd (cc)
    taken (first ∷ maps) zero at = let same : first ≡ held = cc in ap (λ (m : HeldMap). m ∷ []) same
    taken (first ∷ maps) (suc place) at = ap (λ (l : List HeldMap). first ∷ l) (taken maps place at)

pub stores-more : (asked : Bool) (place : ℕ) (maps : List HeldMap) (stores : List Part) (held : HeldMap) (part : Part) → AreStores asked place maps stores → IsReadOf asked (place + length maps) held part → IsApart held
    → AreStores asked place (maps ++ held ∷ []) (stores ++ part ∷ [])
stores-more asked place [] [] held part are read apart = let here : place + 0 ≡ place = omega arith in (subst (λ n. IsReadOf asked n held part) here read, apart, tt)
stores-more asked place [] (first ∷ stores) held part are read apart = absurd are
stores-more asked place (map ∷ maps) [] held part are read apart = absurd are
stores-more asked place (map ∷ maps) (first ∷ stores) held part are read apart =
    let there : place + suc (length maps) ≡ place + 1 + length maps = omega arith in
    (are.0, are.1, stores-more asked (place + 1) maps stores held part are.2 (subst (λ n. IsReadOf asked n held part) there read) apart)

pub all-more : (depth : Depth) (known : Known) (maps : List HeldMap) (findings : List Finding) (held : HeldMap) (own : List Finding) → AreAllJudged depth known maps findings → AreJudged depth held known (extents_of held) own
    → AreAllJudged depth known (maps ++ held ∷ []) (findings ++ own)
all-more depth known [] findings held own judged more = (own, [], more, refl, ap (λ (l : List Finding). l ++ own) judged ∙ sym (append-nil own))
all-more depth known (map ∷ maps) findings held own judged more = (
  judged.0,
  judged.1 ++ own,
  judged.2,
  all-more depth known maps judged.1 held own judged.3 more,
  ap (λ (l : List Finding). l ++ own) judged.4 ∙ append_assoc judged.0 judged.1 own,
)

pub own-parts : (maps : List HeldMap) (fault : AuditFault) → IsOwnAudit fault → IsOfParts maps fault
own-parts maps (Unread off) own = tt
own-parts maps (Parts (Store fault)) own = own
own-parts maps (Parts (Interleaved off)) own = absurd own
own-parts maps (Parts (Refused conflict off)) own = absurd own

pub no-stores : (maps : List HeldMap) → AreStores false 0 (take 0 maps) []
no-stores [] = tt
no-stores (held ∷ maps) = tt

pub nothing-judged : (depth : Depth) (known : Known) (maps : List HeldMap) (findings : List Finding) → findings ≡ [] → AreAllJudged depth known (take 0 maps) findings
nothing-judged depth known [] findings none = none
nothing-judged depth known (held ∷ maps) findings none = none

pub audit-later : (old middle new : ℕ) (fault : AuditFault) → old ≤ middle → AuditHasCause middle new fault → AuditHasCause old new fault
audit-later old middle new (Unread off) le cause = tt
audit-later old middle new (Parts (Store fault)) le cause = cause-later old middle new fault le cause
audit-later old middle new (Parts (Interleaved off)) le cause = tt
audit-later old middle new (Parts (Refused conflict off)) le cause = tt

-- a call of a store that answers a fault was counted
pub failed-call : (old new : ℕ) (fault : StoreFault) → new ≡ failures_after {T = Unit {0}} (Err fault) old → HasCause old new fault
failed-call old new fault counted = elim (eqb_tells old (2 ^ 64 - 1)) [
  | inl (full, top) ↦ (let same : new ≡ old = counted ∙ ap (λ b. cond b old (old + 1)) full in inr (inr (omega (arith, top, same))))
  | inr (room, below) ↦ (let more : new ≡ old + 1 = counted ∙ ap (λ b. cond b old (old + 1)) room in inr (inl (omega (arith, more))))
]

-- and so is one where memory was refused
pub memory-own : (old new : ℕ) → IsOwnFault old new (Parts (Store Memory))
memory-own old new = record { own = λ foreign. foreign; cause = inl refl }

-- the fault of a store that is closed again
pub audit-closed : (old lent new first last : ℕ) (result : Result Audit AuditFault) → lent ≡ old → AddsUp lent last new → IfErr result (IsOwnFault first last) → IfErr result (IsOwnFault old new)
audit-closed old lent new first last (Ok audit) same adds failed = tt
audit-closed old lent new first last (Err (Unread off)) same adds failed = record { own = tt; cause = tt }
audit-closed old lent new first last (Err (Parts (Store fault))) same adds failed = record { own = failed.own; cause = cause-closed old lent new first last fault same adds failed.cause }
audit-closed old lent new first last (Err (Parts (Interleaved off))) same adds failed = absurd failed.own
audit-closed old lent new first last (Err (Parts (Refused conflict off))) same adds failed = absurd failed.own

pub agreed-known : (depth : Depth) (known : Known) (maps : List HeldMap) (verdict : Verdict) → IsVerdict depth known maps verdict → IsClean verdict → IfSome known (λ file. HoldFile depth file maps)
agreed-known depth None maps verdict is agreed = tt
agreed-known depth (Some file) maps verdict is agreed = agreed-hold-file depth file maps verdict is agreed
