-- The causes of what keeps stores from being compared with a file.
use Rattle.std.specs.Prelude.{ℕ, List}
use Rattle.osm_rows.specs.Held.{HeldMap}
use Rattle.osm_rows.specs.Keeping.{IsForeign}
use Rattle.osm_parts.specs.PartsFaults.{IsOfMaps, PartsFaultHasCause}
use Rattle.osm_parts.specs.declared.fault.PartsFault.TheVariants.{Interleaved, Refused, Store}
use Rattle.osm_verify.specs.declared.fault.AuditFault.{AuditFault}
use Rattle.osm_verify.specs.declared.fault.AuditFault.TheVariants.{Unread, Parts}

-- one store alone that holds a map is found to be no other's, and in nobody's way
abbrev pub IsOwnAudit : AuditFault → Type 0
IsOwnAudit (Unread off) = Unit {0}
IsOwnAudit (Parts (Store fault)) = ¬ (IsForeign fault)
IsOwnAudit (Parts (Interleaved off)) = ⊥
IsOwnAudit (Parts (Refused conflict off)) = ⊥

-- these maps bear the fault out
abbrev pub IsOfParts : List HeldMap → AuditFault → Type 0
IsOfParts maps (Unread off) = Unit {0}
IsOfParts maps (Parts fault) = IsOfMaps maps fault

-- a store's fault has a cause
abbrev pub AuditHasCause : ℕ → ℕ → AuditFault → Type 0
AuditHasCause before now (Unread off) = Unit {0}
AuditHasCause before now (Parts fault) = PartsFaultHasCause before now fault

-- one store alone that holds a map may answer the fault, which has a cause
pub record IsOwnFault (before now : ℕ) (fault : AuditFault) : Type 0 where
  pub own : IsOwnAudit fault
  pub cause : AuditHasCause before now fault
