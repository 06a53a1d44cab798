-- Why an export fails.
use Rattle.std.specs.Prelude.{◌≡◌, ℕ, Bool, IsTrue, Result, Ok, Err}
use Rattle.osm_rows.specs.Keeping.{IsForeign}
use Rattle.osm_rows.specs.declared.fault.StoreFault.TheVariants as store
use Rattle.osm_import.specs.Step.{HasCause}
use Rattle.osm_import.specs.declared.export.fault.ExportFault.{ExportFault}
use Rattle.osm_import.specs.declared.export.fault.ExportFault.TheVariants.{Incomplete, PastEnd, WriteFailed, BlockTooLarge, Miscounted, Store}

-- a write that fails is told only where the sink has failed, and a store fault only where it has a cause
abbrev pub ExportHasCause : ℕ → ℕ → Bool → Result (Unit {0}) ExportFault → Type 0
ExportHasCause before now failed (Err WriteFailed) = IsTrue failed
ExportHasCause before now failed (Err (Store fault)) = HasCause before now fault
ExportHasCause before now failed (Err BlockTooLarge) = Unit {0}
ExportHasCause before now failed (Err (Miscounted off)) = Unit {0}
ExportHasCause before now failed (Err (Incomplete from to)) = Unit {0}
ExportHasCause before now failed (Err (PastEnd fin)) = Unit {0}
ExportHasCause before now failed (Ok _) = Unit {0}

-- a call of the store that has failed is told: another answer comes only where none has
abbrev pub ExportTells : {T : Type 0} → ℕ → ℕ → Result T ExportFault → Type 0
ExportTells before now (Err (Store fault)) = Unit {0}
ExportTells before now (Err WriteFailed) = now ≡ before
ExportTells before now (Err BlockTooLarge) = now ≡ before
ExportTells before now (Err (Miscounted off)) = now ≡ before
ExportTells before now (Err (Incomplete from to)) = now ≡ before
ExportTells before now (Err (PastEnd fin)) = now ≡ before
ExportTells before now (Ok _) = now ≡ before

-- no store fault that is answered says that the tables are another store's
abbrev pub ExportIsOwn : Result (Unit {0}) ExportFault → Type 0
ExportIsOwn (Err (Store fault)) = ¬ (IsForeign fault)
ExportIsOwn _ = Unit {0}

-- what only writes fails at a write where the sink has failed, and of the store's faults tells refused memory alone
abbrev pub WriteHasCause : Bool → Result (Unit {0}) ExportFault → Type 0
WriteHasCause failed (Err WriteFailed) = IsTrue failed
WriteHasCause failed (Err (Store fault)) = fault ≡ store.Memory
WriteHasCause failed (Err BlockTooLarge) = Unit {0}
WriteHasCause failed (Err (Miscounted off)) = ⊥
WriteHasCause failed (Err (Incomplete from to)) = Unit {0}
WriteHasCause failed (Err (PastEnd fin)) = Unit {0}
WriteHasCause failed (Ok _) = Unit {0}
