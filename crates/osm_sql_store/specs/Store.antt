-- What callers see of a store of rows.
use Rattle.std.specs.Prelude.{ℕ, refl, IsTrue, Result}
use Rattle.std.specs.Coded.{Coded, code_by, coded×, coded_ℕ}
use Rattle.sqlite.specs.Store.{Ghosts}
use Rattle.sqlite.specs.Held.{Held, held_code, state}
use Rattle.sqlite.specs.State.{HasCleanDisk}
use Rattle.osm_rows.specs.declared.fault.StoreFault.{StoreFault}
use Rattle.osm_rows.specs.declared.schema.layout.Layout.{Layout}
use Rattle.osm_rows.specs.Held.{Blob}
use Rattle.osm_rows.specs.Keeping.{OnlyReads, Adds}
use Rattle.osm_rows.specs.LayoutHolding.{Holds, MayLeave, SameTables, LeavesAMap, ListsAlways}

pub record Store (S : Type 0) : Type 0 where
  pub connection : Held S
  -- how many calls answered a fault
  pub failures : ℕ

abbrev pub store_code : {S : Type 0} → Coded S → Coded (Store S)
store_code {S} code = code_by (Held S × ℕ) (coded× (held_code code) coded_ℕ) (λ s. (s.connection, s.failures)) (λ p. record { connection = p.0; failures = p.1 }) (λ _. refl)

-- the call has left the tables, and has counted its failure
abbrev pub JustReads : {S T : Type 0} → Layout → Ghosts S → Store S → Result T StoreFault → Store S → Type 0
JustReads layout g old result new = OnlyReads (λ s held. Holds layout (state g s.connection) held) (λ s left. MayLeave layout (state g s.connection) left) (λ s. LeavesAMap layout (state g s.connection)) (λ s rows. ListsAlways layout (state g s.connection) rows)
    (λ s t. SameTables (state g s.connection) (state g t.connection)) (λ s. HasCleanDisk (state g s.connection)) (λ s. HasCleanDisk (state g s.connection) × IsTrue (state g s.connection).is_open) (λ s. s.failures) old result new

-- the call has added the blob, or has left the tables and counted its failure
abbrev pub AddsBlob : {S T : Type 0} → Layout → Ghosts S → ℕ → Blob → Store S → Result T StoreFault → Store S → Type 0
AddsBlob layout g off blob old result new = Adds (λ s held. Holds layout (state g s.connection) held) (λ s left. MayLeave layout (state g s.connection) left) (λ s. LeavesAMap layout (state g s.connection)) (λ s rows. ListsAlways layout (state g s.connection) rows)
    (λ s t. SameTables (state g s.connection) (state g t.connection)) (λ s. HasCleanDisk (state g s.connection)) (λ s. HasCleanDisk (state g s.connection) × IsTrue (state g s.connection).is_open) (λ s. s.failures) off blob old result new
