-- What the calls of a keeper leave.
use Rattle.std.specs.Prelude.{◌≡◌, ◌⊎◌, ℕ, ◌+◌, ◌-◌, ◌^◌, ◌<◌, ◌≤◌, ◌==◌, Bool, ◌&&◌, nat_lt, List, map, length, AllPairs, Result, Ok, Err, if◌then◌else◌, OnOk, OnErr, IfErr}
use Rattle.std.specs.FinMap.{entries, insert}
use Rattle.pbf_frame.specs.declared.part.TheConstants.{MAX_OFFSET}
use Rattle.sqlite.specs.Order.{Row}
use Rattle.osm_rows.specs.Held.{Blob, HeldMap, IsFree, HaveFewTexts}
use Rattle.osm_rows.specs.declared.keeper.Extent.{Extent}
use Rattle.osm_rows.specs.declared.fault.StoreFault.{StoreFault}
use Rattle.osm_rows.specs.declared.fault.StoreFault.TheVariants.{NotThisStore}

-- the extent of a held blob
abbrev pub extent_of : ℕ × Blob → Extent
extent_of (off, blob) = record { off = off; fin = blob.fin; digest = blob.digest; kind = blob.kind; n = length blob.elements }

-- it has bytes, and ends at `MAX_OFFSET` at most
abbrev pub IsRange : Extent → Type 0
IsRange e = (e.off < e.fin) × (e.fin ≤ MAX_OFFSET)

-- each ends where the next one begins, or before
abbrev pub AscendApart : List Extent → Type 0
AscendApart extents = AllPairs (λ (a b : Extent). a.fin ≤ b.off) extents

-- all held extents, ascending
abbrev pub extents_of : HeldMap → List Extent
extents_of held = map extent_of (entries held)

-- whether the extent shares a byte with from..to
abbrev pub touches : ℕ → ℕ → Extent → Bool
touches from to extent = nat_lt extent.off to && nat_lt from extent.fin

-- the count of failed calls after one more call; it stays at 2 ^ 64 - 1
abbrev pub failures_after : {T : Type 0} → Result T StoreFault → ℕ → ℕ
failures_after (Ok _) count = count
failures_after (Err _) count = if count == 2 ^ 64 - 1 then count else count + 1

-- the tables are found to be another store's
abbrev pub IsForeign : StoreFault → Type 0
IsForeign (NotThisStore found) = Unit {0}
IsForeign _ = ⊥

-- whatever rows the list of objects has in the first of two stores, and in all that a crash leaves of it, it has in the second
abbrev pub KeepsList : {S : Type 0} → (S → List Row → Type 0) → S → S → Type 0
KeepsList lists old new = (rows : List Row) → lists old rows → lists new rows

-- the call has kept what the store holds, if it can go on, and what a crash may leave, and has counted its failure
pub record OnlyReads {S T : Type 0} (holds leaves : S → HeldMap → Type 0) (leaves_a_map : S → Type 0) (lists : S → List Row → Type 0) (same_tables : S → S → Type 0) (is_honest is_open : S → Type 0) (failures : S → ℕ) (old : S) (result : Result T StoreFault) (new : S) : Type 0 where
  pub honest : is_honest new → is_honest old
  pub open_if : is_open new → is_open old
  pub ok : OnOk result (is_honest new → (held : HeldMap) → holds old held → holds new held)
  pub err : OnErr result (is_honest new → is_open new → (held : HeldMap) → holds old held → holds new held)
  pub same : is_honest new → is_open new → same_tables old new
  pub crash : is_honest new → (held : HeldMap) → leaves new held → leaves old held
  pub whole : is_honest new → leaves_a_map old → leaves_a_map new
  pub list : is_honest new → KeepsList lists old new
  pub own : (held : HeldMap) → holds old held → is_honest new → IfErr result (λ fault. ¬ (IsForeign fault))
  pub counted : failures new ≡ failures_after result (failures old)

-- the map with one more blob
abbrev pub with_blob : HeldMap → ℕ → Blob → HeldMap
with_blob held off blob = insert held off blob

-- a blob that a map can take: its extent meets no held one, and each of its elements uses few texts
pub record IsAddable (held : HeldMap) (off : ℕ) (blob : Blob) : Type 0 where
  pub free : IsFree held off blob.fin
  pub few_texts : HaveFewTexts blob.elements

-- the call adds the blob at a free place, or has failed. A crash leaves what it left before or the new map. A store that
-- has to be opened again takes nothing, and a crash leaves nothing new
pub record Adds {S T : Type 0} (holds leaves : S → HeldMap → Type 0) (leaves_a_map : S → Type 0) (lists : S → List Row → Type 0) (same_tables : S → S → Type 0) (is_honest is_open : S → Type 0) (failures : S → ℕ) (off : ℕ) (blob : Blob) (old : S) (result : Result T StoreFault) (new : S) : Type 0 where
  pub honest : is_honest new → is_honest old
  pub open_if : is_open new → is_open old
  pub ok : OnOk result (is_honest new → (held : HeldMap) → holds old held → IsAddable held off blob → holds new (with_blob held off blob))
  pub err : OnErr result (is_honest new → is_open new → (held : HeldMap) → holds old held → IsAddable held off blob → holds new held)
  pub same : is_honest new → is_open new → OnErr result (same_tables old new)
  pub crash : is_honest new → (held left : HeldMap) → holds old held → IsAddable held off blob → leaves new left → leaves old left ⊎ (left ≡ with_blob held off blob)
  pub whole : is_honest new → (held : HeldMap) → holds old held → IsAddable held off blob → leaves_a_map new
  pub list : is_honest new → (held : HeldMap) → holds old held → IsAddable held off blob → KeepsList lists old new
  pub own : (held : HeldMap) → holds old held → is_honest new → IsAddable held off blob → IfErr result (λ fault. ¬ (IsForeign fault))
  pub was_open : is_honest new → OnOk result (is_open old)
  pub shut : is_honest new → ¬ (is_open old) → (left : HeldMap) → leaves new left → leaves old left
  pub shut_whole : is_honest new → ¬ (is_open old) → leaves_a_map old → leaves_a_map new
  pub counted : failures new ≡ failures_after result (failures old)
