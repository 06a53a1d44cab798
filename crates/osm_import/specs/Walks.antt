-- One walk over held blobs, whatever an export writes of each.
use Rattle.std.specs.Prelude.{◌≡◌, ◌⊎◌, ℕ, zero, suc, ◌<◌, List, [], ◌∷◌, ◌++◌, length, take, Some, Result, Ok, Err}
use Rattle.std.specs.FinMap.{get}
use Rattle.osm_value.specs.declared.element.Element.{Element}
use Rattle.osm_rows.specs.Held.{Blob, HeldMap}
use Rattle.osm_rows.specs.declared.keeper.Extent.{Extent}
use Rattle.osm_reading.specs.Framings.{Known}
use Rattle.osm_import.specs.declared.export.fault.ExportFault.{ExportFault}
use Rattle.osm_import.specs.declared.export.fault.ExportFault.TheVariants.{Incomplete, PastEnd, WriteFailed, BlockTooLarge, Miscounted, Store}

-- what is done, at a blob with these elements, to what was written before
abbrev pub Writing : Type 1
Writing = Known → List Element → Known → Result (Unit {0}) ExportFault → Type 0

-- each blob of the run is held there by the store as well
abbrev pub IsWithin : HeldMap → HeldMap → Type 0
IsWithin run held = (off : ℕ) (blob : Blob) → get run off ≡ Some blob → get held off ≡ Some blob

-- the elements of the blob at a place in the list, none behind the last
abbrev pub elements_at : List (ℕ × Blob) → ℕ → List Element
elements_at [] at = []
elements_at (entry ∷ entries) zero = entry.1.elements
elements_at (entry ∷ entries) (suc at) = elements_at entries at

-- at one blob: where its elements weren't read nothing is written
abbrev pub WritesOne : Writing → Known → List Element → Known → Result (Unit {0}) ExportFault → Type 0
WritesOne Writes before elements after (Ok done) = Writes before elements after (Ok done)
WritesOne Writes before elements after (Err (Store fault)) = (after ≡ before) ⊎ Writes before elements after (Err (Store fault))
WritesOne Writes before elements after (Err WriteFailed) = Writes before elements after (Err WriteFailed)
WritesOne Writes before elements after (Err BlockTooLarge) = Writes before elements after (Err BlockTooLarge)
WritesOne Writes before elements after (Err (Incomplete from to)) = Writes before elements after (Err (Incomplete from to))
WritesOne Writes before elements after (Err (PastEnd fin)) = Writes before elements after (Err (PastEnd fin))
WritesOne Writes before elements after (Err (Miscounted off)) = Writes before elements after (Err (Miscounted off))

-- each of the blobs went out whole, one after the other
abbrev pub WritesInTurn : Writing → Known → List (ℕ × Blob) → Known → Type 0
WritesInTurn Writes before [] after = after ≡ before
WritesInTurn Writes before (entry ∷ entries) after = (middle : Known) × Writes before entry.1.elements middle (Ok tt) × WritesInTurn Writes middle entries after

-- the blob at which a walk stopped, behind those that went out whole
pub record StopsAt (Writes : Writing) (before : Known) (entries : List (ℕ × Blob)) (after : Known) (fault : ExportFault) : Type 0 where
  pub count : ℕ
  pub middle : Known
  pub here : count < length entries
  pub turns : WritesInTurn Writes before (take count entries) middle
  pub stopped : WritesOne Writes middle (elements_at entries count) after (Err fault)

-- An export has written the blobs one after the other, all of them or up to the one where it stopped.
abbrev pub Walks : Writing → Known → List (ℕ × Blob) → Known → Result (Unit {0}) ExportFault → Type 0
Walks Writes before entries after (Ok _) = WritesInTurn Writes before entries after
Walks Writes before entries after (Err fault) = StopsAt Writes before entries after fault

-- ---- whatever rows the store has

-- this was done at as many elements as the extent says
abbrev pub WritesAll : Writing → Known → Extent → Known → Result (Unit {0}) ExportFault → Type 0
WritesAll Writes before extent after result = (elements : List Element) × (length elements ≡ extent.n) × Writes before elements after result

-- at one extent: where its elements weren't read, or are others than so many, nothing is written
abbrev pub WritesComplete : Writing → Known → Extent → Known → Result (Unit {0}) ExportFault → Type 0
WritesComplete Writes before extent after (Ok done) = WritesAll Writes before extent after (Ok done)
WritesComplete Writes before extent after (Err (Miscounted off)) = (off ≡ extent.off) × (after ≡ before)
WritesComplete Writes before extent after (Err (Store fault)) = (after ≡ before) ⊎ WritesAll Writes before extent after (Err (Store fault))
WritesComplete Writes before extent after (Err WriteFailed) = WritesAll Writes before extent after (Err WriteFailed)
WritesComplete Writes before extent after (Err BlockTooLarge) = WritesAll Writes before extent after (Err BlockTooLarge)
WritesComplete Writes before extent after (Err (Incomplete from to)) = WritesAll Writes before extent after (Err (Incomplete from to))
WritesComplete Writes before extent after (Err (PastEnd fin)) = WritesAll Writes before extent after (Err (PastEnd fin))

-- at each of the extents, one after the other
abbrev pub CompleteInTurn : Writing → Known → List Extent → Known → Type 0
CompleteInTurn Writes before [] after = after ≡ before
CompleteInTurn Writes before (extent ∷ extents) after = (middle : Known) × WritesAll Writes before extent middle (Ok tt) × CompleteInTurn Writes middle extents after

-- the extent at which a walk stopped, behind those that were complete
pub record StopsComplete (Writes : Writing) (before : Known) (extents : List Extent) (after : Known) (fault : ExportFault) : Type 0 where
  pub front : List Extent
  pub extent : Extent
  pub behind : List Extent
  pub middle : Known
  pub parted : extents ≡ front ++ extent ∷ behind
  pub turns : CompleteInTurn Writes before front middle
  pub stopped : WritesComplete Writes middle extent after (Err fault)

-- An export has written as many elements as each extent says, one extent after the other, all of them or up to the one where it stopped.
abbrev pub WalksComplete : Writing → Known → List Extent → Known → Result (Unit {0}) ExportFault → Type 0
WalksComplete Writes before extents after (Ok _) = CompleteInTurn Writes before extents after
WalksComplete Writes before extents after (Err fault) = StopsComplete Writes before extents after fault
