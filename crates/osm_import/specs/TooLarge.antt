-- Where an export as PBF comes to an element that is too large for a block.
use Rattle.std.specs.Prelude.{◌≡◌, ℕ, ◌<◌, List, [], ◌∷◌, length, Result, Ok, Err}
use Rattle.std.specs.FinMap.{entries}
use Rattle.osm_value.specs.declared.element.Element.{Element}
use Rattle.osm_write.specs.declared.block.TheConstants.{MAX_BLOCK_LEN}
use Rattle.osm_write.specs.Canon.{canon}
use Rattle.osm_write.specs.Cutter.{ComesToOne}
use Rattle.osm_rows.specs.Held.{Blob, HeldMap}
use Rattle.osm_import.specs.Pbf.{Cuts}
use Rattle.osm_import.specs.Walks.{elements_at}
use Rattle.osm_import.specs.declared.export.fault.ExportFault.{ExportFault}
use Rattle.osm_import.specs.declared.export.fault.ExportFault.TheVariants.{Incomplete, PastEnd, WriteFailed, BlockTooLarge, Miscounted, Store}

-- a cutter of one of these blobs gives some blocks, and comes then to an element whose block alone is too large
abbrev pub ComesToTooLarge : List (ℕ × Blob) → Type 0
ComesToTooLarge es = (at : ℕ) × (blocks : List (List ℕ)) × (rest : List Element) × Cuts (elements_at es at) blocks rest × ComesToOne rest

-- `BlockTooLarge` comes only over a map with such a blob, and `Ok` only over one with none
abbrev pub IsTooLargeExactly : HeldMap → Result (Unit {0}) ExportFault → Type 0
IsTooLargeExactly held (Ok _) = ¬ (ComesToTooLarge (entries held))
IsTooLargeExactly held (Err BlockTooLarge) = ComesToTooLarge (entries held)
IsTooLargeExactly held (Err WriteFailed) = Unit {0}
IsTooLargeExactly held (Err (Store fault)) = Unit {0}
IsTooLargeExactly held (Err (Incomplete from to)) = Unit {0}
IsTooLargeExactly held (Err (PastEnd fin)) = Unit {0}
IsTooLargeExactly held (Err (Miscounted off)) = Unit {0}

-- the block of the first of the elements alone is too large
abbrev pub FirstIsTooLarge : List Element → Type 0
FirstIsTooLarge es = (first : Element) × (others : List Element) × (es ≡ first ∷ others) × (MAX_BLOCK_LEN < length (canon (first ∷ [])))
