-- What an export as PBF writes: the frame of a header, and then, blob by blob, the frames of the blocks that the
-- blob's elements are cut into (OpenStreetMap Wiki, "PBF Format").
use Rattle.std.specs.Prelude.{◌≡◌, ℕ, ◌^◌, ◌≤◌, Bool, false, List, [], ◌∷◌, ◌++◌, length, take, drop, codes, Result, Ok, Err}
use Rattle.std.specs.FinMap.{entries}
use Rattle.std.specs.Io.KnownBytes.{Appends}
use Rattle.pbf_frame.specs.Write.{frame_bytes}
use Rattle.osm_value.specs.declared.element.Element.{Element}
use Rattle.osm_value.specs.Sink.{AppendsFront}
use Rattle.osm_write.specs.Cutter.{StepOk, ComesToOne}
use Rattle.osm_write.specs.Header.{header_block}
use Rattle.osm_rows.specs.Flags.{has_flags}
use Rattle.osm_rows.specs.Held.{Blob, HeldMap}
use Rattle.osm_reading.specs.Framings.{Known}
use Rattle.osm_import.specs.Exports.{AreElements, IsGuarded, IsRefusal}
use Rattle.osm_import.specs.Files.{IsFile}
use Rattle.osm_import.specs.Walks.{elements_at}
use Rattle.osm_import.specs.Gaps.{Tiles}
use Rattle.osm_import.specs.declared.export.fault.ExportFault.{ExportFault}
use Rattle.osm_import.specs.declared.export.fault.ExportFault.TheVariants.{Incomplete, PastEnd, WriteFailed, BlockTooLarge, Miscounted, Store}

-- the frame of an export's header, which asks for history where flags of visibility were held
abbrev pub header_frame : Bool → List ℕ
header_frame history = frame_bytes (codes "OSMHeader") (header_block history)

abbrev pub data_frame : List ℕ → List ℕ
data_frame block = frame_bytes (codes "OSMData") block

-- the frames of blocks, one after the other
abbrev pub data_frames : List (List ℕ) → List ℕ
data_frames [] = []
data_frames (block ∷ blocks) = data_frame block ++ data_frames blocks

-- a cutter of these elements gives these blocks, and has the rest left then
abbrev pub Cuts : List Element → List (List ℕ) → List Element → Type 0
Cuts elements [] rest = rest ≡ elements
Cuts elements (block ∷ blocks) rest = (count : ℕ) × StepOk elements block count × Cuts (drop count elements) blocks rest

-- the frames of blobs, each cut to its end, one after the other
abbrev pub AreFramesOf : List (ℕ × Blob) → List ℕ → Type 0
AreFramesOf [] bytes = bytes ≡ []
AreFramesOf (entry ∷ entries) bytes =
    (blocks : List (List ℕ)) × (behind : List ℕ) × Cuts entry.1.elements blocks [] × AreFramesOf entries behind × (bytes ≡ data_frames blocks ++ behind)

-- the frames of some of the blobs, each cut to its end, and of the next one's first blocks; that one has the rest left
pub record AreFirstFrames (entries : List (ℕ × Blob)) (bytes : List ℕ) (rest : List Element) : Type 0 where
  pub count : ℕ
  pub before : List ℕ
  pub blocks : List (List ℕ)
  pub whole : AreFramesOf (take count entries) before
  pub cut : Cuts (elements_at entries count) blocks rest
  pub joined : bytes ≡ before ++ data_frames blocks

-- what the frames of one blob's elements have done to what was written before
abbrev pub WritesBlocks : Known → List Element → Known → Result (Unit {0}) ExportFault → Type 0
WritesBlocks before elements after (Ok _) = (blocks : List (List ℕ)) × Cuts elements blocks [] × Appends before after (data_frames blocks)
WritesBlocks before elements after (Err WriteFailed) = (blocks : List (List ℕ)) × (rest : List Element) × Cuts elements blocks rest × AppendsFront before after (data_frames blocks)
WritesBlocks before elements after (Err BlockTooLarge) = (blocks : List (List ℕ)) × (rest : List Element) × Cuts elements blocks rest × ComesToOne rest × Appends before after (data_frames blocks)
WritesBlocks before elements after (Err (Store fault)) = (blocks : List (List ℕ)) × (rest : List Element) × Cuts elements blocks rest × AppendsFront before after (data_frames blocks)
WritesBlocks before elements after (Err (Incomplete from to)) = ⊥
WritesBlocks before elements after (Err (PastEnd fin)) = ⊥
WritesBlocks before elements after (Err (Miscounted off)) = ⊥

-- What an export as PBF has done behind a header that asks for history or not: that header's frame and the frames of all
-- held blobs went out; or those up to the place where a cutter came to an element whose block alone is too large; or a
-- front of that where a write failed or at a store fault; nothing where it is refused. Unless partial, what is held tiles
-- the size, or a store fault came before any byte.
abbrev pub IsHeadedExport : Bool → HeldMap → ℕ → Bool → Known → Known → Result (Unit {0}) ExportFault → Type 0
IsHeadedExport history held size partial before after (Ok _) =
    (bytes : List ℕ) × AreFramesOf (entries held) bytes × Appends before after (header_frame history ++ bytes) × (partial ≡ false → Tiles held size)
IsHeadedExport history held size partial before after (Err WriteFailed) =
    (bytes : List ℕ) × (rest : List Element) × AreFirstFrames (entries held) bytes rest × AppendsFront before after (header_frame history ++ bytes) × (partial ≡ false → Tiles held size)
IsHeadedExport history held size partial before after (Err BlockTooLarge) =
    (bytes : List ℕ) × (rest : List Element) × AreFirstFrames (entries held) bytes rest × ComesToOne rest × Appends before after (header_frame history ++ bytes) × (partial ≡ false → Tiles held size)
IsHeadedExport history held size partial before after (Err (Store fault)) =
    (bytes : List ℕ) × (rest : List Element) × AreFirstFrames (entries held) bytes rest × AppendsFront before after (header_frame history ++ bytes) × IsGuarded held size partial before after
IsHeadedExport history held size partial before after (Err (Incomplete from to)) = (partial ≡ false) × (after ≡ before) × IsRefusal held size (Incomplete from to)
IsHeadedExport history held size partial before after (Err (PastEnd fin)) = (partial ≡ false) × (after ≡ before) × IsRefusal held size (PastEnd fin)
IsHeadedExport history held size partial before after (Err (Miscounted off)) = ⊥

-- what an export as PBF has done: its header asks for history where an element has a flag
abbrev pub IsPbfExport : HeldMap → ℕ → Bool → Known → Known → Result (Unit {0}) ExportFault → Type 0
IsPbfExport held size partial before after result = IsHeadedExport (has_flags held) held size partial before after result

-- At Ok the bytes that are written are a file, and where they are 2^62 at most, its elements are the file's; and it isn't refused.
abbrev pub WritesPbfFile : List (List ℕ) → Known → Known → Result (Unit {0}) ExportFault → Type 0
WritesPbfFile frames before after (Ok _) = (bytes : List ℕ) × (written : List (List ℕ)) × (elements : List Element)
    × AreElements 0 frames elements × Appends before after bytes × IsFile bytes written × (length bytes ≤ 2 ^ 62 → AreElements 0 written elements)
WritesPbfFile frames before after (Err WriteFailed) = Unit {0}
WritesPbfFile frames before after (Err (Store fault)) = Unit {0}
WritesPbfFile frames before after (Err BlockTooLarge) = Unit {0}
WritesPbfFile frames before after (Err (Incomplete from to)) = ⊥
WritesPbfFile frames before after (Err (PastEnd fin)) = ⊥
WritesPbfFile frames before after (Err (Miscounted off)) = ⊥
