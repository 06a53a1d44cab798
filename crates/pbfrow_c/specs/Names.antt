-- The names of the faults, by their numbers.
use Rattle.std.specs.Prelude.{ℕ, ◌==◌, List, [], ◌∷◌, ◌++◌, codes, if◌then◌else◌}
use Rattle.osm_value.specs.Value.{Text}
use Rattle.pbf_frame.specs.declared.blob.BlobFault.{BlobFault}
use Rattle.pbf_frame.specs.declared.blob.BlobFault.TheVariants.{Compressed}
use Rattle.pbfrow_c.specs.Blob.{number_of_compression}

-- the name in the first line of this number; no text where there is none
abbrev pub name_in : List (ℕ × Text) → ℕ → Text
name_in [] number = []
name_in (line ∷ rest) number = if number == line.0 then line.1 else name_in rest number

-- of a frame, of a Blob whose data isn't compressed, and of where a blob may stand
abbrev pub blob_names : List (ℕ × Text)
blob_names =
    (10, codes "LengthCut")
    ∷ (11, codes "HeaderTooLong")
    ∷ (12, codes "HeaderCut")
    ∷ (13, codes "HeaderWire")
    ∷ (14, codes "NoType")
    ∷ (16, codes "NoSize")
    ∷ (17, codes "SizeOutOfRange")
    ∷ (18, codes "BlobCut")
    ∷ (19, codes "Trailing")
    ∷ (20, codes "BlobWire")
    ∷ (22, codes "NoData")
    ∷ (23, codes "RawTooLarge")
    ∷ (60, codes "OffsetTooLarge")
    ∷ (61, codes "NoHeaderFirst")
    ∷ (62, codes "HeaderNotFirst")
    ∷ []

-- of a header block, of a block, and of a call of this library
abbrev pub block_names : List (ℕ × Text)
block_names =
    (30, codes "HeaderBlockWire")
    ∷ (31, codes "BBoxIncomplete")
    ∷ (32, codes "HeaderTextNotUtf8")
    ∷ (33, codes "UnknownFeature")
    ∷ (40, codes "BlockWire")
    ∷ (41, codes "NoStringTable")
    ∷ (42, codes "TextNotUtf8")
    ∷ (43, codes "TextHasNul")
    ∷ (44, codes "BadGranularity")
    ∷ (45, codes "MixedGroup")
    ∷ (46, codes "Missing")
    ∷ (47, codes "LengthsDiffer")
    ∷ (48, codes "BadIndex")
    ∷ (49, codes "SumTooLarge")
    ∷ (50, codes "OutOfRange")
    ∷ (51, codes "TagsUneven")
    ∷ (52, codes "BadMemberType")
    ∷ (65, codes "Memory")
    ∷ (72, codes "NoRoom")
    ∷ []

-- 21 has a name for each compression
abbrev pub fault_names : List (ℕ × Text)
fault_names = blob_names ++ block_names

-- of a Blob whose data is compressed, by the number of the compression
abbrev pub compressed_name : ℕ → Text
compressed_name compression =
    if compression == 1 then codes "CompressedZlib"
    else if compression == 2 then codes "CompressedLzma"
    else if compression == 3 then codes "CompressedBzip2"
    else if compression == 4 then codes "CompressedLz4"
    else if compression == 5 then codes "CompressedZstd"
    else codes "Compressed"

-- the name of the fault of this number; no text where no fault has it
abbrev pub fault_name : ℕ → ℕ → Text
fault_name number compression = if number == 21 then compressed_name compression else name_in fault_names number

-- which compression a fault of a Blob tells
abbrev pub compression_in : BlobFault → ℕ
compression_in (Compressed compression) = number_of_compression compression
compression_in _ = 0
