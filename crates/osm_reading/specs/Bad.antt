-- Why a delivery isn't good: its first fault.
use Rattle.std.specs.Prelude.{◌≡◌, ◌≢◌, ◌↔◌, ℕ, ◌+◌, ◌^◌, ◌<◌, ◌≤◌, List, length, Some}
use Rattle.pbf_frame.specs.declared.kind.Kind.{Kind}
use Rattle.pbf_frame.specs.declared.kind.Kind.TheVariants.{OsmHeader, OsmData, Other}
use Rattle.pbf_frame.specs.declared.fault.FrameFault.{FrameFault}
use Rattle.pbf_frame.specs.declared.fault.FrameFault.TheVariants as frames
use Rattle.pbf_frame.specs.Frame.{Frame, FirstFault, IsFollowed, kind_of}
use Rattle.pbf_frame.specs.Blob.{Raw, IsBlobFault}
use Rattle.osm_block.specs.Phases.{fault}
use Rattle.osm_block.specs.HeaderBlock.{header_fault}
use Rattle.osm_reading.specs.Good.{IsFrame, IsPlaced}
use Rattle.osm_reading.specs.declared.fault.Fault.{Fault}
use Rattle.osm_reading.specs.declared.fault.Fault.TheVariants.{Frame as FrameFaulty, NoHeaderFirst, HeaderNotFirst, Blob, Header, Block}
use Rattle.osm_reading.specs.declared.examination.ExamineFault.{ExamineFault}
use Rattle.osm_reading.specs.declared.examination.ExamineFault.TheVariants as found

-- what the fault of a frame says of the bytes
abbrev pub IsBadFrame : ℕ → List ℕ → FrameFault → Type 0
IsBadFrame off w frames.OffsetTooLarge = IsFrame w × (2 ^ 62 < off + length w)
IsBadFrame off w frames.Trailing = IsFollowed w
IsBadFrame off w fault = FirstFault fault w

-- The first fault of a delivery. In each case the ones before don't stand: first the frame's, then where it ends,
-- then whether it is where an OSMHeader may be, then its Blob's, and then those of the header block or the block.
abbrev pub IsBad : ℕ → List ℕ → Fault → Type 0
IsBad off w (FrameFaulty fault) = IsBadFrame off w fault
IsBad off w NoHeaderFirst = (type blob : List ℕ) × Frame type blob w × (off + length w ≤ 2 ^ 62) × (off ≡ 0) × (kind_of type ≢ OsmHeader)
IsBad off w HeaderNotFirst = (type blob : List ℕ) × Frame type blob w × (off + length w ≤ 2 ^ 62) × (off ≢ 0) × (kind_of type ≡ OsmHeader)
IsBad off w (Blob fault) = (type blob : List ℕ) × IsPlaced off type blob w × (kind_of type ≢ Other) × IsBlobFault fault blob
IsBad off w (Header found) = (type blob block : List ℕ) × IsPlaced off type blob w × (kind_of type ≡ OsmHeader) × Raw blob block × (header_fault block ≡ Some found)
IsBad off w (Block found) = (type blob block : List ℕ) × IsPlaced off type blob w × (kind_of type ≡ OsmData) × Raw blob block × (fault block ≡ Some found)

-- what an examination says that finds no good delivery
abbrev pub IsFinding : ℕ → List ℕ → ExamineFault → Type 0
IsFinding off w (found.Bad fault) = IsBad off w fault
IsFinding off w found.Memory = Unit {0}

-- a frame of that kind and length may stand there
abbrev pub CanStand : ℕ → Kind → ℕ → Type 0
CanStand off kind len = (off + len ≤ 2 ^ 62) × ((off ≡ 0) ↔ (kind ≡ OsmHeader))

-- why it may not
abbrev pub IsMisplaced : ℕ → Kind → ℕ → Fault → Type 0
IsMisplaced off kind len (FrameFaulty frames.OffsetTooLarge) = 2 ^ 62 < off + len
IsMisplaced off kind len NoHeaderFirst = (off + len ≤ 2 ^ 62) × (off ≡ 0) × (kind ≢ OsmHeader)
IsMisplaced off kind len HeaderNotFirst = (off + len ≤ 2 ^ 62) × (off ≢ 0) × (kind ≡ OsmHeader)
IsMisplaced off kind len _ = ⊥

-- the first fault of a blob of that kind
abbrev pub IsBadBlob : Kind → List ℕ → Fault → Type 0
IsBadBlob kind blob (Blob fault) = (kind ≢ Other) × IsBlobFault fault blob
IsBadBlob kind blob (Header found) = (block : List ℕ) × (kind ≡ OsmHeader) × Raw blob block × (header_fault block ≡ Some found)
IsBadBlob kind blob (Block found) = (block : List ℕ) × (kind ≡ OsmData) × Raw blob block × (fault block ≡ Some found)
IsBadBlob kind blob _ = ⊥

-- what the reading of such a blob says
abbrev pub IsBlobFinding : Kind → List ℕ → ExamineFault → Type 0
IsBlobFinding kind blob (found.Bad fault) = IsBadBlob kind blob fault
IsBlobFinding kind blob found.Memory = Unit {0}
