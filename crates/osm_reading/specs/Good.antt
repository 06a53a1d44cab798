-- What a good delivery is (fileformat.proto; OpenStreetMap Wiki, "PBF Format": the first blob of a file is its OSMHeader).
use Rattle.std.specs.Prelude.{◌≡◌, ◌↔◌, ℕ, ◌+◌, ◌^◌, ◌≤◌, List, [], length, Option, Some, None}
use Rattle.osm_value.specs.declared.element.Element.{Element}
use Rattle.pbf_frame.specs.declared.kind.Kind.{Kind}
use Rattle.pbf_frame.specs.declared.kind.Kind.TheVariants.{OsmHeader, OsmData, Other}
use Rattle.pbf_frame.specs.Frame.{Frame, kind_of}
use Rattle.pbf_frame.specs.Blob.{Raw}
use Rattle.osm_block.specs.Block.{Block}
use Rattle.osm_block.specs.HeaderBlock.{HeaderValue, header_fault, header_value}
use Rattle.pbf_wire.specs.Readings.{fields}

-- one whole frame, and nothing behind it
abbrev pub IsFrame : List ℕ → Type 0
IsFrame w = (type blob : List ℕ) × Frame type blob w

-- a whole frame that ends at 2^62 at most, and stands at 0 exactly where it is an OSMHeader
pub record IsPlaced (off : ℕ) (type blob w : List ℕ) : Type 0 where
  pub frame : Frame type blob w
  pub limit : off + length w ≤ 2 ^ 62
  pub header_first : (off ≡ 0) ↔ (kind_of type ≡ OsmHeader)

-- the elements of a blob of that kind: those of an OSMData's block; none of an OSMHeader, whose header block
-- has no fault; and none of another kind, whose blob isn't read
abbrev pub HasElements : Kind → List ℕ → List Element → Type 0
HasElements OsmData blob es = (block : List ℕ) × Raw blob block × Block es block
HasElements OsmHeader blob es = (block : List ℕ) × Raw blob block × (header_fault block ≡ None) × (es ≡ [])
HasElements Other blob es = es ≡ []

-- the header block of a blob of that kind: the one that an OSMHeader holds, and none of another kind
abbrev pub HasHeader : Kind → List ℕ → Option HeaderValue → Type 0
HasHeader OsmHeader blob header = (block : List ℕ) × Raw blob block × (header ≡ Some (header_value (fields block)))
HasHeader OsmData blob header = header ≡ None
HasHeader Other blob header = header ≡ None

-- the bytes at this offset are a good delivery of that kind, with these elements
pub record IsGood (off : ℕ) (w : List ℕ) (kind : Kind) (es : List Element) : Type 0 where
  pub type_name : List ℕ
  pub blob : List ℕ
  pub placed : IsPlaced off type_name blob w
  pub kind_is : kind ≡ kind_of type_name
  pub content : HasElements kind blob es
