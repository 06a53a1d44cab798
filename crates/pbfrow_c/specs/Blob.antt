-- What is told of a blob. OpenStreetMap Wiki, "PBF Format", "File format"; fileformat.proto, Blob.
use Rattle.std.specs.Prelude.{◌≡◌, ℕ, ◌+◌, ◌-◌, ◌≤◌, ◌==◌, nat_lt, List, length, take, drop, cond, Option, Some, None, Result, Ok, Err, if◌then◌else◌, unwrap_or}
use Rattle.pbf_wire.specs.Fault.{◌>>=◌}
use Rattle.pbf_wire.specs.Field.{Entry}
use Rattle.pbf_wire.specs.Readings.{bytes_of, last, last_bytes}
use Rattle.pbf_frame.specs.declared.kind.Kind.{Kind}
use Rattle.pbf_frame.specs.declared.kind.Kind.TheVariants.{OsmHeader, OsmData, Other}
use Rattle.pbf_frame.specs.declared.fault.FrameFault.{FrameFault}
use Rattle.pbf_frame.specs.declared.fault.FrameFault.TheVariants.{OffsetTooLarge}
use Rattle.pbf_frame.specs.declared.blob.BlobFault.{BlobFault}
use Rattle.pbf_frame.specs.declared.blob.BlobFault.TheVariants.{Compressed}
use Rattle.pbf_frame.specs.declared.blob.Compression.{Compression}
use Rattle.pbf_frame.specs.declared.blob.Compression.TheVariants.{Zlib, Lzma, Bzip2, Lz4, Zstd}
use Rattle.pbf_frame.specs.declared.part.TheConstants.{MAX_OFFSET}
use Rattle.pbf_frame.specs.Fault.{number_of, blob_number_of}
use Rattle.pbf_frame.specs.Frame.{Found, frame_at}
use Rattle.pbf_frame.specs.Blob.{raw_at}
use Rattle.pbfrow_c.specs.declared.blob.BlobAt.{BlobAt}
use Rattle.pbfrow_c.specs.declared.blob.Payload.{Payload}
use Rattle.pbfrow_c.specs.declared.blob.Place.{Place}
use Rattle.pbfrow_c.specs.declared.blob.TheConstants.{NO_PAYLOAD}

-- the number that is told of a blob's kind
abbrev pub number_of_kind : Kind → ℕ
number_of_kind OsmHeader = 0
number_of_kind OsmData = 1
number_of_kind Other = 2

abbrev pub number_of_compression : Compression → ℕ
number_of_compression Zlib = 1
number_of_compression Lzma = 2
number_of_compression Bzip2 = 3
number_of_compression Lz4 = 4
number_of_compression Zstd = 5

-- the field of a Blob with the data that is compressed so
abbrev pub field_of : Compression → ℕ
field_of Zlib = 3
field_of Lzma = 4
field_of Bzip2 = 5
field_of Lz4 = 6
field_of Zstd = 7

-- ---- what is found

-- the frame at the front of w, which stands at this offset of its file: it ends at 2^62 at most
abbrev pub frame_from : ℕ → List ℕ → Result Found FrameFault
frame_from offset w = frame_at w >>= λ f. if nat_lt MAX_OFFSET (offset + f.len) then Err OffsetTooLarge else Ok f

-- a blob that may not stand where it does; one of a type whose payload isn't known; and what a blob holds
pub data Finding : Type 0 where
  NoHeaderFirst : Finding
  HeaderNotFirst : Finding
  Unread : Finding
  Read : Result (List ℕ) BlobFault → Finding

-- A file begins with an OSMHeader, and has no other.
abbrev pub finding_at : ℕ → Kind → List ℕ → Finding
finding_at offset OsmHeader blob = if offset == 0 then Read (raw_at blob) else HeaderNotFirst
finding_at offset OsmData blob = if offset == 0 then NoHeaderFirst else Read (raw_at blob)
finding_at offset Other blob = if offset == 0 then NoHeaderFirst else Unread

-- ---- what is answered

abbrev pub status_of : Finding → ℕ
status_of NoHeaderFirst = 61
status_of HeaderNotFirst = 62
status_of Unread = 0
status_of (Read (Ok raw)) = 0
status_of (Read (Err fault)) = blob_number_of fault

abbrev pub status_of_frame : ℕ → Result Found FrameFault → ℕ
status_of_frame offset (Ok f) = status_of (finding_at offset f.kind f.blob)
status_of_frame offset (Err fault) = number_of fault

-- What is answered of the blob whose frame begins w at this offset of a file: the number of the first fault that applies, or 0.
abbrev pub status_at : ℕ → List ℕ → ℕ
status_at offset w = status_of_frame offset (frame_from offset w)

-- ---- what is told of the payload

-- so many bytes of w, from this place on
abbrev pub span : ℕ → ℕ → List ℕ → List ℕ
span at len w = take len (drop at w)

-- where these bytes lie in the frame
pub record LiesAt (p : Payload) (bytes frame : List ℕ) : Type 0 where
  pub within : p.at + p.length ≤ length frame
  pub bytes_are : span p.at p.length frame ≡ bytes

-- The raw payload; or the compressed one, which is the last field with data of the compression that is answered, and
-- the last raw_size. fs are the fields of the Blob.
abbrev pub TellsPayload : Finding → List Entry → List ℕ → Payload → Type 0
TellsPayload (Read (Ok raw)) fs frame p = LiesAt p raw frame × (p.raw_size ≡ 0) × (p.compression ≡ 0)
TellsPayload (Read (Err (Compressed c))) fs frame p = (bytes : List ℕ) × (last_bytes fs (field_of c) ≡ Some bytes) × LiesAt p bytes frame
    × (p.raw_size ≡ unwrap_or (last fs 2) 0) × (p.compression ≡ number_of_compression c)
TellsPayload _ fs frame p = p ≡ NO_PAYLOAD

-- the payload that a caller is told
abbrev pub payload_in : BlobAt → Payload
payload_in b = record { at = b.payload_at; length = b.payload_length; raw_size = b.raw_size; compression = b.compression }

-- ---- how the program looks for it

-- where the bytes of a field lie that ends here, if it is one of that number; else the place before
abbrev pub place_or : ℕ → Option (List ℕ) → Option Place → Option Place
place_or end (Some bytes) before = Some (record { at = end - length bytes; length = length bytes })
place_or end None before = before

abbrev pub later_place : Entry → ℕ → ℕ → Option Place → Option Place
later_place e end number before = place_or end (cond (e.number == number) (bytes_of e.content) None) before
