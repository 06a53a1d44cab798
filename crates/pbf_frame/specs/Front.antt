-- The front of a frame, as far as it is there. OpenStreetMap Wiki, "PBF Format", "File format".
use Rattle.std.specs.Prelude.{ℕ, ◌+◌, ◌≤◌, nat_lt, List, length, Result, Ok, Err, if◌then◌else◌, ⊤}
use Rattle.pbf_wire.specs.Fault.{◌>>=◌}
use Rattle.pbf_frame.specs.declared.fault.FrameFault.{FrameFault}
use Rattle.pbf_frame.specs.declared.fault.FrameFault.TheVariants.{HeaderTooLong}
use Rattle.pbf_frame.specs.declared.front.Front.{Front}
use Rattle.pbf_frame.specs.declared.front.Front.TheVariants as fronts
use Rattle.pbf_frame.specs.Frame.{header_at, header_len, header_of}

-- the part that has begun: the length bytes; the header, with its end; the blob, with its type, start and size
pub data Begun : Type 0 where
  Length : Begun
  Header : ℕ → Begun
  Blob : List ℕ → ℕ → ℕ → Begun

abbrev pub begun : Front → Begun
begun fronts.Length = Length
begun (fronts.Header end) = Header end
begun (fronts.Blob type start size) = Blob type.now start size

-- the bounds of what is read from so many bytes
abbrev pub IsWithin : Front → ℕ → Type 0
IsWithin fronts.Length len = ⊤
IsWithin (fronts.Header end) len = end ≤ 65539
IsWithin (fronts.Blob type start size) len = (start ≤ len) × (4 ≤ start) × (start ≤ 65539) × (size ≤ 33619968)

unfoldable pub front_at : List ℕ → Result Begun FrameFault
front_at w =
    if nat_lt (length w) 4 then Ok Length
    else if nat_lt 65535 (header_len w) then Err HeaderTooLong
    else if nat_lt (length w) (4 + header_len w) then Ok (Header (4 + header_len w))
    else (header_at (header_of w) >>= λ h. Ok (Blob h.0 (4 + header_len w) h.1))
