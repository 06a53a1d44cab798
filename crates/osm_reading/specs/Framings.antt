-- What a framer takes of an input, and when it takes no more.
use Rattle.std.specs.Prelude.{◌≡◌, ◌⊎◌, ℕ, ◌<◌, Bool, List, [], ◌++◌, length, Option, true}
use Rattle.std.specs.Io.KnownBytes.{Consumes}
use Rattle.pbf_frame.specs.declared.fault.FrameFault.{FrameFault}
use Rattle.pbf_frame.specs.Framer.{Framing, FrameWaits, FaultStands}
use Rattle.osm_reading.specs.declared.stream.fault.Stop.{Stop}
use Rattle.osm_reading.specs.declared.stream.fault.Stop.TheVariants.{ReadFailed, Memory}

-- what a reader has left, or what a writer holds, where it tells it
abbrev pub Known : Type 0
Known = Option (List ℕ)

-- the framer takes no more: a frame waits or a fault applies
abbrev pub IsFull : Framing → Type 0
IsFull f = FrameWaits f ⊎ ((fault : FrameFault) × FaultStands fault f)

-- No front of these bytes, which stand at this offset, is a whole frame or has a fault that stands.
abbrev pub HasNoFrame : ℕ → List ℕ → Type 0
HasNoFrame offset bytes = (front more : List ℕ) → bytes ≡ front ++ more → IsFull (record { offset = offset; rest = front; lent = [] }) → ⊥

-- Some front of these bytes is a whole frame, or has a fault that stands.
abbrev pub HasFull : ℕ → List ℕ → Type 0
HasFull offset bytes = (front more : List ℕ) × (bytes ≡ front ++ more) × IsFull (record { offset = offset; rest = front; lent = [] })

-- No frame ends, and no fault applies, before the end of what the framer holds.
abbrev pub IsBegun : Framing → Type 0
IsBegun f = (front more : List ℕ) → f.rest ≡ front ++ more → 0 < length more → IsFull (record { offset = f.offset; rest = front; lent = [] }) → ⊥

-- the framer's rest grew by the bytes that the input lost
abbrev pub Moved : Framing → Framing → Known → Known → Type 0
Moved f g before after = (x : List ℕ) × (g.offset ≡ f.offset) × (g.rest ≡ f.rest ++ x) × Consumes before after x

-- why a piece isn't read: a read failed, or memory was refused
abbrev pub ReadHasCause : Bool → Stop → Type 0
ReadHasCause failed ReadFailed = failed ≡ true
ReadHasCause failed Memory = Unit {0}
ReadHasCause failed _ = ⊥
