-- A reader of frames: what it has before it, and what its calls make of that.
use Rattle.std.specs.Prelude.{◌≡◌, ◌⊎◌, ℕ, ◌+◌, ◌<◌, ◌≤◌, Bool, true, List, [], length, Option, Some, None, Result, Ok, Err}
use Rattle.std.specs.Borrow.{Bor}
use Rattle.std.specs.Io.KnownBytes.{Consumes, IsAtEnd, Keeps, prepend_known}
use Rattle.pbf_frame.specs.Framer.{Framing, FrameWaits, FaultStands, IsUnfinished}
use Rattle.osm_reading.specs.Good.{IsFrame}
use Rattle.osm_reading.specs.Framings.{Known, IsFull, HasFull, HasNoFrame}
use Rattle.osm_reading.specs.declared.stream.fault.Stop.{Stop}
use Rattle.osm_reading.specs.declared.stream.fault.Stop.TheVariants.{Frame, ReadFailed, Memory}
use Rattle.osm_reading.specs.declared.stream.fault.StreamFault.{StreamFault}

-- ---- a framer that was fed from an input

-- A frame waits; or nothing is held, and no byte is left.
abbrev pub HasFrame : Framing → Known → Type 0
HasFrame f left = FrameWaits f ⊎ ((f.rest ≡ []) × IsAtEnd left)

-- Why no frame waits: a fault applies, or the input ended inside a frame; a read failed, with no frame and no fault in
-- what was read; or memory was refused.
abbrev pub LacksFrame : Framing → Known → Bool → Stop → Type 0
LacksFrame f left failed (Frame fault) = FaultStands fault f ⊎ (IsUnfinished fault f × IsAtEnd left)
LacksFrame f left failed ReadFailed = (failed ≡ true) × (IsFull f → ⊥)
LacksFrame f left failed Memory = Unit {0}
LacksFrame f left failed _ = ⊥

-- ---- a reader of frames

-- the offset of the next frame, the bytes from there on, where they are known, and whether a read failed; and of those
-- bytes the ones that were read already, and what the source has behind them
pub record Reading : Type 0 where
  pub offset : ℕ
  pub left : Known
  pub has_failed : Bool
  pub read : List ℕ
  pub behind : Known

-- what is left is what was read and what the source has
abbrev pub IsParted : Reading → Type 0
IsParted r = r.left ≡ prepend_known r.read r.behind

-- the framing of bytes that stand at an offset
abbrev pub framing_of : ℕ → List ℕ → Framing
framing_of offset bytes = record { offset = offset; rest = bytes; lent = [] }

-- A whole frame was read, or a fault applies to what was read.
abbrev pub IsReady : Reading → Type 0
IsReady r = HasFull r.offset r.read

-- Where that is so, the source isn't asked: it has what it had.
abbrev pub AsksLate : Reading → Reading → Type 0
AsksLate old new = IsReady old → new.behind ≡ old.behind

-- The next bytes are a whole frame, which ends at 2^62 at most.
pub record GivesFrame (old new : Reading) (at : ℕ) (frame : List ℕ) : Type 0 where
  pub here : at ≡ old.offset
  pub whole : IsFrame frame
  pub some : 0 < length frame
  pub next : new.offset ≡ at + length frame
  pub limit : new.offset ≤ 4611686018427387904
  pub read : Consumes old.left new.left frame
  pub parted : IsParted new
  pub late : AsksLate old new

-- Why no frame is given: what was read of the bytes before it has no frame; where a read failed, that is all that was read.
pub record Halts (old new : Reading) (stop : StreamFault) : Type 0 where
  pub here : stop.at ≡ old.offset
  pub next : new.offset ≡ old.offset
  pub kept : Keeps old.left new.left
  pub got : List ℕ
  pub behind : Known
  pub read : Consumes old.left behind got
  pub why : LacksFrame (framing_of old.offset got) behind new.has_failed stop.fault
  pub parted : IsParted new
  pub none : stop.fault ≡ ReadFailed → HasNoFrame new.offset new.read
  pub late : AsksLate old new

-- what the call for the next frame has done: it gives none only where no byte is left
abbrev pub ReadsFrame : Reading → Reading → Result (Option (ℕ × Bor (List ℕ))) StreamFault → Type 0
ReadsFrame old new (Ok (Some frame)) = GivesFrame old new frame.0 frame.1.now
ReadsFrame old new (Ok None) = IsAtEnd old.left × IsAtEnd new.left × (new.offset ≡ old.offset) × IsParted new × AsksLate old new
ReadsFrame old new (Err stop) = Halts old new stop
