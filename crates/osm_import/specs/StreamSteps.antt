-- What reading and delivering one frame of a stream does.
use Rattle.std.specs.Prelude.{◌≡◌, ◌⊎◌, ℕ, ◌+◌, ◌≤◌, true, List, [], length, Option, Some, None, Result, Ok, Err}
use Rattle.std.specs.Io.KnownBytes.{Appends, Consumes, IsAtEnd}
use Rattle.pbf_frame.specs.declared.fault.FrameFault.{FrameFault}
use Rattle.pbf_frame.specs.Framer.{Framing, FrameWaits, FaultStands, IsUnfinished, waiting}
use Rattle.osm_value.specs.Sink.{AppendsFront}
use Rattle.osm_reading.specs.Good.{IsFrame}
use Rattle.osm_import.specs.Flows.{Input, Output}
use Rattle.osm_import.specs.Runs.{IsFault}
use Rattle.osm_import.specs.Lines.{told_line}
use Rattle.osm_import.specs.declared.answer.Answer.{Answer}
use Rattle.osm_import.specs.declared.answer.Answer.TheVariants as answers
use Rattle.osm_import.specs.declared.stream.run.Delivered.{Delivered}
use Rattle.osm_import.specs.declared.stream.fault.ImportFault.{ImportFault}
use Rattle.osm_import.specs.declared.stream.fault.ImportFault.TheVariants.{Stream, WriteFailed, Store, BlobLimit}
use Rattle.osm_reading.specs.declared.stream.fault.Stop.TheVariants.{Frame, NoHeaderFirst, ReadFailed, Memory}
use Rattle.osm_reading.specs.Framings.{HasNoFrame}

-- what the call for the frame that waits has given
abbrev pub Gave : Framing → Framing → Type 0 → (ℕ → List ℕ → Answer → Type 0) → Result (Option Delivered) FrameFault → Type 0
Gave f g Same Took (Ok (Some blob)) = FrameWaits f × (blob.off ≡ f.offset) × (blob.fin ≡ f.offset + length f.rest) × (g.offset ≡ f.offset + length f.rest) × (g.rest ≡ []) × Took f.offset f.rest blob.answer
Gave f g Same Took (Ok None) = (waiting f ≡ Ok None) × (g.offset ≡ f.offset) × (g.rest ≡ f.rest) × Same
Gave f g Same Took (Err fault) = FaultStands fault f × Same

-- one frame was read and answered, and its line written where it is told
pub record FrameAnswered (f g : Framing) (input : Input) (output : Output) (Took : ℕ → List ℕ → Answer → Type 0) (blob : Delivered) : Type 0 where
  pub frame : List ℕ
  pub whole : IsFrame frame
  pub fits : f.offset + length frame ≤ 4611686018427387904
  pub ends : blob.fin ≡ f.offset + length frame
  pub moved : g.offset ≡ f.offset + length frame
  pub empty : g.rest ≡ []
  pub read : Consumes input.before input.after frame
  pub took : Took f.offset frame blob.answer
  pub answered : ¬ (IsFault blob.answer)
  pub line : Appends output.before output.after (told_line output.tells f.offset blob.answer)

-- the frame at which it stopped
abbrev pub FrameStop : Framing → Input → Output → Type 0 → (ℕ → List ℕ → Answer → Type 0) → ImportFault → Type 0
FrameStop f input output Same Took (Stream (Frame fault)) =
    (output.after ≡ output.before) × Same × ((got lent : List ℕ) × Consumes input.before input.after got
    × (FaultStands fault (record { offset = f.offset; rest = got; lent = lent }) ⊎ (IsUnfinished fault (record { offset = f.offset; rest = got; lent = lent }) × IsAtEnd input.after)))
FrameStop f input output Same Took (Stream ReadFailed) =
    (output.after ≡ output.before) × Same × (input.has_failed ≡ true) × ((got : List ℕ) × Consumes input.before input.after got × HasNoFrame f.offset got)
FrameStop f input output Same Took (Stream Memory) =
    (output.after ≡ output.before) × Same × ((got : List ℕ) × Consumes input.before input.after got)
FrameStop f input output Same Took (Stream NoHeaderFirst) = ⊥
FrameStop f input output Same Took (Store fault) =
    (output.after ≡ output.before) × ((frame : List ℕ) × IsFrame frame × Consumes input.before input.after frame × Took f.offset frame (answers.Fault fault))
FrameStop f input output Same Took WriteFailed =
    (output.has_failed ≡ true) × ((frame : List ℕ) × (answer : Answer) × IsFrame frame × Consumes input.before input.after frame × Took f.offset frame answer × ¬ (IsFault answer)
    × AppendsFront output.before output.after (told_line output.tells f.offset answer))
FrameStop f input output Same Took BlobLimit = ⊥

-- what the call for the next frame has done; it gives none where the input has ended
abbrev pub FrameStep : Framing → Framing → Input → Output → Type 0 → (ℕ → List ℕ → Answer → Type 0) → Result (Option Delivered) ImportFault → Type 0
FrameStep f g input output Same Took (Ok (Some blob)) = FrameAnswered f g input output Took blob
FrameStep f g input output Same Took (Ok None) = Consumes input.before input.after [] × IsAtEnd input.after × (output.after ≡ output.before) × Same
FrameStep f g input output Same Took (Err fault) = FrameStop f input output Same Took fault
