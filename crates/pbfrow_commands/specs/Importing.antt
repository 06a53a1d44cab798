-- What the command `import` does: to its input, its output and the store.
use Rattle.std.specs.Prelude.{◌≡◌, ◌≢◌, ◌⊎◌, ℕ, ◌+◌, ◌-◌, ◌<◌, ◌≤◌, ◌==◌, ◌&&◌, not, if◌then◌else◌, Bool, true, false, List, [], ◌∷◌, ◌++◌, length, take, drop, Option, option_map, Some, None, Result, Ok, Err}
use Rattle.pbf_frame.specs.Parts.{is_cut}
use Rattle.std.specs.Io.KnownBytes.{Consumes, IsAtEnd}
use Rattle.osm_value.specs.Sink.{Wrote}
use Rattle.std.specs.FinMap.{get}
use Rattle.osm_rows.specs.Held.{Blob, HeldMap}
use Rattle.osm_import.specs.Deliveries.{DeliveryValue}
use Rattle.osm_reading.specs.Framings.{Known}
use Rattle.osm_import.specs.Files.{AreFrames, IsFile, IsHeldOfFile, StandsAt, joined}
use Rattle.osm_import.specs.Flows.{Input, Output}
use Rattle.osm_import.specs.Step.{IsEntry, IsHeldAlready}
use Rattle.osm_import.specs.Streams.{Streams, TilesFile}
use Rattle.osm_import.specs.declared.answer.Answer.{Answer}
use Rattle.osm_import.specs.declared.stream.summary.Summary.{Summary}
use Rattle.osm_import.specs.declared.stream.fault.ImportFault.{ImportFault}
use Rattle.osm_import.specs.declared.stream.fault.ImportFault.TheVariants.{Stream, WriteFailed, Store, BlobLimit}
use Rattle.osm_import.specs.declared.stream.fault.ImportStop.{ImportStop}
use Rattle.osm_reading.specs.declared.stream.fault.Stop.{Stop}
use Rattle.osm_reading.specs.declared.stream.fault.Stop.TheVariants.{Frame, NoHeaderFirst, ReadFailed, Memory}
use Rattle.pbfrow_commands.specs.CommandLines.{import_stop_line, summary_line}

-- so many bytes were read
pub record Skips (count : ℕ) (old new : Known) : Type 0 where
  pub bytes : List ℕ
  pub all : length bytes ≡ count
  pub read : Consumes old new bytes

-- a read failed, or the input ended before so many bytes
abbrev pub IsShort : ℕ → Known → Known → Bool → Type 0
IsShort count old new source_failed = (source_failed ≡ true)
    ⊎ ((bytes : List ℕ) × (length bytes < count) × Consumes old new bytes × IsAtEnd new)

-- Before the last line: so many bytes were dropped, and the stream behind them was imported, which stands at an offset; or
-- they couldn't be read, which is told at the offset, and nothing else was done.
abbrev pub DropsAndImports : ℕ → ℕ → Input → Output → Type 0 → (List DeliveryValue → List Answer → Type 0) → Result Summary ImportStop → Type 0
DropsAndImports dropped at input output Same Took outcome =
    ((skipped : Known) × Skips dropped input.before skipped × Streams at 4294967295 (record input { before = skipped }) output Took outcome)
    ⊎ (IsShort dropped input.before input.after input.has_failed × (outcome ≡ Err (record { fault = Stream ReadFailed; at = at })) × (output.after ≡ output.before) × Same)

-- the line of the fault at which an import stopped; none where the output has failed
abbrev pub EndsStop : Known → Known → Bool → ℕ → ImportFault → Type 0
EndsStop listed written sink_failed at WriteFailed = written ≡ listed
EndsStop listed written sink_failed at (Stream stop) = Wrote listed (import_stop_line (Stream stop) at) written sink_failed
EndsStop listed written sink_failed at (Store fault) = Wrote listed (import_stop_line (Store fault) at) written sink_failed
EndsStop listed written sink_failed at BlobLimit = Wrote listed (import_stop_line BlobLimit at) written sink_failed

-- the last line: the counts, or the line of that fault
abbrev pub EndsLine : Known → Known → Bool → Result Summary ImportStop → Type 0
EndsLine listed written sink_failed (Ok summary) = Wrote listed (summary_line summary) written sink_failed
EndsLine listed written sink_failed (Err stop) = EndsStop listed written sink_failed stop.at stop.fault

-- 0 where every blob was stored or held and the output hasn't failed
abbrev pub import_status : Result Summary ImportStop → Bool → ℕ
import_status (Ok summary) sink_failed = if (summary.bad == 0) && (summary.refused == 0) && not sink_failed then 0 else 1
import_status (Err stop) sink_failed = 1

-- the bytes are a file that was imported with no bad blob: where nothing but entries of it was held, what is held now
-- tiles it
abbrev pub HoldsFile : (HeldMap → Type 0) → List ℕ → HeldMap → Type 0
HoldsFile holds file start = (frames : List (List ℕ)) × IsFile file frames × (IsHeldOfFile frames start → TilesFile holds file frames)

-- ---- how much of an input is read

-- Of known bytes those that an import reads, which drops so many first and whose next byte stands at the offset `at`: all, or
-- as far as the offset `to`.
abbrev pub front_of : ℕ → ℕ → Option ℕ → Known → Known
front_of dropped at None bytes = bytes
front_of dropped at (Some to) bytes = option_map (take (dropped + (to - at))) bytes

-- and those that it imports: what it reads behind the dropped
abbrev pub imported_of : ℕ → ℕ → Option ℕ → List ℕ → List ℕ
imported_of dropped at None bytes = drop dropped bytes
imported_of dropped at (Some to) bytes = take (to - at) (drop dropped bytes)

-- frames end so where their input ends too early
abbrev pub ends_frames : Stop → Bool
ends_frames (Frame fault) = is_cut fault
ends_frames NoHeaderFirst = true
ends_frames ReadFailed = false
ends_frames Memory = false

-- an import stops with this fault where its input ends too early
abbrev pub ends_input : ImportFault → Bool
ends_input (Stream stop) = ends_frames stop
ends_input WriteFailed = false
ends_input (Store fault) = false
ends_input BlobLimit = false

-- a read failed, at the offset `to` or before it
abbrev pub EndsBefore : ℕ → Result Summary ImportStop → Type 0
EndsBefore to told = (at : ℕ) × (at ≤ to) × (told ≡ Err (record { fault = Stream ReadFailed; at = at }))

-- What is told of an import: what it came to. Where its input has to reach the offset `to`: that it ended well only where its
-- last frame ends there; and where it ended early that a read failed.
abbrev pub IsTold : Option ℕ → Result Summary ImportStop → Result Summary ImportStop → Type 0
IsTold None outcome told = told ≡ outcome
IsTold (Some to) (Ok summary) told = ((summary.next ≡ to) × (told ≡ Ok summary)) ⊎ ((summary.next ≢ to) × EndsBefore to told)
IsTold (Some to) (Err stop) told = (told ≡ Err stop) ⊎ ((ends_input stop.fault ≡ true) × EndsBefore to told)

-- The import of what is read of an input that has these bytes, and what is told of it. What is left of the input afterwards is
-- said by nobody.
pub record ImportsFront (dropped at : ℕ) (to : Option ℕ) (bytes : Known) (output : Output) (Same : Type 0) (Took : List DeliveryValue → List Answer → Type 0) (told : Result Summary ImportStop) : Type 0 where
  pub source : Input
  pub before_is : source.before ≡ front_of dropped at to bytes
  pub outcome : Result Summary ImportStop
  pub imports : DropsAndImports dropped at source output Same Took outcome
  pub is_told : IsTold to outcome told

-- The import of an input, all of it or what stands before the offset `to`: that, the last line, which comes behind what was
-- listed, and the exit status.
pub record ImportsUpTo (dropped at : ℕ) (to : Option ℕ) (bytes : Known) (output : Output) (Same : Type 0) (Took : List DeliveryValue → List Answer → Type 0) (status : ℕ) : Type 0 where
  pub told : Result Summary ImportStop
  pub listed : Known
  pub front : ImportsFront dropped at to bytes (record output { after = listed }) Same Took told
  pub line : EndsLine listed output.after output.has_failed told
  pub status_is : status ≡ import_status told output.has_failed

-- ---- what is held of a range

-- each of these frames, one behind the other from this offset on, is held at its offset, by its digest
abbrev pub AreHeld : HeldMap → ℕ → List (List ℕ) → Type 0
AreHeld held off [] = Unit {0}
AreHeld held off (frame ∷ frames) = IsHeldAlready held off frame × AreHeld held (off + length frame) frames

-- the blob is the entry of the frame that stands at the offset, of frames one behind the other from this offset on
abbrev pub IsOfFrames : ℕ → List (List ℕ) → ℕ → Blob → Type 0
IsOfFrames from frames off blob = (frame : List ℕ) × StandsAt from frames off frame × IsEntry off frame blob

-- Every byte from an offset on and before another is in a frame that is held: whole frames follow one another from the one
-- to the other, each is held at its offset, and they are what stands in the input behind the bytes that were dropped. What
-- was held before stays, and beside it nothing is held but these frames.
pub record HoldsRange (holds : HeldMap → Type 0) (before : HeldMap) (dropped from to : ℕ) (input : Known) : Type 0 where
  pub held : HeldMap
  pub is_held : holds held
  pub frames : List (List ℕ)
  pub whole : AreFrames frames
  pub reach : from + length (joined frames) ≡ to
  pub all : AreHeld held from frames
  pub kept : (off : ℕ) (blob : Blob) → get before off ≡ Some blob → get held off ≡ Some blob
  pub only : (off : ℕ) (blob : Blob) → get held off ≡ Some blob → (get before off ≡ Some blob) ⊎ IsOfFrames from frames off blob
  pub skipped : List ℕ
  pub behind : length skipped ≡ dropped
  pub rest : Known
  pub read : Consumes input rest (skipped ++ joined frames)
