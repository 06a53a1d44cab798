-- What the import of a stream does: to its input, its output and the store.
use Rattle.std.specs.Prelude.{◌≡◌, ◌≢◌, ◌⊎◌, ℕ, ◌+◌, ◌^◌, ◌==◌, ◌&&◌, if◌then◌else◌, ◌<◌, ◌≤◌, Bool, true, false, List, [], ◌∷◌, ◌++◌, length, Result, Ok, Err}
use Rattle.std.specs.List.{count_by}
use Rattle.std.specs.Io.KnownBytes.{Appends, Consumes, IsAtEnd, prepend_known}
use Rattle.pbf_frame.specs.Framer.{FaultStands, IsUnfinished}
use Rattle.osm_value.specs.Sink.{AppendsFront}
use Rattle.osm_rows.specs.Held.{HeldMap}
use Rattle.osm_import.specs.Files.{AreFrames, joined, IsFile, IsHeldOfFile}
use Rattle.osm_import.specs.Gaps.{Tiles}
use Rattle.osm_import.specs.Deliveries.{DeliveryValue}
use Rattle.osm_import.specs.Flows.{Input, Output}
use Rattle.osm_import.specs.Runs.{IsFault, IsNone}
use Rattle.osm_import.specs.Lines.{told_line}
use Rattle.osm_reading.specs.Framings.{HasNoFrame}
use Rattle.osm_import.specs.declared.answer.Answer.{Answer}
use Rattle.osm_import.specs.declared.answer.Answer.TheVariants as answers
use Rattle.osm_import.specs.declared.stream.summary.Summary.{Summary}
use Rattle.osm_import.specs.declared.stream.fault.ImportFault.{ImportFault}
use Rattle.osm_import.specs.declared.stream.fault.ImportFault.TheVariants.{Stream, WriteFailed, Store, BlobLimit}
use Rattle.osm_reading.specs.declared.stream.fault.Stop.TheVariants.{Frame, NoHeaderFirst, ReadFailed, Memory}
use Rattle.osm_import.specs.declared.stream.fault.ImportStop.{ImportStop}

-- ---- frames and their answers

-- a whole frame, and what it was answered with
abbrev pub Reply : Type 0
Reply = List ℕ × Answer

abbrev pub frames_of : List Reply → List (List ℕ)
frames_of [] = []
frames_of (reply ∷ replies) = reply.0 ∷ frames_of replies

abbrev pub answers_of : List Reply → List Answer
answers_of [] = []
answers_of (reply ∷ replies) = reply.1 ∷ answers_of replies

-- the frames as deliveries, one behind the other from this offset on
abbrev pub deliveries_at : ℕ → List Reply → List DeliveryValue
deliveries_at off [] = []
deliveries_at off (reply ∷ replies) = record { off = off; bytes = reply.0 } ∷ deliveries_at (off + length reply.0) replies

-- the lines of those answers that are told
abbrev pub lines_at : (Answer → Bool) → ℕ → List Reply → List ℕ
lines_at tells off [] = []
lines_at tells off (reply ∷ replies) = told_line tells off reply.1 ++ lines_at tells (off + length reply.0) replies

-- the offset behind them
abbrev pub end_at : ℕ → List Reply → ℕ
end_at off [] = off
end_at off (reply ∷ replies) = end_at (off + length reply.0) replies

abbrev pub is_stored : Answer → Bool
is_stored (answers.Stored count) = true
is_stored _ = false

abbrev pub is_held : Answer → Bool
is_held answers.AlreadyHeld = true
is_held _ = false

abbrev pub is_bad : Answer → Bool
is_bad (answers.Bad fault) = true
is_bad _ = false

abbrev pub is_refused : Answer → Bool
is_refused (answers.Refused conflict) = true
is_refused _ = false

-- how many blobs were answered with each, and the offset behind the last
abbrev pub summary_of : List Answer → ℕ → Summary
summary_of replies next =
    record { stored = count_by is_stored replies; held = count_by is_held replies; bad = count_by is_bad replies; refused = count_by is_refused replies; next = next }

-- no count is at its end
pub record HasRoom (s : Summary) : Type 0 where
  pub stored : s.stored < 2 ^ 63
  pub held : s.held < 2 ^ 63
  pub bad : s.bad < 2 ^ 63
  pub refused : s.refused < 2 ^ 63

-- what is said at the end of an input that stood at `from` at its start
abbrev pub ended_at : ℕ → Summary → Result Summary ImportStop
ended_at from summary = if from == 0 && summary.next == 0 then Err (record { fault = Stream NoHeaderFirst; at = 0 }) else Ok summary

-- ---- how the import of a stream ends

-- All frames of the input were answered: nothing is left of it.
pub record EndsWell (from limit : ℕ) (input : Input) (output : Output) (Took : List DeliveryValue → List Answer → Type 0) (summary : Summary) : Type 0 where
  pub replies : List Reply
  pub frames : AreFrames (frames_of replies)
  pub took : Took (deliveries_at from replies) (answers_of replies)
  pub answered : IsNone IsFault (answers_of replies)
  pub few : length replies ≤ limit
  pub read : Consumes input.before input.after (joined (frames_of replies))
  pub ended : IsAtEnd input.after
  pub lines : Appends output.before output.after (lines_at output.tells from replies)
  pub sums : summary ≡ summary_of (answers_of replies) (end_at from replies)
  pub some : from ≡ 0 → replies ≢ []

-- Why it stopped behind these answered frames, with this frame being delivered if there is one, and these bytes read behind it.
abbrev pub IsStop : ℕ → ℕ → Input → Output → List Reply → List Reply → List ℕ → ImportFault → Type 0
IsStop from limit input output replies last rest (Stream (Frame fault)) =
    (last ≡ []) × Appends output.before output.after (lines_at output.tells from replies)
    × ((got more lent : List ℕ) × (rest ≡ got ++ more) × (FaultStands fault (record { offset = end_at from replies; rest = got; lent = lent })
    ⊎ (IsUnfinished fault (record { offset = end_at from replies; rest = got; lent = lent }) × IsAtEnd (prepend_known more input.after))))
IsStop from limit input output replies last rest (Stream NoHeaderFirst) =
    (last ≡ []) × (from ≡ 0) × (replies ≡ []) × (rest ≡ []) × IsAtEnd input.after × Appends output.before output.after []
IsStop from limit input output replies last rest (Stream ReadFailed) =
    (input.has_failed ≡ true) × (last ≡ []) × Appends output.before output.after (lines_at output.tells from replies) × HasNoFrame (end_at from replies) rest
IsStop from limit input output replies last rest (Stream Memory) =
    (last ≡ []) × Appends output.before output.after (lines_at output.tells from replies)
IsStop from limit input output replies last rest WriteFailed =
    (output.has_failed ≡ true) × (length last ≡ 1) × IsNone IsFault (answers_of last) × AppendsFront output.before output.after (lines_at output.tells from (replies ++ last))
IsStop from limit input output replies last rest (Store fault) =
    Appends output.before output.after (lines_at output.tells from replies) × (answers_of last ≡ answers.Fault fault ∷ [])
IsStop from limit input output replies last rest BlobLimit =
    (last ≡ []) × (length replies ≡ limit) × (0 < length rest) × Appends output.before output.after (lines_at output.tells from replies)

pub record Stops (from limit : ℕ) (input : Input) (output : Output) (Took : List DeliveryValue → List Answer → Type 0) (stop : ImportStop) : Type 0 where
  pub replies : List Reply
  pub last : List Reply
  pub rest : List ℕ
  pub frames : AreFrames (frames_of (replies ++ last))
  pub took : Took (deliveries_at from (replies ++ last)) (answers_of (replies ++ last))
  pub answered : IsNone IsFault (answers_of replies)
  pub few : length (replies ++ last) ≤ limit
  pub stands : stop.at ≡ end_at from replies
  pub read : Consumes input.before input.after (joined (frames_of (replies ++ last)) ++ rest)
  pub why : IsStop from limit input output replies last rest stop.fault

-- An import of a stream has read its input to the end, or stopped for a cause, and took each frame before in turn.
abbrev pub Streams : ℕ → ℕ → Input → Output → (List DeliveryValue → List Answer → Type 0) → Result Summary ImportStop → Type 0
Streams from limit input output Took (Ok summary) = EndsWell from limit input output Took summary
Streams from limit input output Took (Err stop) = Stops from limit input output Took stop

-- what is held is of the file alone, and tiles it
abbrev pub TilesFile : (HeldMap → Type 0) → List ℕ → List (List ℕ) → Type 0
TilesFile holds file frames = (held : HeldMap) × holds held × Tiles held (length file) × IsHeldOfFile frames held

-- the bytes are a file; and where nothing but entries of it was held and no blob was bad, what is held now tiles it
abbrev pub ImportsFile : (HeldMap → Type 0) → List ℕ → HeldMap → Summary → Type 0
ImportsFile holds file start summary = (frames : List (List ℕ)) × IsFile file frames × (IsHeldOfFile frames start → summary.bad ≡ 0 → TilesFile holds file frames)
