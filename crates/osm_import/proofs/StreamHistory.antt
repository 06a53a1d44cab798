-- What a crash leaves of a stream is what comes of a history of deliveries of its file.
use Rattle.std.proofs.Common.{◌≡◌, ℕ, ◌+◌, ◌≤◌, List, [], ◌∷◌, ◌++◌, length, take, Some, None, Result, Ok, Err, refl, sym, ap, subst, ◌∙◌, inl, inr, arith, append_assoc, length-append}
use Rattle.std.proofs.lemmas.List.{take_at, append_cancel_left}
use Rattle.std.specs.Io.KnownBytes.{Consumes}
use Rattle.pbf_frame.specs.Frame.{Found, frame_at, found_at}
use Rattle.pbf_frame.specs.declared.fault.FrameFault.{FrameFault}
use Rattle.pbf_frame.proofs.FrameLaws.{frame_again}
use Rattle.osm_reading.specs.Good.{IsFrame}
use Rattle.osm_reading.specs.Framings.{Known}
use Rattle.osm_reading.proofs.GoodLaws.{frame-filled}
use Rattle.osm_import.specs.declared.stream.fault.ImportStop.{ImportStop}
use Rattle.osm_rows.specs.Held.{HeldMap}
use Rattle.osm_import.specs.Deliveries.{DeliveryValue}
use Rattle.osm_import.specs.Files.{AreFrames, AreOfFile, StandsAt, IsFrameAt, joined}
use Rattle.osm_import.specs.FileHistories.{AreEventsOf, events_of, StandIn}
use Rattle.osm_import.specs.Flows.{Input, Output}
use Rattle.osm_import.specs.Histories.{answered, IsHistory}
use Rattle.osm_import.specs.Runs.{LeavesAfter}
use Rattle.osm_import.specs.Streams.{Reply, frames_of, answers_of, deliveries_at, Streams}
use Rattle.osm_import.specs.declared.answer.Answer.{Answer}
use Rattle.osm_import.specs.declared.answer.Answer.TheVariants.{Stored, AlreadyHeld, Bad, Refused, Fault}
use Rattle.osm_import.specs.declared.stream.summary.Summary.{Summary}
use Rattle.osm_import.proofs.StreamFiles.{of-file}

-- ---- deliveries in turn

pub leaves-history : (leaves : HeldMap → Type 0) (held : HeldMap) (ds : List DeliveryValue) (rs : List Answer) → LeavesAfter leaves held ds rs
    → (left : HeldMap) → leaves left → IsHistory held (events_of ds rs) left
leaves-history leaves held ds [] crash left it = crash left it
leaves-history leaves held [] (a ∷ rs) crash left it = absurd crash
leaves-history leaves held (d ∷ ds) (Fault fault ∷ rs) crash left it = (left, crash left it, refl)
leaves-history leaves held (d ∷ ds) (Stored count ∷ rs) crash left it = (crash.0, (crash.1, λ h. h), leaves-history leaves crash.0 ds rs crash.2 left it)
leaves-history leaves held (d ∷ ds) (AlreadyHeld ∷ rs) crash left it = (crash.0, (crash.1, λ h. h), leaves-history leaves crash.0 ds rs crash.2 left it)
leaves-history leaves held (d ∷ ds) (Bad fault ∷ rs) crash left it = (crash.0, (crash.1, λ h. h), leaves-history leaves crash.0 ds rs crash.2 left it)
leaves-history leaves held (d ∷ ds) (Refused conflict ∷ rs) crash left it = (crash.0, (crash.1, λ h. h), leaves-history leaves crash.0 ds rs crash.2 left it)

pub events-of_file : (frames : List (List ℕ)) (ds : List DeliveryValue) (rs : List Answer) → AreOfFile frames ds → AreEventsOf frames (events_of ds rs)
events-of_file frames ds [] of = tt
events-of_file frames [] (a ∷ rs) of = tt
events-of_file frames (d ∷ ds) (Fault fault ∷ rs) of = (of.0, tt)
events-of_file frames (d ∷ ds) (Stored count ∷ rs) of = (of.0, events-of_file frames ds rs of.1)
events-of_file frames (d ∷ ds) (AlreadyHeld ∷ rs) of = (of.0, events-of_file frames ds rs of.1)
events-of_file frames (d ∷ ds) (Bad fault ∷ rs) of = (of.0, events-of_file frames ds rs of.1)
events-of_file frames (d ∷ ds) (Refused conflict ∷ rs) of = (of.0, events-of_file frames ds rs of.1)

-- ---- the frames that were read are those that stand there

abbrev read_as : Found → Result Found FrameFault
read_as f = Ok f

front-one : (a b x y : List ℕ) → IsFrame a → IsFrame b → a ++ x ≡ b ++ y → a ≡ b
front-one a b x y f g same =
    let one : read_as (found_at f.0 f.1 (length a)) ≡ read_as (found_at g.0 g.1 (length b)) = sym (frame_again f.0 f.1 a x f.2) ∙ ap frame_at same ∙ frame_again g.0 g.1 b y g.2 in
    let is : found_at f.0 f.1 (length a) ≡ found_at g.0 g.1 (length b) = cc in
    let long : length a ≡ length b = ap (λ (f : Found). f.len) is in
    sym (take_at a x (length b) long) ∙ ap (take (length b)) same ∙ take_at b y (length b) refl

frames-front : (gs fs : List (List ℕ)) (x : List ℕ) → AreFrames gs → AreFrames fs → joined gs ++ x ≡ joined fs → (more : List (List ℕ)) × (fs ≡ gs ++ more)
frames-front [] fs x read whole same = (fs, refl)
frames-front (g ∷ gs) [] x read whole same =
    let long : 4 ≤ length g = frame-filled read.0.0 read.0.1 g read.0.2 in
    let none : length (g ++ joined gs ++ x) ≡ 0 = ap length same in
    absurd (omega (arith, long, none, length-append (g ++ joined gs) x, length-append g (joined gs)))
frames-front (g ∷ gs) (f ∷ fs) x read whole same =
    let split : g ++ (joined gs ++ x) ≡ f ++ joined fs = sym (append_assoc g (joined gs) x) ∙ same in
    let first : g ≡ f = front-one g f (joined gs ++ x) (joined fs) read.0 whole.0 split in
    let rest : joined gs ++ x ≡ joined fs = append_cancel_left f (joined gs ++ x) (joined fs) (ap (λ (v : List ℕ). v ++ (joined gs ++ x)) (sym first) ∙ split) in
    let more = frames-front gs fs x read.1 whole.1 rest in
    (more.0, ap (λ (v : List ℕ). v ∷ fs) (sym first) ∙ ap (λ (vs : List (List ℕ)). g ∷ vs) more.1)

stands-front : (start : ℕ) (gs more : List (List ℕ)) (off : ℕ) (w : List ℕ) → StandsAt start gs off w → StandsAt start (gs ++ more) off w
stands-front start [] more off w stands = absurd stands
stands-front start (g ∷ gs) more off w stands = elim stands [ inl here ↦ inl here | inr later ↦ inr (stands-front (start + length g) gs more off w later) ]

stands-behind : (start : ℕ) (before later : List (List ℕ)) (off : ℕ) (w : List ℕ) → StandsAt (start + length (joined before)) later off w → StandsAt start (before ++ later) off w
stands-behind start [] later off w stands = let here : start + 0 ≡ start = omega arith in subst (λ n. StandsAt n later off w) here stands
stands-behind start (b ∷ before) later off w stands =
    let long : length (b ++ joined before) ≡ length b + length (joined before) = length-append b (joined before) in
    let there : start + length (b ++ joined before) ≡ start + length b + length (joined before) = omega arith in
    inr (stands-behind (start + length b) before later off w (subst (λ n. StandsAt n later off w) there stands))

frames-back : (before later : List (List ℕ)) → AreFrames (before ++ later) → AreFrames later
frames-back [] later all = all
frames-back (b ∷ before) later all = frames-back before later all.1

zero-front : (n : ℕ) → n ≡ 0 + n
zero-front n = omega arith

within : (frames : List (List ℕ)) (from : ℕ) (piece : List ℕ) (gs : List (List ℕ)) (x : List ℕ) → AreFrames frames → AreFrames gs → StandIn frames from piece → joined gs ++ x ≡ piece
    → (o : ℕ) (w : List ℕ) → StandsAt from gs o w → IsFrameAt frames o w
within frames from piece gs x whole read stand same o w stands =
    let all = subst AreFrames stand.parted whole in
    let joins : joined gs ++ (x ++ stand.behind) ≡ joined stand.later = sym (append_assoc (joined gs) x stand.behind) ∙ ap (λ (v : List ℕ). v ++ stand.behind) same ∙ stand.there in
    let more = frames-front gs stand.later (x ++ stand.behind) read (frames-back stand.before stand.later all) joins in
    let moved = subst (λ n. StandsAt n gs o w) (stand.begins ∙ zero-front (length (joined stand.before))) stands in
    let here : StandsAt (0 + length (joined stand.before)) stand.later o w
    = subst (λ (fs : List (List ℕ)). StandsAt (0 + length (joined stand.before)) fs o w) (sym more.1) (stands-front (0 + length (joined stand.before)) gs more.0 o w moved) in
    subst (λ (fs : List (List ℕ)). StandsAt 0 fs o w) (sym stand.parted) (stands-behind 0 stand.before stand.later o w here)

-- ---- the stream

-- what was read of known bytes is their front
front-read : (before after : Known) (piece xs : List ℕ) → before ≡ Some piece → Consumes before after xs → (rest : List ℕ) × (xs ++ rest ≡ piece)
front-read before None piece xs is read = absurd (subst (λ (o : Known). Consumes o None xs) is read)
front-read before (Some rest) piece xs is read = (rest, sym (subst (λ (o : Known). Consumes o (Some rest) xs) is read))

-- said of the deliveries of any front of the known bytes, it is said of those of the stream
pub stream-took : (from limit : ℕ) (input : Input) (output : Output) (P Q : List DeliveryValue → List Answer → Type 0) (result : Result Summary ImportStop) (piece : List ℕ)
    → Streams from limit input output P result → input.before ≡ Some piece
    → ((rs : List Reply) (x : List ℕ) → AreFrames (frames_of rs) → joined (frames_of rs) ++ x ≡ piece → P (deliveries_at from rs) (answers_of rs) → Q (deliveries_at from rs) (answers_of rs))
    → Streams from limit input output Q result
stream-took from limit input output P Q (Ok summary) piece end is follows =
    let front = front-read input.before input.after piece (joined (frames_of end.replies)) is end.read in
    record {
      replies = end.replies;
      frames = end.frames;
      took = follows end.replies front.0 end.frames front.1 end.took;
      answered = end.answered;
      few = end.few;
      read = end.read;
      ended = end.ended;
      lines = end.lines;
      sums = end.sums;
      some = end.some;
    }
stream-took from limit input output P Q (Err stop) piece end is follows =
    let all : List Reply = end.replies ++ end.last in
    let front = front-read input.before input.after piece (joined (frames_of all) ++ end.rest) is end.read in
    record {
      replies = end.replies;
      last = end.last;
      rest = end.rest;
      frames = end.frames;
      took = follows all (end.rest ++ front.0) end.frames (sym (append_assoc (joined (frames_of all)) end.rest front.0) ∙ front.1) end.took;
      answered = end.answered;
      few = end.few;
      stands = end.stands;
      read = end.read;
      why = end.why;
    }

-- of a stream of frames of a file, each event is of that file
pub stream-of_file : (frames : List (List ℕ)) (from : ℕ) (piece : List ℕ) (rs : List Reply) (x : List ℕ) → AreFrames frames → StandIn frames from piece → AreFrames (frames_of rs) → joined (frames_of rs) ++ x ≡ piece
    → AreEventsOf frames (events_of (deliveries_at from rs) (answers_of rs))
stream-of_file frames from piece rs x whole stand read same =
    events-of_file frames (deliveries_at from rs) (answers_of rs) (of-file frames from rs (within frames from piece (frames_of rs) x whole read stand same))

-- whatever the store took, one thing is so of it
pub stream-all : (from limit : ℕ) (input : Input) (output : Output) (P : List DeliveryValue → List Answer → Type 0) (R : Type 0) (result : Result Summary ImportStop)
    → Streams from limit input output P result → ((ds : List DeliveryValue) (rs : List Answer) → P ds rs → R) → R
stream-all from limit input output P R (Ok summary) end gives = gives _ _ end.took
stream-all from limit input output P R (Err stop) end gives = gives _ _ end.took
