-- A stream that ended well, over the bytes of a file.
use Rattle.std.proofs.Common.{◌≡◌, ◌≢◌, ℕ, ◌+◌, ◌<◌, ◌≤◌, cond, List, [], ◌∷◌, ◌++◌, length, Some, None, Result, Ok, Err, refl, sym, ap, subst, ◌∙◌, inl, inr, arith, append-nil, length-append}
use Rattle.std.specs.Prelude.{IfOk}
use Rattle.std.specs.FinMap.{get}
use Rattle.std.specs.List.{count_by}
use Rattle.std.proofs.lemmas.Bool.{cases_lt}
use Rattle.std.proofs.lemmas.List.Sums.{sum_by-cons}
use Rattle.std.specs.Io.KnownBytes.{Consumes, IsAtEnd}
use Rattle.osm_rows.specs.Held.{Blob, HeldMap}
use Rattle.osm_rows.specs.HeldLaws.{get-insert_here}
use Rattle.osm_import.specs.Deliveries.{DeliveryValue}
use Rattle.osm_import.specs.Files.{AreFrames, joined, IsFile, StandsAt, IsFrameAt, AreOfFile, IsHeldOfFile}
use Rattle.osm_import.specs.Gaps.{IsCovered, Tiles}
use Rattle.osm_import.specs.Step.{IsStep}
use Rattle.osm_import.specs.Runs.{IsRun, Runs, IsFault, IsRefused, IsNone}
use Rattle.osm_reading.specs.Framings.{Known}
use Rattle.osm_import.specs.Flows.{Input, Output}
use Rattle.osm_import.specs.Streams.{Reply, frames_of, answers_of, deliveries_at, is_bad, EndsWell, Streams, ImportsFile}
use Rattle.osm_import.specs.declared.answer.Answer.{Answer}
use Rattle.osm_import.specs.declared.answer.Answer.TheVariants.{Stored, AlreadyHeld, Bad, Refused, Fault}
use Rattle.osm_import.specs.declared.stream.summary.Summary.{Summary}
use Rattle.osm_import.specs.declared.stream.fault.ImportStop.{ImportStop}
use Rattle.osm_import.proofs.FilesLemmas.{stands-same}
use Rattle.osm_import.proofs.RunsLemmas.{run-keep, run-imports}

-- ---- the input was a file

all-read : (file : List ℕ) (left : Known) (x : List ℕ) → Consumes (Some file) left x → IsAtEnd left → file ≡ x
all-read file None x read end = absurd read
all-read file (Some ys) x read end = read ∙ ap (λ (v : List ℕ). x ++ v) end ∙ append-nil x

no-replies : (rs : List Reply) → frames_of rs ≡ [] → rs ≡ []
no-replies [] e = refl
no-replies (r ∷ rs) e = absurd cc

pub stream-file : (limit : ℕ) (file : List ℕ) (input : Input) (output : Output) (Took : List DeliveryValue → List Answer → Type 0) (summary : Summary) → input.before ≡ Some file → (end : EndsWell 0 limit input output Took summary)
    → IsFile file (frames_of end.replies)
stream-file limit file input output Took summary is end = record {
  some = λ none. end.some refl (no-replies end.replies none);
  whole = end.frames;
  is_joined = all-read file input.after (joined (frames_of end.replies)) (subst (λ (o : Known). Consumes o input.after (joined (frames_of end.replies))) is end.read) end.ended;
}

-- ---- and its frames were delivered at their offsets

pub of-file : (frames : List (List ℕ)) (off : ℕ) (rs : List Reply) → ((o : ℕ) (w : List ℕ) → StandsAt off (frames_of rs) o w → IsFrameAt frames o w) → AreOfFile frames (deliveries_at off rs)
of-file frames off [] stands = tt
of-file frames off (r ∷ rs) stands = (stands off r.0 (inl (refl, refl)), of-file frames (off + length r.0) rs (λ o w later. stands o w (inr later)))

-- ---- each frame is held

-- stored or held already
abbrev pub IsKept : Answer → Type 0
IsKept (Stored count) = Unit {0}
IsKept AlreadyHeld = Unit {0}
IsKept _ = ⊥

abbrev pub AreKept : List Reply → Type 0
AreKept [] = Unit {0}
AreKept (r ∷ rs) = IsKept r.1 × AreKept rs

abbrev bad_in : Answer → ℕ
bad_in a = cond (is_bad a) 1 0

kept-answer : (a : Answer) → ¬ (IsFault a) → ¬ (IsRefused a) → bad_in a ≡ 0 → IsKept a
kept-answer (Stored count) sound unrefused none = tt
kept-answer AlreadyHeld sound unrefused none = tt
kept-answer (Bad fault) sound unrefused none = absurd (omega arith)
kept-answer (Refused conflict) sound unrefused none = absurd (unrefused tt)
kept-answer (Fault fault) sound unrefused none = absurd (sound tt)

all-kept : (rs : List Reply) → IsNone IsFault (answers_of rs) → IsNone IsRefused (answers_of rs) → count_by is_bad (answers_of rs) ≡ 0 → AreKept rs
all-kept [] sound unrefused none = tt
all-kept (r ∷ rs) sound unrefused none =
    let both : count_by is_bad (answers_of (r ∷ rs)) ≡ bad_in r.1 + count_by is_bad (answers_of rs) = sum_by-cons bad_in r.1 (answers_of rs) in
    (kept-answer r.1 sound.0 unrefused.0 (omega arith), all-kept rs sound.1 unrefused.1 (omega arith))

kept-step : (held : HeldMap) (off : ℕ) (w : List ℕ) (a : Answer) (next : HeldMap) → IsKept a → IsStep held off w a next → (blob : Blob) × (get next off ≡ Some blob)
kept-step held off w (Stored count) next kept step = (step.entry, ap (λ (m : HeldMap). get m off) step.added ∙ get-insert_here held off step.entry)
kept-step held off w AlreadyHeld next kept step = (step.0.blob, ap (λ (m : HeldMap). get m off) step.1 ∙ step.0.found)
kept-step held off w (Bad fault) next kept step = absurd kept
kept-step held off w (Refused conflict) next kept step = absurd kept
kept-step held off w (Fault fault) next kept step = absurd kept

frame-held : (off : ℕ) (rs : List Reply) (held after : HeldMap) → IsRun held (deliveries_at off rs) (answers_of rs) after → AreKept rs → (o : ℕ) (w : List ℕ) → StandsAt off (frames_of rs) o w → (blob : Blob) × (get after o ≡ Some blob)
frame-held off [] held after run kept o w stands = absurd stands
frame-held off (r ∷ rs) held after run kept o w stands = elim stands [
  | inl (here, _) ↦
      (let it = kept-step held off r.0 r.1 run.0 kept.0 run.1 in
      (it.0, ap (get after) here ∙ run-keep run.0 (deliveries_at (off + length r.0) rs) (answers_of rs) after run.2 off it.0 it.1))
  | inr later ↦ frame-held (off + length r.0) rs run.0 after run.2 kept.1 o w later
]

-- ---- each byte is covered

-- the frame that has the byte
record HasByte (start : ℕ) (frames : List (List ℕ)) (byte : ℕ) : Type 0 where
  pub off : ℕ
  pub frame : List ℕ
  pub stands : StandsAt start frames off frame
  pub from : off ≤ byte
  pub to : byte < off + length frame

byte-in : (start : ℕ) (frames : List (List ℕ)) (byte : ℕ) → start ≤ byte → byte < start + length (joined frames) → HasByte start frames byte
byte-in start [] byte low high = absurd (omega arith)
byte-in start (w ∷ ws) byte low high =
    let both : length (w ++ joined ws) ≡ length w + length (joined ws) = length-append w (joined ws) in
    elim (cases_lt byte (start + length w)) [
      | inl inside ↦ record { off = start; frame = w; stands = inl (refl, refl); from = low; to = inside }
      | inr behind ↦ (let it = byte-in (start + length w) ws byte behind (omega arith) in record { off = it.off; frame = it.frame; stands = inr it.stands; from = it.from; to = it.to })
    ]

stands-within : (start : ℕ) (frames : List (List ℕ)) (off : ℕ) (w : List ℕ) → StandsAt start frames off w → off + length w ≤ start + length (joined frames)
stands-within start [] off w stands = absurd stands
stands-within start (x ∷ ws) off w stands =
    let both : length (x ++ joined ws) ≡ length x + length (joined ws) = length-append x (joined ws) in
    elim stands [
      | inl (here, same) ↦ omega (arith, ap length same)
      | inr later ↦ (let h : off + length w ≤ start + length x + length (joined ws) = stands-within (start + length x) ws off w later in omega arith)
    ]

entry-ends : (frames : List (List ℕ)) → AreFrames frames → (after : HeldMap) → IsHeldOfFile frames after → (off : ℕ) (w : List ℕ) (blob : Blob) → IsFrameAt frames off w → get after off ≡ Some blob → blob.fin ≡ off + length w
entry-ends frames whole after of_file off w blob stands found =
    let it = of_file off blob found in
    it.2.ends ∙ ap (λ (v : List ℕ). off + length v) (stands-same 0 frames whole off it.0 w it.1 stands)

covers : (frames : List (List ℕ)) → AreFrames frames → (after : HeldMap) → IsHeldOfFile frames after → ((o : ℕ) (w : List ℕ) → IsFrameAt frames o w → (blob : Blob) × (get after o ≡ Some blob))
    → (byte : ℕ) → byte < length (joined frames) → IsCovered after byte
covers frames whole after of_file all byte high =
    let it = byte-in 0 frames byte (omega arith) (omega arith) in
    let blob = all it.off it.frame it.stands in
    let ends : blob.0.fin ≡ it.off + length it.frame = entry-ends frames whole after of_file it.off it.frame blob.0 it.stands blob.1 in
    record { at = it.off; blob = blob.0; found = blob.1; starts = it.from; ends = subst (λ n. byte < n) (sym ends) it.to }

first-held : (frames : List (List ℕ)) (after : HeldMap) → frames ≢ [] → ((o : ℕ) (w : List ℕ) → IsFrameAt frames o w → (blob : Blob) × (get after o ≡ Some blob)) → (at : ℕ) × (blob : Blob) × (get after at ≡ Some blob)
first-held [] after some all = absurd (some refl)
first-held (w ∷ ws) after some all = let it = all 0 w (inl (refl, refl)) in (0, it.0, it.1)

pub stream-tiles : (limit : ℕ) (file : List ℕ) (input : Input) (output : Output) (Took : List DeliveryValue → List Answer → Type 0) (summary : Summary) (start after : HeldMap) → input.before ≡ Some file → (end : EndsWell 0 limit input output Took summary)
    → IsHeldOfFile (frames_of end.replies) start → IsRun start (deliveries_at 0 end.replies) (answers_of end.replies) after → summary.bad ≡ 0
    → Tiles after (length file) × IsHeldOfFile (frames_of end.replies) after
stream-tiles limit file input output Took summary start after is end of_file run none =
    let frames : List (List ℕ) = frames_of end.replies in
    let is_file = stream-file limit file input output Took summary is end in
    let import = run-imports frames end.frames start (deliveries_at 0 end.replies) (answers_of end.replies) after run (of-file frames 0 end.replies (λ o w stands. stands)) of_file in
    let kept = all-kept end.replies end.answered import.unrefused (sym (ap (λ (s : Summary). s.bad) end.sums) ∙ none) in
    let all = frame-held 0 end.replies start after run kept in
    let size : length file ≡ length (joined frames) = ap length is_file.is_joined in (
      record {
        some = first-held frames after is_file.some all;
        whole = record {
          ranges = tt;
          all = λ byte low. inl (covers frames end.frames after import.of_file all byte (omega arith));
          only = λ byte in_range covered. in_range;
        };
        within = λ at blob found.
            (let it = import.of_file at blob found in
            let fits : at + length it.0 ≤ 0 + length (joined frames) = stands-within 0 frames at it.0 it.1 in
            let ends = it.2.ends in omega arith);
      },
      import.of_file,
    )

one-file : (limit : ℕ) (file : List ℕ) (input : Input) (output : Output) (Took : List DeliveryValue → List Answer → Type 0) (now : HeldMap → Type 0) (start : HeldMap) → input.before ≡ Some file
    → ((ds : List DeliveryValue) (rs : List Answer) → Took ds rs → IsNone IsFault rs → Runs now start ds rs) → (result : Result Summary ImportStop)
    → Streams 0 limit input output Took result → IfOk result (λ summary. ImportsFile now file start summary)
one-file limit file input output Took now start is runs (Err stop) end = tt
one-file limit file input output Took now start is runs (Ok summary) end =
    let run = runs (deliveries_at 0 end.replies) (answers_of end.replies) end.took end.answered in (
      frames_of end.replies,
      stream-file limit file input output Took summary is end,
      λ of_file none.
          (let it = stream-tiles limit file input output Took summary start run.0 is end of_file run.1 none in (run.0, run.2, it.0, it.1)),
    )

pub stream-one-file : (from limit : ℕ) (file : List ℕ) (input : Input) (output : Output) (Took : List DeliveryValue → List Answer → Type 0) (now : HeldMap → Type 0) (start : HeldMap) → input.before ≡ Some file → from ≡ 0
    → ((ds : List DeliveryValue) (rs : List Answer) → Took ds rs → IsNone IsFault rs → Runs now start ds rs) → (result : Result Summary ImportStop)
    → Streams from limit input output Took result → IfOk result (λ summary. ImportsFile now file start summary)
stream-one-file from limit file input output Took now start is zero runs result streams =
    one-file limit file input output Took now start is runs result (subst (λ n. Streams n limit input output Took result) zero streams)
