-- From the import of an input, all of it or what stands before an offset, to what is held of it.
use Rattle.std.proofs.Common.{◌≡◌, ℕ, ◌+◌, ◌-◌, List, [], ◌∷◌, ◌++◌, length, take, drop, cond, Bool, true, false, Option, Some, None, Result, Ok, Err, refl, sym, ap, subst, ◌∙◌, inl, inr, arith, length-append, append_assoc, take-append-drop}
use Rattle.std.specs.Prelude.{IfSome, option_map}
use Rattle.std.specs.FinMap.{get, empty}
use Rattle.std.specs.List.{count_by}
use Rattle.std.proofs.lemmas.List.Sums.{sum_by-cons}
use Rattle.std.proofs.KnownBytes.{Consumes-trans}
use Rattle.std.specs.Io.KnownBytes.{Consumes}
use Rattle.osm_rows.specs.Calls.{OfHeld}
use Rattle.osm_rows.specs.Held.{Blob, HeldMap}
use Rattle.osm_rows.specs.HeldLaws.{get-insert_here}
use Rattle.osm_rows.specs.declared.keeper.BlobReader.{Ghosts}
use Rattle.osm_import.specs.Deliveries.{DeliveryValue}
use Rattle.osm_reading.specs.Framings.{Known}
use Rattle.osm_import.specs.Files.{joined}
use Rattle.osm_import.specs.Flows.{Input, Output}
use Rattle.osm_import.specs.Merges.{ImportsPart}
use Rattle.osm_import.specs.Runs.{IsRun, IsFault, IsNone, IsStoredIn}
use Rattle.osm_import.specs.Step.{IsStep, IsHeldAlready}
use Rattle.osm_import.specs.Stores.{Takes}
use Rattle.osm_import.specs.Streams.{Reply, frames_of, answers_of, deliveries_at, end_at, is_bad, is_refused, EndsWell, ImportsFile, Streams}
use Rattle.osm_import.specs.declared.answer.Answer.{Answer}
use Rattle.osm_import.specs.declared.answer.Answer.TheVariants.{Stored, AlreadyHeld, Bad, Refused, Fault}
use Rattle.osm_import.specs.declared.stream.summary.Summary.{Summary}
use Rattle.osm_import.specs.declared.stream.fault.ImportFault.{ImportFault}
use Rattle.osm_import.specs.declared.stream.fault.ImportFault.TheVariants.{WriteFailed}
use Rattle.osm_import.specs.declared.stream.fault.ImportStop.{ImportStop}
use Rattle.osm_import.proofs.MergeLemmas.{stream_part}
use Rattle.osm_import.proofs.RunsLemmas.{run-back, run-keep}
use Rattle.osm_import.proofs.StreamFiles.{AreKept, IsKept, stream-one-file}
use Rattle.pbfrow_commands.specs.Importing.{Skips, DropsAndImports, ImportsFront, ImportsUpTo, AreHeld, IsOfFrames, HoldsFile, HoldsRange, IsTold, ends_input, front_of, import_status, imported_of}
use Rattle.pbfrow_commands.proofs.ImportLemmas.{imported-known, imports-last, none-bad, none-refused}

-- ---- each frame is held

abbrev bad_in : Answer → ℕ
bad_in a = cond (is_bad a) 1 0

abbrev refused_in : Answer → ℕ
refused_in a = cond (is_refused a) 1 0

kept-answer : (a : Answer) → ¬ (IsFault a) → bad_in a ≡ 0 → refused_in a ≡ 0 → IsKept a
kept-answer (Stored count) sound none free = tt
kept-answer AlreadyHeld sound none free = tt
kept-answer (Bad fault) sound none free = absurd (omega arith)
kept-answer (Refused conflict) sound none free = absurd (omega arith)
kept-answer (Fault fault) sound none free = absurd (sound tt)

all-kept : (rs : List Reply) → IsNone IsFault (answers_of rs) → count_by is_bad (answers_of rs) ≡ 0 → count_by is_refused (answers_of rs) ≡ 0 → AreKept rs
all-kept [] sound none free = tt
all-kept (r ∷ rs) sound none free =
    let bad : count_by is_bad (answers_of (r ∷ rs)) ≡ bad_in r.1 + count_by is_bad (answers_of rs) = sum_by-cons bad_in r.1 (answers_of rs) in
    let refused : count_by is_refused (answers_of (r ∷ rs)) ≡ refused_in r.1 + count_by is_refused (answers_of rs) = sum_by-cons refused_in r.1 (answers_of rs) in
    (kept-answer r.1 sound.0 (omega arith) (omega arith), all-kept rs sound.1 (omega arith) (omega arith))

kept-step : (held : HeldMap) (off : ℕ) (w : List ℕ) (a : Answer) (next : HeldMap) → IsKept a → IsStep held off w a next → IsHeldAlready next off w
kept-step held off w (Stored count) next kept step = record {
  entry = step.entry;
  is_entry = step.is_entry;
  blob = step.entry;
  found = ap (λ (m : HeldMap). get m off) step.added ∙ get-insert_here held off step.entry;
  same = step.is_entry.digested;
}
kept-step held off w AlreadyHeld next kept step = subst (λ (m : HeldMap). IsHeldAlready m off w) (sym step.1) step.0
kept-step held off w (Bad fault) next kept step = absurd kept
kept-step held off w (Refused conflict) next kept step = absurd kept
kept-step held off w (Fault fault) next kept step = absurd kept

-- and stays held
stays-held : (held : HeldMap) (ds : List DeliveryValue) (rs : List Answer) (after : HeldMap) → IsRun held ds rs after → (off : ℕ) (w : List ℕ) → IsHeldAlready held off w → IsHeldAlready after off w
stays-held held ds rs after run off w h = record { entry = h.entry; is_entry = h.is_entry; blob = h.blob; found = run-keep held ds rs after run off h.blob h.found; same = h.same }

held-frames : (off : ℕ) (rs : List Reply) (held after : HeldMap) → IsRun held (deliveries_at off rs) (answers_of rs) after → AreKept rs → AreHeld after off (frames_of rs)
held-frames off [] held after run kept = tt
held-frames off (r ∷ rs) held after run kept = (
  stays-held run.0 (deliveries_at (off + length r.0) rs) (answers_of rs) after run.2 off r.0 (kept-step held off r.0 r.1 run.0 kept.0 run.1),
  held-frames (off + length r.0) rs run.0 after run.2 kept.1,
)

-- what was stored is of one of the frames
stored-frame : (at : ℕ) (rs : List Reply) (off : ℕ) (blob : Blob) → IsStoredIn (deliveries_at at rs) (answers_of rs) off blob → IsOfFrames at (frames_of rs) off blob
stored-frame at [] off blob stored = absurd stored
stored-frame at (r ∷ rs) off blob stored = elim stored [
  | inl (_, here, entry) ↦ (r.0, inl (here, refl), entry)
  | inr later ↦ (let it = stored-frame (at + length r.0) rs off blob later in (it.0, inr it.1, it.2))
]

end-joined : (off : ℕ) (rs : List Reply) → off + length (joined (frames_of rs)) ≡ end_at off rs
end-joined off [] = omega arith
end-joined off (r ∷ rs) =
    let both : length (r.0 ++ joined (frames_of rs)) ≡ length r.0 + length (joined (frames_of rs)) = length-append r.0 (joined (frames_of rs)) in
    let rest : off + length r.0 + length (joined (frames_of rs)) ≡ end_at (off + length r.0) rs = end-joined (off + length r.0) rs in
    omega arith

-- ---- what was read of the first bytes was read of all

front-read : (count : ℕ) (old after : Known) (bs : List ℕ) → Consumes (option_map (take count) old) after bs → (rest : Known) × Consumes old rest bs
front-read count None after bs read = (None, tt)
front-read count (Some xs) None bs read = absurd read
front-read count (Some xs) (Some ys) bs read = (
  Some (ys ++ drop count xs),
  sym (take-append-drop count xs) ∙ ap (λ (v : List ℕ). v ++ drop count xs) read ∙ append_assoc bs ys (drop count xs),
)

-- ---- an import with the exit status 0

-- All that was to be read of the input was: whole frames, none of them bad or refused, up to the offset that it had to reach.
record EndedWhole (dropped from : ℕ) (to : Option ℕ) (bytes : Known) (output : Output) (Took : List DeliveryValue → List Answer → Type 0) : Type 0 where
  pub source : Input
  pub before_is : source.before ≡ front_of dropped from to bytes
  pub skipped : Known
  pub skips : Skips dropped source.before skipped
  pub listed : Known
  pub summary : Summary
  pub ended : EndsWell from 4294967295 (record source { before = skipped }) (record output { after = listed }) Took summary
  pub reach : IfSome to (λ end. summary.next ≡ end)
  pub none_bad : summary.bad ≡ 0
  pub none_refused : summary.refused ≡ 0

abbrev well : Summary → Result Summary ImportStop
well summary = Ok summary

abbrev ill : ImportStop → Result Summary ImportStop
ill stop = Err stop

told-well : (raw summary : Summary) → well summary ≡ well raw → raw ≡ summary
told-well raw summary e = cc

-- what is told to have ended well did, where it had to
told-whole : (to : Option ℕ) (outcome : Result Summary ImportStop) (summary : Summary) → IsTold to outcome (Ok summary) → (outcome ≡ Ok summary) × IfSome to (λ end. summary.next ≡ end)
told-whole None outcome summary is = (sym is, tt)
told-whole (Some to) (Ok raw) summary (inl is) = (sym is.1, sym (ap (λ (s : Summary). s.next) (told-well raw summary is.1)) ∙ is.0)
told-whole (Some to) (Ok raw) summary (inr is) = (let wrong = is.1.2 in absurd cc)
told-whole (Some to) (Err stop) summary (inl is) = (let wrong = is in absurd cc)
told-whole (Some to) (Err stop) summary (inr is) = (let wrong = is.1.2 in absurd cc)

-- and it skipped what it had to, and streamed the rest
streamed-whole : (dropped from : ℕ) (source : Input) (output : Output) (Same : Type 0) (Took : List DeliveryValue → List Answer → Type 0) (outcome : Result Summary ImportStop) (summary : Summary) → outcome ≡ Ok summary
    → DropsAndImports dropped from source output Same Took outcome → (skipped : Known) × Skips dropped source.before skipped × EndsWell from 4294967295 (record source { before = skipped }) output Took summary
streamed-whole dropped from source output Same Took outcome summary is (inl h) =
    (h.0, h.1, subst (λ (o : Result Summary ImportStop). Streams from 4294967295 (record source { before = h.0 }) output Took o) is h.2)
streamed-whole dropped from source output Same Took outcome summary is (inr h) = (let wrong = h.1 in absurd cc)

ended-whole : {dropped from : ℕ} {to : Option ℕ} {bytes : Known} {output : Output} {Same : Type 0} {Took : List DeliveryValue → List Answer → Type 0} {status : ℕ} → ImportsUpTo dropped from to bytes output Same Took status → status ≡ 0
    → EndedWhole dropped from to bytes output Took
ended-whole {dropped} {from} {to} {bytes} {output} {Same} {Took} {status} it ended = of_told it.told it.front it.status_is
  where
    of_told : (told : Result Summary ImportStop) → ImportsFront dropped from to bytes (record output { after = it.listed }) Same Took told → status ≡ import_status told output.has_failed → EndedWhole dropped from to bytes output Took
    of_told (Ok summary) front exit =
        let is = told-whole to front.outcome summary front.is_told in
        let streamed = streamed-whole dropped from front.source (record output { after = it.listed }) Same Took front.outcome summary is.0 front.imports in
        record {
          source = front.source;
          before_is = front.before_is;
          skipped = streamed.0;
          skips = streamed.1;
          listed = it.listed;
          summary = summary;
          ended = streamed.2;
          reach = is.1;
          none_bad = none-bad summary output.has_failed status exit ended;
          none_refused = none-refused summary output.has_failed status exit ended;
        }
    of_told (Err stop) front exit = absurd (omega arith)

-- of known bytes, what was imported is a file from the offset 0 on
pub file-imported : {S : Type 0} {store : Ghosts S} {old new : S} {dropped from : ℕ} {to : Option ℕ} {left : Known} {output : Output} {Same : Type 0} {status : ℕ} → ImportsUpTo dropped from to left output Same (Takes store old new) status → status ≡ 0
    → (bytes : List ℕ) → left ≡ Some bytes → from ≡ 0 → OfHeld store old new (HoldsFile (store.holds new) (imported_of dropped from to bytes))
file-imported {S} {store} {old} {new} {dropped} {from} {to} {left} {output} it ended bytes is zero held holds honest =
    let whole = ended-whole it ended in
    let known = imported-known dropped from to bytes left whole.source.before whole.skipped is whole.before_is whole.skips in
    let file : ImportsFile (store.holds new) (imported_of dropped from to bytes) held whole.summary =
    stream-one-file from 4294967295 (imported_of dropped from to bytes) (record whole.source { before = whole.skipped }) (record output { after = whole.listed }) (Takes store old new) (store.holds new) held known zero
    (λ ds rs took none. took.unbroken held holds honest none) (well whole.summary) whole.ended in
    (file.0, file.1, λ of_file. file.2 of_file whole.none_bad)

-- and a part of one from any
pub part-imported : {S : Type 0} {store : Ghosts S} {old new : S} {dropped from : ℕ} {to : Option ℕ} {left : Known} {output : Output} {Same : Type 0} {status : ℕ} → ImportsUpTo dropped from to left output Same (Takes store old new) status → status ≡ 0
    → (bytes : List ℕ) → left ≡ Some bytes → store.holds old empty → store.is_honest new → ImportsPart (store.holds new) from (imported_of dropped from to bytes)
part-imported {S} {store} {old} {new} {dropped} {from} {to} {left} {output} it ended bytes is holds honest =
    let whole = ended-whole it ended in
    let known = imported-known dropped from to bytes left whole.source.before whole.skipped is whole.before_is whole.skips in
    stream_part from 4294967295 (imported_of dropped from to bytes) (record whole.source { before = whole.skipped }) (record output { after = whole.listed }) (Takes store old new) (store.holds new) known
    (λ ds rs took none. took.unbroken empty holds honest none) (well whole.summary) whole.ended

range-held : {S : Type 0} {store : Ghosts S} {old new : S} {dropped from to : ℕ} {bytes : Known} {output : Output} → EndedWhole dropped from (Some to) bytes output (Takes store old new)
    → OfHeld store old new (λ held. HoldsRange (store.holds new) held dropped from to bytes)
range-held {S} {store} {old} {new} {dropped} {from} {to} {bytes} whole held is honest =
    let end = whole.ended in
    let run = end.took.unbroken held is honest end.answered in
    let kept = all-kept end.replies end.answered (sym (ap (λ (s : Summary). s.bad) end.sums) ∙ whole.none_bad) (sym (ap (λ (s : Summary). s.refused) end.sums) ∙ whole.none_refused) in
    let given : List ℕ = whole.skips.bytes ++ joined (frames_of end.replies) in
    let all = Consumes-trans whole.source.before whole.skipped whole.source.after whole.skips.bytes (joined (frames_of end.replies)) whole.skips.read end.read in
    let read = front-read (dropped + (to - from)) bytes whole.source.after given (subst (λ (k : Known). Consumes k whole.source.after given) whole.before_is all) in
    record {
      held = run.0;
      is_held = run.2;
      frames = frames_of end.replies;
      whole = end.frames;
      reach = end-joined from end.replies ∙ sym (ap (λ (s : Summary). s.next) end.sums) ∙ whole.reach;
      all = held-frames from end.replies held run.0 run.1 kept;
      kept = run-keep held (deliveries_at from end.replies) (answers_of end.replies) run.0 run.1;
      only = λ off blob is. elim (run-back held (deliveries_at from end.replies) (answers_of end.replies) run.0 run.1 off blob is) [
        | inl was ↦ inl was
        | inr stored ↦ inr (stored-frame from end.replies off blob stored)
      ];
      skipped = whole.skips.bytes;
      behind = whole.skips.all;
      rest = read.0;
      read = read.1;
    }

-- and where it had to reach an offset, the range up to that is held
pub range-imported : {S : Type 0} {store : Ghosts S} {old new : S} {dropped from : ℕ} {bytes : Known} {output : Output} {Same : Type 0} {status : ℕ} (to : Option ℕ) → ImportsUpTo dropped from to bytes output Same (Takes store old new) status
    → IfSome to (λ end. status ≡ 0 → OfHeld store old new (λ held. HoldsRange (store.holds new) held dropped from end bytes))
range-imported None it = tt
range-imported (Some end) it = λ ended. range-held (ended-whole it ended)

-- ---- what is told

no-end : (fault : ImportFault) → fault ≡ WriteFailed → ends_input fault ≡ true → ⊥
no-end fault is ends = (let wrong : false ≡ true = sym (ap ends_input is) ∙ ends in absurd cc)

-- the faults of two errors that are one
one-fault : (stop other : ImportStop) → ill stop ≡ ill other → other.fault ≡ WriteFailed → stop.fault ≡ WriteFailed
one-fault stop other e written = cc

imports-on : (dropped from : ℕ) (to : Option ℕ) (input : Input) (output : Output) (failed : Bool) (Same : Type 0) (Took : List DeliveryValue → List Answer → Type 0) (outcome told : Result Summary ImportStop)
    → IsTold to outcome told → ((stop : ImportStop) → told ≡ Err stop → stop.fault ≡ WriteFailed → failed ≡ output.has_failed)
    → DropsAndImports dropped from input output Same Took outcome → DropsAndImports dropped from input (record output { has_failed = failed }) Same Took outcome
imports-on dropped from None input output failed Same Took outcome told is same h = imports-last dropped from input output failed Same Took outcome (λ stop e written. same stop (is ∙ e) written) h
imports-on dropped from (Some to) input output failed Same Took (Ok raw) told is same h = imports-last dropped from input output failed Same Took (Ok raw) (λ stop e written. (let wrong = e in absurd cc)) h
imports-on dropped from (Some to) input output failed Same Took (Err stop) told (inl is) same h = imports-last dropped from input output failed Same Took (Err stop) (λ other e written. same stop is (one-fault stop other e written)) h
imports-on dropped from (Some to) input output failed Same Took (Err stop) told (inr is) same h =
    imports-last dropped from input output failed Same Took (Err stop) (λ other e written. absurd (no-end stop.fault (one-fault stop other e written) is.0)) h

-- the output goes on after what is told
pub front-on : {dropped from : ℕ} {to : Option ℕ} {bytes : Known} {output : Output} {Same : Type 0} {Took : List DeliveryValue → List Answer → Type 0} {told : Result Summary ImportStop}
    → ImportsFront dropped from to bytes output Same Took told → (failed : Bool) → ((stop : ImportStop) → told ≡ Err stop → stop.fault ≡ WriteFailed → failed ≡ output.has_failed)
    → ImportsFront dropped from to bytes (record output { has_failed = failed }) Same Took told
front-on {dropped} {from} {to} {bytes} {output} {Same} {Took} {told} h failed same = record {
  source = h.source;
  before_is = h.before_is;
  outcome = h.outcome;
  imports = imports-on dropped from to h.source output failed Same Took h.outcome told h.is_told same h.imports;
  is_told = h.is_told;
}
