-- From what was skipped, streamed and told to what an import has done.
use Rattle.std.proofs.Common.{◌≡◌, ◌≢◌, ℕ, ◌+◌, ◌-◌, ◌≤◌, List, ◌++◌, length, take, drop, Bool, true, false, ◌&&◌, ◌==◌, not, cond, Option, Some, None, Result, Ok, Err, refl, sym, ap, subst, ◌∙◌, inl, inr, arith, length-append}
use Rattle.std.proofs.lemmas.List.{length-take, drop_at, drop-take}
use Rattle.std.proofs.lemmas.Bool.Decides.{nat_tests}
use Rattle.std.proofs.KnownBytes.{Consumes-trans}
use Rattle.std.specs.Io.KnownBytes.{Consumes}
use Rattle.osm_import.specs.Deliveries.{DeliveryValue}
use Rattle.osm_reading.specs.Framings.{Known}
use Rattle.osm_import.specs.Flows.{Input, Output}
use Rattle.osm_import.specs.Streams.{Reply, EndsWell, Stops, IsStop}
use Rattle.osm_import.specs.declared.answer.Answer.{Answer}
use Rattle.osm_import.specs.declared.stream.summary.Summary.{Summary}
use Rattle.osm_import.specs.declared.stream.fault.ImportFault.{ImportFault}
use Rattle.osm_import.specs.declared.stream.fault.ImportFault.TheVariants.{Stream, WriteFailed, Store, BlobLimit}
use Rattle.osm_import.specs.declared.stream.fault.ImportStop.{ImportStop}
use Rattle.osm_reading.specs.declared.stream.fault.Stop.TheVariants.{Frame, NoHeaderFirst, ReadFailed, Memory}
use Rattle.osm_value.specs.Sink.{Wrote}
use Rattle.pbfrow_commands.specs.Importing.{Skips, DropsAndImports, EndsStop, front_of, import_status, imported_of}
use Rattle.pbfrow_commands.specs.CommandLines.{import_stop_line}

-- ---- skipping

-- of so many bytes the first were read, and these many are left
pub record IsSkipping (count left : ℕ) (old new : Known) : Type 0 where
  pub bytes : List ℕ
  pub all : length bytes + left ≡ count
  pub read : Consumes old new bytes

pub skip-more : (count left n next : ℕ) (old mid new : Known) (buffer : List ℕ) → n ≤ length buffer → n ≤ left → next + n ≡ left → IsSkipping count left old mid → Consumes mid new (take n buffer) → IsSkipping count next old new
skip-more count left n next old mid new buffer within most rest h read = record {
  bytes = h.bytes ++ take n buffer;
  all = omega (arith, h.all, length-append h.bytes (take n buffer), length-take n buffer);
  read = Consumes-trans old mid new h.bytes (take n buffer) h.read read;
}

-- of known bytes those behind the skipped are left
skips-known : (dropped : ℕ) (bytes : List ℕ) (old new : Known) → old ≡ Some bytes → Skips dropped old new → new ≡ Some (drop dropped bytes)
skips-known dropped bytes old None is h = absurd (subst (λ (k : Known). Consumes k None h.bytes) is h.read)
skips-known dropped bytes old (Some ys) is h =
    let whole : bytes ≡ h.bytes ++ ys = subst (λ (k : Known). Consumes k (Some ys) h.bytes) is h.read in
    let rest : drop dropped bytes ≡ ys = ap (λ (v : List ℕ). drop dropped v) whole ∙ drop_at h.bytes ys dropped h.all in
    ap (λ (v : List ℕ). Some v) (sym rest)

-- so what is imported of them is known
pub imported-known : (dropped from : ℕ) (to : Option ℕ) (bytes : List ℕ) (left before skipped : Known) → left ≡ Some bytes → before ≡ front_of dropped from to left → Skips dropped before skipped
    → skipped ≡ Some (imported_of dropped from to bytes)
imported-known dropped from None bytes left before skipped is here skips = skips-known dropped bytes before skipped (here ∙ is) skips
imported-known dropped from (Some to) bytes left before skipped is here skips =
    let known : before ≡ Some (take (dropped + (to - from)) bytes) = here ∙ ap (λ (k : Known). front_of dropped from (Some to) k) is in
    skips-known dropped (take (dropped + (to - from)) bytes) before skipped known skips ∙ ap (λ (v : List ℕ). Some v) (drop-take dropped (to - from) bytes)

-- ---- the output goes on after a stop, but for a failed write

stop-on : (from limit : ℕ) (input : Input) (output : Output) (failed : Bool) (replies last : List Reply) (rest : List ℕ) (fault : ImportFault) → (fault ≡ WriteFailed → failed ≡ output.has_failed)
    → IsStop from limit input output replies last rest fault → IsStop from limit input (record output { has_failed = failed }) replies last rest fault
stop-on from limit input output failed replies last rest (Stream (Frame fault)) same why = why
stop-on from limit input output failed replies last rest (Stream NoHeaderFirst) same why = why
stop-on from limit input output failed replies last rest (Stream ReadFailed) same why = why
stop-on from limit input output failed replies last rest (Stream Memory) same why = why
stop-on from limit input output failed replies last rest WriteFailed same why = (same refl ∙ why.0, why.1, why.2, why.3)
stop-on from limit input output failed replies last rest (Store fault) same why = why
stop-on from limit input output failed replies last rest BlobLimit same why = why

stops-on : (from limit : ℕ) (input : Input) (output : Output) (failed : Bool) (Took : List DeliveryValue → List Answer → Type 0) (stop : ImportStop) → (stop.fault ≡ WriteFailed → failed ≡ output.has_failed)
    → Stops from limit input output Took stop → Stops from limit input (record output { has_failed = failed }) Took stop
stops-on from limit input output failed Took stop same h = record {
  replies = h.replies;
  last = h.last;
  rest = h.rest;
  frames = h.frames;
  took = h.took;
  answered = h.answered;
  few = h.few;
  stands = h.stands;
  read = h.read;
  why = stop-on from limit input output failed h.replies h.last h.rest stop.fault same h.why;
}

ends-on : (from limit : ℕ) (input : Input) (output : Output) (failed : Bool) (Took : List DeliveryValue → List Answer → Type 0) (summary : Summary)
    → EndsWell from limit input output Took summary → EndsWell from limit input (record output { has_failed = failed }) Took summary
ends-on from limit input output failed Took summary h = record {
  replies = h.replies;
  frames = h.frames;
  took = h.took;
  answered = h.answered;
  few = h.few;
  read = h.read;
  ended = h.ended;
  lines = h.lines;
  sums = h.sums;
  some = h.some;
}

pub imports-last : (dropped from : ℕ) (input : Input) (output : Output) (failed : Bool) (Same : Type 0) (Took : List DeliveryValue → List Answer → Type 0) (outcome : Result Summary ImportStop)
    → ((stop : ImportStop) → outcome ≡ Err stop → stop.fault ≡ WriteFailed → failed ≡ output.has_failed)
    → DropsAndImports dropped from input output Same Took outcome → DropsAndImports dropped from input (record output { has_failed = failed }) Same Took outcome
imports-last dropped from input output failed Same Took (Ok summary) same (inl h) = inl (h.0, h.1, ends-on from 4294967295 (record input { before = h.0 }) output failed Took summary h.2)
imports-last dropped from input output failed Same Took (Err stop) same (inl h) = inl (h.0, h.1, stops-on from 4294967295 (record input { before = h.0 }) output failed Took stop (same stop refl) h.2)
imports-last dropped from input output failed Same Took outcome same (inr h) = inr h

zero-first : (b c d : Bool) (n : ℕ) → n ≡ cond ((b && c) && d) 0 1 → n ≡ 0 → b ≡ true
zero-first true c d n is zero = refl
zero-first false c d n is zero = absurd (omega arith)

is-none : (n : ℕ) → (n == 0) ≡ true → n ≡ 0
is-none n h = grind (arith, nat_tests)

pub none-bad : (summary : Summary) (failed : Bool) (status : ℕ) → status ≡ import_status (Ok summary) failed → status ≡ 0 → summary.bad ≡ 0
none-bad summary failed status is zero = is-none summary.bad (zero-first (summary.bad == 0) (summary.refused == 0) (not failed) status is zero)

zero-second : (b c d : Bool) (n : ℕ) → n ≡ cond ((b && c) && d) 0 1 → n ≡ 0 → c ≡ true
zero-second true true d n is zero = refl
zero-second true false d n is zero = absurd (omega arith)
zero-second false true d n is zero = refl
zero-second false false d n is zero = absurd (omega arith)

pub none-refused : (summary : Summary) (failed : Bool) (status : ℕ) → status ≡ import_status (Ok summary) failed → status ≡ 0 → summary.refused ≡ 0
none-refused summary failed status is zero = is-none summary.refused (zero-second (summary.bad == 0) (summary.refused == 0) (not failed) status is zero)

-- the stop's line went out
pub ends-stop : (listed written : Known) (failed : Bool) (at : ℕ) (fault : ImportFault) → fault ≢ WriteFailed → Wrote listed (import_stop_line fault at) written failed → EndsStop listed written failed at fault
ends-stop listed written failed at (Stream stop) other h = h
ends-stop listed written failed at WriteFailed other h = absurd (other refl)
ends-stop listed written failed at (Store fault) other h = h
ends-stop listed written failed at BlobLimit other h = h
