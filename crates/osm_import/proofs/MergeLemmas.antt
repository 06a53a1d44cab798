-- The maps of the parts of a file, united, are the map of the file.
use Rattle.std.proofs.Common.{◌≡◌, ◌≢◌, ◌⊎◌, ℕ, ◌+◌, ◌<◌, ◌≤◌, List, [], ◌∷◌, ◌++◌, length, Bool, true, false, Ordering, Less, Equal, Greater, Option, Some, None, Result, Ok, Err, refl, sym, ◌∙◌, ap, subst, inl, inr, arith, length-append, append-nil}
use Rattle.std.specs.Prelude.{◌↔◌, IfOk}
use Rattle.std.specs.Ordering.{nat_cmp}
use Rattle.std.specs.Cmp.{nat_cmp_total, unsigned_tied}
use Rattle.std.specs.FinMap.{get, empty, entries, get-entries, entries_sorted, same_entries_map}
use Rattle.std.specs.FinMap.Entries.{same_entries}
use Rattle.std.proofs.lemmas.Bool.Decides.{eqb_tells, leb_tells}
use Rattle.osm_rows.specs.Held.{Blob, HeldMap}
use Rattle.osm_import.specs.Deliveries.{DeliveryValue}
use Rattle.osm_import.specs.Files.{AreFrames, AreOfFile, StandsAt, IsFrameAt, IsHeldOfFile, joined}
use Rattle.osm_import.specs.Histories.{IsAmong}
use Rattle.osm_import.specs.Runs.{IsRun, Runs, IsFault, IsNone, IsGoodIn}
use Rattle.osm_import.specs.declared.answer.Answer.{Answer}
use Rattle.osm_import.specs.Step.{IsEntry}
use Rattle.osm_import.specs.Copies.{IsMerged, IsUnited}
use Rattle.osm_import.specs.Merges.{AreUnited, IsFrontUnited, IsImported, AreImported, all_of, UnionsAreImports, UnionsAreUnrefused, UnionsStay, placed_from, frames_in, AreRuns, PartsAreOneImport, UnionsAreTakenAgain, ImportsPart}
use Rattle.std.specs.Io.KnownBytes.{Consumes, IsAtEnd}
use Rattle.osm_reading.specs.Framings.{Known}
use Rattle.osm_import.specs.Flows.{Input, Output}
use Rattle.osm_import.specs.Streams.{Reply, frames_of, answers_of, deliveries_at, Streams}
use Rattle.osm_import.specs.declared.stream.summary.Summary.{Summary}
use Rattle.osm_import.specs.declared.stream.fault.ImportStop.{ImportStop}
use Rattle.osm_import.specs.declared.answer.Conflict.TheVariants.{Differs, Overlap}
use Rattle.osm_import.proofs.CopyLemmas.{merged_none}
use Rattle.osm_import.proofs.FilesLemmas.{stands-apart, stands-same, entry-same}
use Rattle.osm_import.proofs.HistoryLemmas.{among-good, nothing-held}
use Rattle.osm_import.proofs.RunsLemmas.{run-imports}

-- ---- maps with the same entries

pub same-found : (a b : Option Blob) → ((blob : Blob) → a ≡ Some blob → b ≡ Some blob) → ((blob : Blob) → b ≡ Some blob → a ≡ Some blob) → a ≡ b
same-found None None to from = refl
same-found (Some x) b to from = sym (to x refl)
same-found None (Some y) to from = from y refl

abbrev is_equal : Ordering → Bool
is_equal Equal = true
is_equal Less = false
is_equal Greater = false

tied : (x y : ℕ) → nat_cmp x y ≡ Equal → x ≡ y
tied x y same = elim (eqb_tells x y) [ inl (_, is) ↦ is | inr (test, apart) ↦ (let bad : true ≡ false = sym (ap is_equal same) ∙ unsigned_tied x y ∙ test in absurd (cc)) ]

pub one_map : (one other : HeldMap) → ((off : ℕ) (blob : Blob) → (get one off ≡ Some blob) ↔ (get other off ≡ Some blob)) → one ≡ other
one_map one other says =
    same_entries_map one other (same_entries nat_cmp nat_cmp_total tied (entries one) (entries other) (entries_sorted one) (entries_sorted other)
    (λ off. sym (get-entries one off) ∙ same-found (get one off) (get other off) (λ blob. (says off blob).0) (λ blob. (says off blob).1) ∙ get-entries other off))

-- ---- blobs of one file

of_part : (frames : List (List ℕ)) (ds : List DeliveryValue) (off : ℕ) (blob : Blob) → AreOfFile frames ds → IsGoodIn ds off blob → (frame : List ℕ) × IsFrameAt frames off frame × IsEntry off frame blob
of_part frames [] off blob of good = absurd good
of_part frames (d ∷ ds) off blob of good = elim good [
  | inl (here, entry) ↦ (d.bytes, subst (λ n. IsFrameAt frames n d.bytes) (sym here) of.0, entry)
  | inr later ↦ of_part frames ds off blob of.1 later
]

imported_of_file : (frames : List (List ℕ)) (ds : List DeliveryValue) (held : HeldMap) → AreOfFile frames ds → IsImported ds held → IsHeldOfFile frames held
imported_of_file frames ds held of imported off blob is = of_part frames ds off blob of ((imported off blob).0 is)

same_blob : (frames : List (List ℕ)) → AreFrames frames → (one other : HeldMap) → IsHeldOfFile frames one → IsHeldOfFile frames other → (off : ℕ) (a b : Blob) → get one off ≡ Some a → get other off ≡ Some b → a ≡ b
same_blob frames whole one other of also off a b is is_too =
    let x = of off a is in
    let y = also off b is_too in
    let same : x.0 ≡ y.0 = stands-same 0 frames whole off x.0 y.0 x.1 y.1 in
    entry-same off y.0 a b (subst (λ (w : List ℕ). IsEntry off w a) same x.2) y.2

merged_of_file : (frames : List (List ℕ)) (P : ℕ → Type 0) (source held after : HeldMap) → IsHeldOfFile frames source → IsHeldOfFile frames held → IsMerged P source held after → IsHeldOfFile frames after
merged_of_file frames P source held after of also m off blob is = elim (m.only off blob is) [ inl was ↦ also off blob was | inr (_, there, _) ↦ of off blob there ]

-- ---- the union

-- over one file the union holds what either holds
united_both : (frames : List (List ℕ)) → AreFrames frames → (source held after : HeldMap) → IsHeldOfFile frames source → IsHeldOfFile frames held → IsUnited source held after
    → (off : ℕ) (blob : Blob) → (get after off ≡ Some blob) ↔ ((get held off ≡ Some blob) ⊎ (get source off ≡ Some blob))
united_both frames whole source held after of also m off blob = (
  (λ is. elim (m.only off blob is) [ inl was ↦ inl was | inr (_, there, _) ↦ inr there ]),
  (λ either. elim either [ inl was ↦ m.kept off blob was | inr there ↦ at (get held off) refl there ]),
)
  where
    at : (o : Option Blob) → get held off ≡ o → get source off ≡ Some blob → get after off ≡ Some blob
    at None free there = m.added off blob tt there free
    at (Some other) was there = m.kept off other was ∙ ap Some (same_blob frames whole held source also of off other blob was there)

pub good_both : (ds es : List DeliveryValue) (off : ℕ) (blob : Blob) → IsGoodIn (ds ++ es) off blob ↔ (IsGoodIn ds off blob ⊎ IsGoodIn es off blob)
good_both [] es off blob = ((λ good. inr good), (λ either. elim either [ inl none ↦ absurd none | inr good ↦ good ]))
good_both (d ∷ ds) es off blob =
    let it = good_both ds es off blob in (
      (λ good. elim good [ inl here ↦ inl (inl here) | inr later ↦ elim (it.0 later) [ inl front ↦ inl (inr front) | inr back ↦ inr back ] ]),
      (λ either. elim either [ inl front ↦ elim front [ inl here ↦ inl here | inr later ↦ inr (it.1 (inl later)) ] | inr back ↦ inr (it.1 (inr back)) ]),
    )

of_both : (frames : List (List ℕ)) (ds es : List DeliveryValue) → AreOfFile frames (ds ++ es) → AreOfFile frames ds × AreOfFile frames es
of_both frames [] es of = (tt, of)
of_both frames (d ∷ ds) es of = let it = of_both frames ds es of.1 in ((of.0, it.0), it.1)

united_all : (frames : List (List ℕ)) → AreFrames frames → (parts : List (List DeliveryValue)) (sources : List HeldMap) (held after : HeldMap) → AreOfFile frames (all_of parts) → AreImported parts sources
    → IsHeldOfFile frames held → AreUnited sources held after → (off : ℕ) (blob : Blob) → (get after off ≡ Some blob) ↔ ((get held off ≡ Some blob) ⊎ IsGoodIn (all_of parts) off blob)
united_all frames whole [] [] held after of imported of_file united off blob =
    ((λ is. inl (sym (ap (λ (h : HeldMap). get h off) united) ∙ is)), (λ either. elim either [ inl was ↦ ap (λ (h : HeldMap). get h off) united ∙ was | inr none ↦ absurd none ]))
united_all frames whole [] (source ∷ sources) held after of imported of_file united off blob = absurd imported
united_all frames whole (part ∷ parts) [] held after of imported of_file united off blob = absurd imported
united_all frames whole (part ∷ parts) (source ∷ sources) held after of imported of_file (next, first, rest) off blob =
    let ofs = of_both frames part (all_of parts) of in
    let of_source = imported_of_file frames part source ofs.0 imported.0 in
    let step = united_both frames whole source held next of_source of_file first off blob in
    let later = united_all frames whole parts sources next after ofs.1 imported.1 (merged_of_file frames (λ o. Unit {0}) source held next of_source of_file first) rest off blob in
    let split = good_both part (all_of parts) off blob in (
      (λ is. elim (later.0 is) [
        | inl there ↦ elim (step.0 there) [ inl was ↦ inl was | inr new ↦ inr (split.1 (inl ((imported.0 off blob).0 new))) ]
        | inr good ↦ inr (split.1 (inr good))
      ]),
      (λ either. elim either [
        | inl was ↦ later.1 (inl (step.1 (inl was)))
        | inr good ↦ elim (split.0 good) [ inl here ↦ later.1 (inl (step.1 (inr ((imported.0 off blob).1 here)))) | inr back ↦ later.1 (inr back) ]
      ]),
    )

-- a good delivery is among deliveries, and the other way
good_among : (ds : List DeliveryValue) (off : ℕ) (blob : Blob) → IsGoodIn ds off blob → (d : DeliveryValue) × IsAmong ds d × (off ≡ d.off) × IsEntry off d.bytes blob
good_among [] off blob good = absurd good
good_among (d ∷ ds) off blob good = elim good [
  | inl (here, entry) ↦ (d, inl refl, here, entry)
  | inr later ↦ (let it = good_among ds off blob later in (it.0, inr it.1, it.2, it.3))
]

same_good : (ds es : List DeliveryValue) → ((d : DeliveryValue) → IsAmong ds d → IsAmong es d) → (off : ℕ) (blob : Blob) → IsGoodIn ds off blob → IsGoodIn es off blob
same_good ds es among off blob good = let it = good_among ds off blob good in among-good es it.0 off blob (among it.0 it.1) it.2 it.3

pub unions_are_imports : UnionsAreImports
unions_are_imports frames parts sources after deliveries one whole of imported united among imported_one = one_map after one (λ off blob.
    let all = united_all frames whole parts sources empty after of imported (λ o b is. absurd (nothing-held o b is)) united off blob in (
      (λ is. elim (all.0 is) [ inl was ↦ absurd (nothing-held off blob was) | inr good ↦ (imported_one off blob).1 (same_good (all_of parts) deliveries (λ d. (among d).1) off blob good) ]),
      (λ is. all.1 (inr (same_good deliveries (all_of parts) (λ d. (among d).0) off blob ((imported_one off blob).0 is)))),
    ))

pub unions_are_unrefused : UnionsAreUnrefused
unions_are_unrefused frames source held after place off Differs whole of also m refused =
    let of_after = merged_of_file frames (λ o. o < place) source held after of also m in
    refused.4 (ap (λ (b : Blob). b.digest) (same_blob frames whole after source of_after of off refused.1 refused.0 refused.3 refused.2))
unions_are_unrefused frames source held after place off Overlap whole of also m refused =
    let of_after = merged_of_file frames (λ o. o < place) source held after of also m in
    let x = of off refused.0 refused.1 in
    let met = refused.3 in
    let y = of_after met.at met.blob met.found in
    let fin : refused.0.fin ≡ off + length x.0 = x.2.ends in
    let end : met.blob.fin ≡ met.at + length y.0 = y.2.ends in
    let starts = met.starts in
    let ends = met.ends in
    let apart : met.at ≢ off = λ same. (let bad : Some met.blob ≡ None = sym met.found ∙ ap (get after) same ∙ refused.2 in cc) in
    elim (leb_tells met.at off) [
      | inl (_, le) ↦ (let low : met.at < off = omega arith in let h : met.at + length y.0 ≤ off = stands-apart 0 frames met.at off y.0 x.0 y.1 x.1 low in omega arith)
      | inr (_, gt) ↦ (let h : off + length x.0 ≤ met.at = stands-apart 0 frames off met.at x.0 y.0 x.1 y.1 gt in omega arith)
    ]

pub unions_stay : UnionsStay
unions_stay source held after again first second = one_map again after (λ off blob. (
  (λ is. elim (second.only off blob is) [
    | inl was ↦ was
    | inr (_, there, free) ↦ at off blob there free (get held off) refl
  ]),
  (λ is. second.kept off blob is),
))
  where
    at : (off : ℕ) (blob : Blob) → get source off ≡ Some blob → get after off ≡ None → (o : Option Blob) → get held off ≡ o → get after off ≡ Some blob
    at off blob there free None none = first.added off blob tt there none
    at off blob there free (Some other) was = (let bad : Some other ≡ None = sym (first.kept off other was) ∙ free in absurd cc)

-- ---- a front of the sources

-- a merge begins with none of them
pub front_begun : (sources : List HeldMap) (held : HeldMap) → IsFrontUnited sources held held
front_begun [] held = refl
front_begun (source ∷ sources) held = inl (0, merged_none (λ off. off < 0) source held (λ off less. omega (arith, less)))

-- and goes on with a front of those behind the ones that were united
pub front_behind : (front behind : List HeldMap) (held middle left : HeldMap) → AreUnited front held middle → IsFrontUnited behind middle left → IsFrontUnited (front ++ behind) held left
front_behind [] behind held middle left same rest = subst (λ (h : HeldMap). IsFrontUnited behind h left) same rest
front_behind (source ∷ front) behind held middle left (next, united, also) rest = inr (next, united, front_behind front behind next middle left also rest)

-- ---- a file in parts

placed_both : (start : ℕ) (ws vs : List (List ℕ)) → placed_from start (ws ++ vs) ≡ placed_from start ws ++ placed_from (start + length (joined ws)) vs
placed_both start [] vs = ap (λ n. placed_from n vs) (let none : start ≡ start + 0 = omega arith in none)
placed_both start (w ∷ ws) vs =
    let own : length (w ++ joined ws) ≡ length w + length (joined ws) = length-append w (joined ws) in
    let end : start + length w + length (joined ws) ≡ start + length (w ++ joined ws) = omega (arith, own) in
    ap (λ ds. record { off = start; bytes = w } ∷ ds) (placed_both (start + length w) ws vs ∙ ap (λ n. placed_from (start + length w) ws ++ placed_from n vs) end)

-- the deliveries of the parts from this offset on
parts_from : ℕ → List (List (List ℕ)) → List (List DeliveryValue)
parts_from start [] = []
parts_from start (part ∷ parts) = placed_from start part ∷ parts_from (start + length (joined part)) parts

all_placed : (start : ℕ) (parts : List (List (List ℕ))) → all_of (parts_from start parts) ≡ placed_from start (frames_in parts)
unfolding parts_from
all_placed start [] = refl
all_placed start (part ∷ parts) = ap (λ ds. placed_from start part ++ ds) (all_placed (start + length (joined part)) parts) ∙ sym (placed_both start part (frames_in parts))

placed_of_file : (frames : List (List ℕ)) (start : ℕ) (ws : List (List ℕ)) → ((off : ℕ) (w : List ℕ) → StandsAt start ws off w → IsFrameAt frames off w) → AreOfFile frames (placed_from start ws)
placed_of_file frames start [] stands = tt
placed_of_file frames start (w ∷ ws) stands = (stands start w (inl (refl, refl)), placed_of_file frames (start + length w) ws (λ off v later. stands off v (inr later)))

-- a run of deliveries of a file to a new store, without a fault, is an import of them
imported_run : (frames : List (List ℕ)) → AreFrames frames → (ds : List DeliveryValue) (answers : List Answer) (held : HeldMap) → AreOfFile frames ds → IsRun empty ds answers held → IsNone IsFault answers → IsImported ds held
imported_run frames whole ds answers held of run sound off blob =
    let all = (run-imports frames whole empty ds answers held run of (λ o b is. absurd (nothing-held o b is))).all sound off blob in (
      (λ is. elim (all.0 is) [ inl was ↦ absurd (nothing-held off blob was) | inr good ↦ good ]),
      (λ good. all.1 (inr good)),
    )

imported_parts : (frames : List (List ℕ)) → AreFrames frames → (start : ℕ) (parts : List (List (List ℕ))) (sources : List HeldMap) → AreOfFile frames (all_of (parts_from start parts)) → AreRuns start parts sources
    → AreImported (parts_from start parts) sources
unfolding parts_from
imported_parts frames whole start [] [] of runs = tt
imported_parts frames whole start [] (source ∷ sources) of runs = absurd runs
imported_parts frames whole start (part ∷ parts) [] of runs = absurd runs
imported_parts frames whole start (part ∷ parts) (source ∷ sources) of runs =
    let ofs = of_both frames (placed_from start part) (all_of (parts_from (start + length (joined part)) parts)) of in (
      imported_run frames whole (placed_from start part) runs.0.0 source ofs.0 runs.0.1 runs.0.2,
      imported_parts frames whole (start + length (joined part)) parts sources ofs.1 runs.1,
    )

pub parts_are_one_import : PartsAreOneImport
parts_are_one_import parts sources after one answers whole runs united run sound =
    let frames = frames_in parts in
    let all = all_placed 0 parts in
    let of : AreOfFile frames (placed_from 0 frames) = placed_of_file frames 0 frames (λ off w stands. stands) in
    let of_parts : AreOfFile frames (all_of (parts_from 0 parts)) = subst (λ (ds : List DeliveryValue). AreOfFile frames ds) (sym all) of in
    unions_are_imports frames (parts_from 0 parts) sources after (placed_from 0 frames) one whole of_parts (imported_parts frames whole 0 parts sources of_parts runs) united
    (λ d. ((λ among. subst (λ (ds : List DeliveryValue). IsAmong ds d) (sym all) among), (λ among. subst (λ (ds : List DeliveryValue). IsAmong ds d) all among)))
    (imported_run frames whole (placed_from 0 frames) answers one of run sound)

-- what a union holds at an offset of the source has the source's digest
united_digest : (source held after : HeldMap) → IsUnited source held after → (off : ℕ) (blob other : Blob) → get source off ≡ Some blob → get after off ≡ Some other → other.digest ≡ blob.digest
united_digest source held after m off blob other of found = elim (m.only off other found) [
  | inl was ↦ m.same off blob other tt of was
  | inr (_, there, _) ↦ (let e : Some other ≡ Some blob = sym there ∙ of in let one : other ≡ blob = cc in ap (λ (b : Blob). b.digest) one)
]

-- and each offset of the source is held
united_there : (source held after : HeldMap) → IsUnited source held after → (off : ℕ) (blob : Blob) → get source off ≡ Some blob → (o : Option Blob) → get held off ≡ o → (other : Blob) × (get after off ≡ Some other)
united_there source held after m off blob of None free = (blob, m.added off blob tt of free)
united_there source held after m off blob of (Some other) was = (other, m.kept off other was)

pub unions_are_taken_again : UnionsAreTakenAgain
unions_are_taken_again source held after again place off Differs first second (blob, other, of, found, apart) =
    let it = united_there source held after first off blob of (get held off) refl in
    let e : Some it.0 ≡ Some other = sym (second.kept off it.0 it.1) ∙ found in
    let one : it.0 ≡ other = cc in
    apart (sym (ap (λ (b : Blob). b.digest) one) ∙ united_digest source held after first off blob it.0 of it.1)
unions_are_taken_again source held after again place off Overlap first second (blob, of, free, met) =
    let it = united_there source held after first off blob of (get held off) refl in
    let e : Some it.0 ≡ None = sym (second.kept off it.0 it.1) ∙ free in absurd cc

-- ---- a stream is a part

all_read : (piece : List ℕ) (left : Known) (x : List ℕ) → Consumes (Some piece) left x → IsAtEnd left → piece ≡ x
all_read piece None x read end = absurd read
all_read piece (Some ys) x read end = read ∙ ap (λ (v : List ℕ). x ++ v) end ∙ append-nil x

delivered_at : (from : ℕ) (rs : List Reply) → deliveries_at from rs ≡ placed_from from (frames_of rs)
delivered_at from [] = refl
delivered_at from (r ∷ rs) = ap (λ ds. record { off = from; bytes = r.0 } ∷ ds) (delivered_at (from + length r.0) rs)

pub stream_part : (from limit : ℕ) (piece : List ℕ) (input : Input) (output : Output) (Took : List DeliveryValue → List Answer → Type 0) (now : HeldMap → Type 0) → input.before ≡ Some piece
    → ((ds : List DeliveryValue) (rs : List Answer) → Took ds rs → IsNone IsFault rs → Runs now empty ds rs) → (result : Result Summary ImportStop)
    → Streams from limit input output Took result → IfOk result (λ summary. ImportsPart now from piece)
stream_part from limit piece input output Took now is runs (Err stop) end = tt
stream_part from limit piece input output Took now is runs (Ok summary) end = (
  frames_of end.replies,
  end.frames,
  all_read piece input.after (joined (frames_of end.replies)) (subst (λ (o : Known). Consumes o input.after (joined (frames_of end.replies))) is end.read) end.ended,
  answers_of end.replies,
  end.answered,
  subst (λ (ds : List DeliveryValue). Runs now empty ds (answers_of end.replies)) (delivered_at from end.replies) (runs (deliveries_at from end.replies) (answers_of end.replies) end.took end.answered),
)
