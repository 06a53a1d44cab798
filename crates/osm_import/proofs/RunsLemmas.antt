-- From single steps to whole runs.
use Rattle.std.proofs.Common.{◌≡◌, ◌≢◌, ◌⊎◌, ℕ, ◌+◌, ◌<◌, ◌≤◌, List, [], ◌∷◌, ◌++◌, length, Some, None, refl, sym, ◌∙◌, ap, subst, inl, inr, arith}
use Rattle.std.specs.FinMap.{get}
use Rattle.std.proofs.lemmas.Bool.Decides.{leb_tells}
use Rattle.sha2.specs.Sha256.{sha256}
use Rattle.osm_rows.specs.Held.{Blob, HeldMap}
use Rattle.osm_rows.specs.HeldLaws.{get-insert_here, get-insert_other, get-insert_cases}
use Rattle.osm_import.specs.Deliveries.{DeliveryValue}
use Rattle.osm_import.specs.Files.{AreFrames, AreOfFile, IsHeldOfFile, IsFrameAt}
use Rattle.osm_import.specs.Runs.{IsRun, IsStored, IsRefused, IsFault, IsStoredIn, IsGoodIn, IsUnion, AreStoredOnce, IsNone, IsImport, AreOwn, LeavesAfter}
use Rattle.osm_import.specs.Step.{IsStep, IsEntry, IsOwn, CrashLeaves, Delivers}
use Rattle.osm_import.specs.declared.answer.Answer.{Answer}
use Rattle.osm_import.specs.declared.answer.Answer.TheVariants.{Stored, AlreadyHeld, Bad, Refused, Fault}
use Rattle.osm_import.specs.declared.answer.Conflict.TheVariants.{Differs, Overlap}
use Rattle.osm_import.proofs.FilesLemmas.{stands-apart, stands-same, entry-same}
use Rattle.osm_reading.proofs.GoodLaws.{good-not_bad}

-- what a step holds was held before, or is the new entry
pub step-back : (held : HeldMap) (o : ℕ) (w : List ℕ) (answer : Answer) (next : HeldMap) → IsStep held o w answer next
    → (off : ℕ) (blob : Blob) → get next off ≡ Some blob → (get held off ≡ Some blob) ⊎ (IsStored answer × (off ≡ o) × IsEntry off w blob)
step-back held o w (Stored count) next step off blob is =
    elim (get-insert_cases held o step.entry off blob (ap (λ (m : HeldMap). get m off) (sym step.added) ∙ is)) [
      | inl (here, same) ↦ inr (tt, here, subst (λ (b : Blob). IsEntry off w b) (sym same) (subst (λ n. IsEntry n w step.entry) (sym here) step.is_entry))
      | inr (_, was) ↦ inl was
    ]
step-back held o w AlreadyHeld next step off blob is = inl (ap (λ (m : HeldMap). get m off) (sym step.1) ∙ is)
step-back held o w (Bad fault) next step off blob is = inl (ap (λ (m : HeldMap). get m off) (sym step.1) ∙ is)
step-back held o w (Refused Differs) next step off blob is = inl (ap (λ (m : HeldMap). get m off) (sym step.1) ∙ is)
step-back held o w (Refused Overlap) next step off blob is = inl (ap (λ (m : HeldMap). get m off) (sym step.1) ∙ is)
step-back held o w (Fault fault) next step off blob is = inl (ap (λ (m : HeldMap). get m off) (sym step) ∙ is)

-- what is held stays
pub step-keep : (held : HeldMap) (o : ℕ) (w : List ℕ) (answer : Answer) (next : HeldMap) → IsStep held o w answer next
    → (off : ℕ) (blob : Blob) → get held off ≡ Some blob → get next off ≡ Some blob
step-keep held o w (Stored count) next step off blob is =
    let apart : off ≢ o = λ same. (let bad : Some blob ≡ None = sym is ∙ ap (get held) same ∙ step.unheld in cc) in
    ap (λ (m : HeldMap). get m off) step.added ∙ get-insert_other held o step.entry off apart ∙ is
step-keep held o w AlreadyHeld next step off blob is = ap (λ (m : HeldMap). get m off) step.1 ∙ is
step-keep held o w (Bad fault) next step off blob is = ap (λ (m : HeldMap). get m off) step.1 ∙ is
step-keep held o w (Refused Differs) next step off blob is = ap (λ (m : HeldMap). get m off) step.1 ∙ is
step-keep held o w (Refused Overlap) next step off blob is = ap (λ (m : HeldMap). get m off) step.1 ∙ is
step-keep held o w (Fault fault) next step off blob is = ap (λ (m : HeldMap). get m off) step ∙ is

-- what is answered Stored is held afterwards, and wasn't before
pub step-adds : (held : HeldMap) (o : ℕ) (w : List ℕ) (answer : Answer) (next : HeldMap) → IsStep held o w answer next → IsStored answer
    → (off : ℕ) (blob : Blob) → off ≡ o → IsEntry off w blob → (get next off ≡ Some blob) × (get held off ≡ None)
step-adds held o w (Stored count) next step stored off blob here entry =
    let same : step.entry ≡ blob = entry-same o w step.entry blob step.is_entry (subst (λ n. IsEntry n w blob) here entry) in
    (ap (get next) here ∙ ap (λ (m : HeldMap). get m o) step.added ∙ get-insert_here held o step.entry ∙ ap (λ (b : Blob). Some b) same, ap (get held) here ∙ step.unheld)
step-adds held o w AlreadyHeld next step stored off blob here entry = absurd stored
step-adds held o w (Bad fault) next step stored off blob here entry = absurd stored
step-adds held o w (Refused reason) next step stored off blob here entry = absurd stored
step-adds held o w (Fault fault) next step stored off blob here entry = absurd stored

pub run-keep : (held : HeldMap) (ds : List DeliveryValue) (rs : List Answer) (after : HeldMap) → IsRun held ds rs after → (off : ℕ) (blob : Blob) → get held off ≡ Some blob → get after off ≡ Some blob
run-keep held [] [] after run off blob is = ap (λ (m : HeldMap). get m off) run ∙ is
run-keep held [] (a ∷ rs) after run off blob is = absurd run
run-keep held (d ∷ ds) [] after run off blob is = absurd run
run-keep held (d ∷ ds) (a ∷ rs) after run off blob is = run-keep run.0 ds rs after run.2 off blob (step-keep held d.off d.bytes a run.0 run.1 off blob is)

pub run-back : (held : HeldMap) (ds : List DeliveryValue) (rs : List Answer) (after : HeldMap) → IsRun held ds rs after → (off : ℕ) (blob : Blob) → get after off ≡ Some blob → (get held off ≡ Some blob) ⊎ IsStoredIn ds rs off blob
run-back held [] [] after run off blob is = inl (ap (λ (m : HeldMap). get m off) (sym run) ∙ is)
run-back held [] (a ∷ rs) after run off blob is = absurd run
run-back held (d ∷ ds) [] after run off blob is = absurd run
run-back held (d ∷ ds) (a ∷ rs) after run off blob is = elim (run-back run.0 ds rs after run.2 off blob is) [
  | inl was ↦ elim (step-back held d.off d.bytes a run.0 run.1 off blob was) [ inl old ↦ inl old | inr new ↦ inr (inl new) ]
  | inr later ↦ inr (inr later)
]

run-adds : (held : HeldMap) (ds : List DeliveryValue) (rs : List Answer) (after : HeldMap) → IsRun held ds rs after → (off : ℕ) (blob : Blob) → IsStoredIn ds rs off blob → get after off ≡ Some blob
run-adds held [] rs after run off blob stored = absurd stored
run-adds held (d ∷ ds) [] after run off blob stored = absurd stored
run-adds held (d ∷ ds) (a ∷ rs) after run off blob stored = elim stored [
  | inl (is, here, entry) ↦ run-keep run.0 ds rs after run.2 off blob (step-adds held d.off d.bytes a run.0 run.1 is off blob here entry).0
  | inr later ↦ run-adds run.0 ds rs after run.2 off blob later
]

pub run-union : (held : HeldMap) (ds : List DeliveryValue) (rs : List Answer) (after : HeldMap) → IsRun held ds rs after → IsUnion held ds rs after
run-union held ds rs after run off blob = (run-back held ds rs after run off blob, λ either. elim either [ inl was ↦ run-keep held ds rs after run off blob was | inr stored ↦ run-adds held ds rs after run off blob stored ])

-- an offset that is answered Stored wasn't held before
run-unheld : (held : HeldMap) (ds : List DeliveryValue) (rs : List Answer) (after : HeldMap) → IsRun held ds rs after → (off : ℕ) (blob other : Blob) → IsStoredIn ds rs off blob → get held off ≢ Some other
run-unheld held [] rs after run off blob other stored = absurd stored
run-unheld held (d ∷ ds) [] after run off blob other stored = absurd stored
run-unheld held (d ∷ ds) (a ∷ rs) after run off blob other stored = elim stored [
  | inl (is, here, entry) ↦ λ found. (let bad : Some other ≡ None = sym found ∙ (step-adds held d.off d.bytes a run.0 run.1 is off blob here entry).1 in cc)
  | inr later ↦ λ found. run-unheld run.0 ds rs after run.2 off blob other later (step-keep held d.off d.bytes a run.0 run.1 off other found)
]

stored-entry : (held : HeldMap) (o : ℕ) (w : List ℕ) (answer : Answer) (next : HeldMap) → IsStep held o w answer next → IsStored answer → (blob : Blob) × (get next o ≡ Some blob)
stored-entry held o w (Stored count) next step stored = (step.entry, (step-adds held o w (Stored count) next step tt o step.entry refl step.is_entry).0)
stored-entry held o w AlreadyHeld next step stored = absurd stored
stored-entry held o w (Bad fault) next step stored = absurd stored
stored-entry held o w (Refused reason) next step stored = absurd stored
stored-entry held o w (Fault fault) next step stored = absurd stored

pub run-once : (held : HeldMap) (ds : List DeliveryValue) (rs : List Answer) (after : HeldMap) → IsRun held ds rs after → AreStoredOnce ds rs
run-once held [] rs after run = tt
run-once held (d ∷ ds) [] after run = tt
run-once held (d ∷ ds) (a ∷ rs) after run = (
  (λ stored blob again. (let it = stored-entry held d.off d.bytes a run.0 run.1 stored in run-unheld run.0 ds rs after run.2 d.off blob it.0 again it.1)),
  run-once run.0 ds rs after run.2,
)

pub step-of_file : (frames : List (List ℕ)) (held : HeldMap) (o : ℕ) (w : List ℕ) (answer : Answer) (next : HeldMap) → IsStep held o w answer next → IsFrameAt frames o w → IsHeldOfFile frames held → IsHeldOfFile frames next
step-of_file frames held o w answer next step stands of_file off blob is = elim (step-back held o w answer next step off blob is) [
  | inl was ↦ of_file off blob was
  | inr (_, here, entry) ↦ (w, subst (λ n. IsFrameAt frames n w) (sym here) stands, entry)
]

collide : (at o fin long wide : ℕ) → fin ≡ at + long → at < o + wide → o < fin → at ≢ o → (at < o → at + long ≤ o) → (o < at → o + wide ≤ at) → ⊥
collide at o fin long wide is starts ends apart below above = elim (leb_tells at o) [
  | inl (_, le) ↦ (let l : at < o = omega arith in let h : at + long ≤ o = below l in omega arith)
  | inr (_, gt) ↦ (let h : o + wide ≤ at = above gt in omega arith)
]

step-unrefused : (frames : List (List ℕ)) → AreFrames frames → (held : HeldMap) (o : ℕ) (w : List ℕ) (answer : Answer) (next : HeldMap) → IsStep held o w answer next → IsFrameAt frames o w → IsHeldOfFile frames held → ¬ (IsRefused answer)
step-unrefused frames whole held o w (Refused Differs) next step stands of_file refused =
    let it = of_file o step.0.blob step.0.found in
    let same : it.0 ≡ w = stands-same 0 frames whole o it.0 w it.1 stands in
    step.0.other (it.2.digested ∙ ap sha256 same)
step-unrefused frames whole held o w (Refused Overlap) next step stands of_file refused =
    let it = of_file step.0.at step.0.blob step.0.found in
    collide step.0.at o step.0.blob.fin (length it.0) (length w) it.2.ends step.0.starts step.0.ends
    (λ same. (let bad : Some step.0.blob ≡ None = sym step.0.found ∙ ap (get held) same ∙ step.0.unheld in cc))
    (stands-apart 0 frames step.0.at o it.0 w it.1 stands)
    (stands-apart 0 frames o step.0.at w it.0 stands it.1)
step-unrefused frames whole held o w (Stored count) next step stands of_file refused = refused
step-unrefused frames whole held o w AlreadyHeld next step stands of_file refused = refused
step-unrefused frames whole held o w (Bad fault) next step stands of_file refused = refused
step-unrefused frames whole held o w (Fault fault) next step stands of_file refused = refused

run-of_file : (frames : List (List ℕ)) (held : HeldMap) (ds : List DeliveryValue) (rs : List Answer) (after : HeldMap) → IsRun held ds rs after → AreOfFile frames ds → IsHeldOfFile frames held → IsHeldOfFile frames after
run-of_file frames held [] [] after run of of_file = subst (λ (m : HeldMap). IsHeldOfFile frames m) (sym run) of_file
run-of_file frames held [] (a ∷ rs) after run of of_file = absurd run
run-of_file frames held (d ∷ ds) [] after run of of_file = absurd run
run-of_file frames held (d ∷ ds) (a ∷ rs) after run of of_file = run-of_file frames run.0 ds rs after run.2 of.1 (step-of_file frames held d.off d.bytes a run.0 run.1 of.0 of_file)

run-unrefused : (frames : List (List ℕ)) → AreFrames frames → (held : HeldMap) (ds : List DeliveryValue) (rs : List Answer) (after : HeldMap) → IsRun held ds rs after → AreOfFile frames ds → IsHeldOfFile frames held → IsNone IsRefused rs
run-unrefused frames whole held [] [] after run of of_file = tt
run-unrefused frames whole held [] (a ∷ rs) after run of of_file = absurd run
run-unrefused frames whole held (d ∷ ds) [] after run of of_file = absurd run
run-unrefused frames whole held (d ∷ ds) (a ∷ rs) after run of of_file = (
  step-unrefused frames whole held d.off d.bytes a run.0 run.1 of.0 of_file,
  run-unrefused frames whole run.0 ds rs after run.2 of.1 (step-of_file frames held d.off d.bytes a run.0 run.1 of.0 of_file),
)

-- a good delivery of the file is held after an answer that is no fault
step-good : (frames : List (List ℕ)) → AreFrames frames → (held : HeldMap) (o : ℕ) (w : List ℕ) (answer : Answer) (next : HeldMap) → IsStep held o w answer next → IsFrameAt frames o w → IsHeldOfFile frames held
    → ¬ (IsFault answer) → (off : ℕ) (blob : Blob) → off ≡ o → IsEntry off w blob → get next off ≡ Some blob
step-good frames whole held o w (Stored count) next step stands of_file sound off blob here entry = (step-adds held o w (Stored count) next step tt off blob here entry).0
step-good frames whole held o w AlreadyHeld next step stands of_file sound off blob here entry =
    let it = of_file o step.0.blob step.0.found in
    let same : it.0 ≡ w = stands-same 0 frames whole o it.0 w it.1 stands in
    let equal : step.0.blob ≡ blob = entry-same o w step.0.blob blob (subst (λ (v : List ℕ). IsEntry o v step.0.blob) same it.2) (subst (λ n. IsEntry n w blob) here entry) in
    ap (get next) here ∙ ap (λ (m : HeldMap). get m o) step.1 ∙ step.0.found ∙ ap (λ (b : Blob). Some b) equal
step-good frames whole held o w (Bad fault) next step stands of_file sound off blob here entry = absurd (good-not_bad o w blob.kind blob.elements (subst (λ n. IsEntry n w blob) here entry).good fault step.0)
step-good frames whole held o w (Refused reason) next step stands of_file sound off blob here entry = absurd (step-unrefused frames whole held o w (Refused reason) next step stands of_file tt)
step-good frames whole held o w (Fault fault) next step stands of_file sound off blob here entry = absurd (sound tt)

pub run-good : (frames : List (List ℕ)) → AreFrames frames → (held : HeldMap) (ds : List DeliveryValue) (rs : List Answer) (after : HeldMap) → IsRun held ds rs after → AreOfFile frames ds → IsHeldOfFile frames held
    → IsNone IsFault rs → (off : ℕ) (blob : Blob) → IsGoodIn ds off blob → get after off ≡ Some blob
run-good frames whole held [] [] after run of of_file sound off blob good = absurd good
run-good frames whole held [] (a ∷ rs) after run of of_file sound off blob good = absurd run
run-good frames whole held (d ∷ ds) [] after run of of_file sound off blob good = absurd run
run-good frames whole held (d ∷ ds) (a ∷ rs) after run of of_file sound off blob good = elim good [
  | inl (here, entry) ↦ run-keep run.0 ds rs after run.2 off blob (step-good frames whole held d.off d.bytes a run.0 run.1 of.0 of_file sound.0 off blob here entry)
  | inr later ↦ run-good frames whole run.0 ds rs after run.2 of.1 (step-of_file frames held d.off d.bytes a run.0 run.1 of.0 of_file) sound.1 off blob later
]

pub stored-good : (ds : List DeliveryValue) (rs : List Answer) (off : ℕ) (blob : Blob) → IsStoredIn ds rs off blob → IsGoodIn ds off blob
stored-good [] rs off blob stored = absurd stored
stored-good (d ∷ ds) [] off blob stored = absurd stored
stored-good (d ∷ ds) (a ∷ rs) off blob stored = elim stored [ inl (_, here, entry) ↦ inl (here, entry) | inr later ↦ inr (stored-good ds rs off blob later) ]

-- what deliveries of one file do
pub run-imports : (frames : List (List ℕ)) → AreFrames frames → (held : HeldMap) (ds : List DeliveryValue) (rs : List Answer) (after : HeldMap) → IsRun held ds rs after → AreOfFile frames ds → IsHeldOfFile frames held → IsImport frames held ds rs after
run-imports frames whole held ds rs after run of of_file = record {
  run = run;
  union = run-union held ds rs after run;
  once = run-once held ds rs after run;
  unrefused = run-unrefused frames whole held ds rs after run of of_file;
  all = λ sound off blob. (
    (λ is. elim (run-back held ds rs after run off blob is) [ inl was ↦ inl was | inr stored ↦ inr (stored-good ds rs off blob stored) ]),
    (λ either. elim either [ inl was ↦ run-keep held ds rs after run off blob was | inr good ↦ run-good frames whole held ds rs after run of of_file sound off blob good ]),
  );
  of_file = run-of_file frames held ds rs after run of of_file;
}

-- one more delivery
pub run-push : (held : HeldMap) (ds : List DeliveryValue) (rs : List Answer) (between : HeldMap) (d : DeliveryValue) (a : Answer) (after : HeldMap)
    → IsRun held ds rs between → IsStep between d.off d.bytes a after → IsRun held (ds ++ d ∷ []) (rs ++ a ∷ []) after
run-push held [] [] between d a after run step = (after, subst (λ (m : HeldMap). IsStep m d.off d.bytes a after) run step, refl)
run-push held [] (x ∷ rs) between d a after run step = absurd run
run-push held (e ∷ ds) [] between d a after run step = absurd run
run-push held (e ∷ ds) (x ∷ rs) between d a after run step = (run.0, run.1, run-push run.0 ds rs between d a after run.2 step)

-- an answer of a delivery is that of the step, while the store needn't be opened again
pub delivers-step : (open_now : Type 0) (holds : HeldMap → Type 0) (held : HeldMap) (off : ℕ) (bytes : List ℕ) (answer : Answer) → Delivers open_now holds held off bytes answer → open_now
    → (after : HeldMap) × IsStep held off bytes answer after × holds after
delivers-step open_now holds held off bytes (Fault fault) delivers is_open = (held, refl, delivers is_open)
delivers-step open_now holds held off bytes (Stored count) delivers is_open = delivers
delivers-step open_now holds held off bytes AlreadyHeld delivers is_open = delivers
delivers-step open_now holds held off bytes (Bad fault) delivers is_open = delivers
delivers-step open_now holds held off bytes (Refused Differs) delivers is_open = delivers
delivers-step open_now holds held off bytes (Refused Overlap) delivers is_open = delivers

abbrev pub fault-or-not : (a : Answer) → IsFault a ⊎ ¬ (IsFault a)
fault-or-not (Fault fault) = inl tt
fault-or-not (Stored count) = inr (λ h. h)
fault-or-not AlreadyHeld = inr (λ h. h)
fault-or-not (Bad fault) = inr (λ h. h)
fault-or-not (Refused conflict) = inr (λ h. h)

-- an answer that is no fault is that of the step, whether or not the store can go on
pub delivers-sound : (open_now : Type 0) (holds : HeldMap → Type 0) (held : HeldMap) (o : ℕ) (w : List ℕ) (answer : Answer) → ¬ (IsFault answer)
    → Delivers open_now holds held o w answer → (after : HeldMap) × IsStep held o w answer after × holds after
delivers-sound open_now holds held o w (Fault fault) sound delivers = absurd (sound tt)
delivers-sound open_now holds held o w (Stored count) sound delivers = delivers
delivers-sound open_now holds held o w AlreadyHeld sound delivers = delivers
delivers-sound open_now holds held o w (Bad fault) sound delivers = delivers
delivers-sound open_now holds held o w (Refused Differs) sound delivers = delivers
delivers-sound open_now holds held o w (Refused Overlap) sound delivers = delivers

leaves-cons : (leaves : HeldMap → Type 0) (held : HeldMap) (d : DeliveryValue) (ds : List DeliveryValue) (a : Answer) (rs : List Answer) → ¬ (IsFault a)
    → (next : HeldMap) → IsStep held d.off d.bytes a next → LeavesAfter leaves next ds rs → LeavesAfter leaves held (d ∷ ds) (a ∷ rs)
leaves-cons leaves held d ds (Fault fault) rs sound next step rest = absurd (sound tt)
leaves-cons leaves held d ds (Stored count) rs sound next step rest = (next, step, rest)
leaves-cons leaves held d ds AlreadyHeld rs sound next step rest = (next, step, rest)
leaves-cons leaves held d ds (Bad fault) rs sound next step rest = (next, step, rest)
leaves-cons leaves held d ds (Refused reason) rs sound next step rest = (next, step, rest)

-- after a run without a fault
pub leaves-run : (leaves : HeldMap → Type 0) (held : HeldMap) (ds : List DeliveryValue) (rs : List Answer) (after : HeldMap) → IsRun held ds rs after → IsNone IsFault rs
    → ((left : HeldMap) → leaves left → left ≡ after) → LeavesAfter leaves held ds rs
leaves-run leaves held [] [] after run sound only = λ left it. only left it ∙ run
leaves-run leaves held [] (a ∷ rs) after run sound only = absurd run
leaves-run leaves held (d ∷ ds) [] after run sound only = absurd run
leaves-run leaves held (d ∷ ds) (a ∷ rs) after run sound only = leaves-cons leaves held d ds a rs sound.0 run.0 run.1 (leaves-run leaves run.0 ds rs after run.2 sound.1 only)

-- and after one more delivery, which is answered with a fault
pub leaves-fault : (leaves : HeldMap → Type 0) (held : HeldMap) (ds : List DeliveryValue) (rs : List Answer) (between : HeldMap) (d : DeliveryValue) (more : List DeliveryValue) (a : Answer)
    → IsRun held ds rs between → IsNone IsFault rs → IsFault a → CrashLeaves leaves between d.off d.bytes → LeavesAfter leaves held (ds ++ d ∷ more) (rs ++ a ∷ [])
leaves-fault leaves held [] [] between d more (Fault fault) run sound is crash = subst (λ (m : HeldMap). CrashLeaves leaves m d.off d.bytes) run crash
leaves-fault leaves held [] [] between d more (Stored count) run sound is crash = absurd is
leaves-fault leaves held [] [] between d more AlreadyHeld run sound is crash = absurd is
leaves-fault leaves held [] [] between d more (Bad fault) run sound is crash = absurd is
leaves-fault leaves held [] [] between d more (Refused reason) run sound is crash = absurd is
leaves-fault leaves held [] (x ∷ rs) between d more a run sound is crash = absurd run
leaves-fault leaves held (e ∷ ds) [] between d more a run sound is crash = absurd run
leaves-fault leaves held (e ∷ ds) (x ∷ rs) between d more a run sound is crash =
    leaves-cons leaves held e (ds ++ d ∷ more) x (rs ++ a ∷ []) sound.0 run.0 run.1 (leaves-fault leaves run.0 ds rs between d more a run.2 sound.1 is crash)

pub none-push : (P : Answer → Type 0) (rs : List Answer) (a : Answer) → IsNone P rs → ¬ (P a) → IsNone P (rs ++ a ∷ [])
none-push P [] a none last = (last, tt)
none-push P (r ∷ rs) a none last = (none.0, none-push P rs a none.1 last)

pub own-push : (rs : List Answer) (a : Answer) → AreOwn rs → IsOwn a → AreOwn (rs ++ a ∷ [])
own-push [] a all own = (own, tt)
own-push (r ∷ rs) a all own = (all.0, own-push rs a all.1 own)
