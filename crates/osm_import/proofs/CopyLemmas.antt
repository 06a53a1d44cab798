-- From the copies of single blobs to the copy of a map.
use Rattle.std.proofs.Common.{◌≡◌, ◌≢◌, ◌⊎◌, ℕ, suc, zero, ◌+◌, ◌<◌, ◌≤◌, true, List, [], ◌∷◌, ◌++◌, map, length, take, get_or, Option, Some, None, Ok, Err, cond, is_some, add-one, sym, ◌∙◌, ap, subst, inl, inr, arith}
use Rattle.std.specs.FinMap as finite
use Rattle.std.specs.FinMap.{get, insert, entries, get-entries, entries_sorted, is_sorted}
use Rattle.std.specs.Ordering.{nat_cmp}
use Rattle.std.proofs.lemmas.Bool.Decides.{eqb_tells}
use Rattle.std.proofs.lemmas.List.{take_all, take_more, length-map}
use Rattle.osm_rows.specs.Held.{Blob, HeldMap, IsFree, IsApart}
use Rattle.osm_rows.specs.HeldLaws.{get-insert_here, get-insert_other, get-insert_cases, IsFree-unheld}
use Rattle.osm_rows.specs.Keeping.{extents_of, extent_of}
use Rattle.osm_rows.specs.declared.keeper.Extent.{Extent}
use Rattle.osm_value.specs.declared.element.Element.{Element}
use Rattle.osm_rows.specs.declared.fault.StoreFault.{StoreFault}
use Rattle.osm_import.specs.Step.{HasCause}
use Rattle.osm_import.specs.declared.answer.Conflict.TheVariants.{Differs, Overlap}
use Rattle.osm_import.specs.declared.copy.CopyFault.{CopyFault}
use Rattle.osm_import.specs.declared.copy.CopyFault.TheVariants.{Refused, Spoiled, Store}
use Rattle.osm_import.specs.declared.copy.BlobCopy.{BlobCopy}
use Rattle.osm_import.specs.declared.copy.BlobCopy.TheVariants.{Added, AlreadyHeld}
use Rattle.osm_import.specs.Places.{IsMet}
use Rattle.osm_import.specs.Copies.{IsMerged, IsUnited, IsUnitedBelow, held_among, IsCopyStep, CopiesBlob, Stops, FaultIsCaused, FaultTells}
use Rattle.osm_import.proofs.Touching.{find-cons, find-tail, find-head, sorted-tail}
use Rattle.osm_import.proofs.Delivering.{true-of, both-held, none-held, not-held}

-- ---- which offsets were taken

-- one of these extents begins there
abbrev pub IsAt : List Extent → ℕ → Type 0
IsAt [] off = ⊥
IsAt (e ∷ es) off = (off ≡ e.off) ⊎ IsAt es off

at_first : (es fs : List Extent) (off : ℕ) → IsAt es off → IsAt (es ++ fs) off
at_first [] fs off at = absurd at
at_first (e ∷ es) fs off at = elim at [ inl here ↦ inl here | inr later ↦ inr (at_first es fs off later) ]

at_last : (es : List Extent) (x : Extent) (off : ℕ) → off ≡ x.off → IsAt (es ++ x ∷ []) off
at_last [] x off here = inl here
at_last (e ∷ es) x off here = inr (at_last es x off here)

at_split : (es : List Extent) (x : Extent) (off : ℕ) → IsAt (es ++ x ∷ []) off → IsAt es off ⊎ (off ≡ x.off)
at_split [] x off at = elim at [ inl here ↦ inr here | inr none ↦ absurd none ]
at_split (e ∷ es) x off at = elim at [
  | inl here ↦ inl (inl here)
  | inr later ↦ elim (at_split es x off later) [ inl front ↦ inl (inr front) | inr here ↦ inr here ]
]

-- ---- one more blob

-- a relation that says the same of the offsets of the source
pub merged_as : (P Q : ℕ → Type 0) (source held after : HeldMap) → ((off : ℕ) (blob : Blob) → get source off ≡ Some blob → (P off → Q off) × (Q off → P off)) → IsMerged P source held after → IsMerged Q source held after
merged_as P Q source held after says m = record {
  kept = m.kept;
  added = λ off blob taken is free. m.added off blob ((says off blob is).1 taken) is free;
  only = λ off blob is. elim (m.only off blob is) [ inl was ↦ inl was | inr (taken, of, free) ↦ inr ((says off blob of).0 taken, of, free) ];
  same = λ off blob other taken is was. m.same off blob other ((says off blob is).1 taken) is was;
}

pub merged_none : (P : ℕ → Type 0) (source held : HeldMap) → ((off : ℕ) → ¬ (P off)) → IsMerged P source held held
merged_none P source held none = record {
  kept = λ off blob is. is;
  added = λ off blob taken is free. absurd (none off taken);
  only = λ off blob is. inl is;
  same = λ off blob other taken is was. absurd (none off taken);
}

-- a blob of the source was added at a free place
pub merged_add : (P : ℕ → Type 0) (source held middle : HeldMap) (o : ℕ) (blob : Blob) → IsMerged P source held middle → get source o ≡ Some blob → get middle o ≡ None
    → IsMerged (λ off. P off ⊎ (off ≡ o)) source held (insert middle o blob)
merged_add P source held middle o blob m of free = record {
  kept = λ off x is. (let apart : off ≢ o = λ here. not-held middle o x (sym (ap (get middle) here) ∙ m.kept off x is) free in get-insert_other middle o blob off apart ∙ m.kept off x is);
  added = λ off x taken is none. elim (eqb_tells off o) [
    | inl (_, here) ↦ (let one : x ≡ blob = both-held source o x blob (sym (ap (get source) here) ∙ is) of in ap (get (insert middle o blob)) here ∙ get-insert_here middle o blob ∙ ap Some (sym one))
    | inr (_, apart) ↦ elim taken [
      | inl before ↦ get-insert_other middle o blob off apart ∙ m.added off x before is none
      | inr here ↦ absurd (apart here)
    ]
  ];
  only = λ off x is. elim (get-insert_cases middle o blob off x is) [
    | inl (here, one) ↦
        let there : get source off ≡ Some x = ap (get source) here ∙ of ∙ ap Some (sym one) in
        inr (inr here, there, none-held (get held off) (λ y was. not-held middle o y (sym (ap (get middle) here) ∙ m.kept off y was) free))
    | inr (_, was) ↦ elim (m.only off x was) [ inl old ↦ inl old | inr (taken, there, free_there) ↦ inr (inl taken, there, free_there) ]
  ];
  same = λ off x other taken is was. elim taken [
    | inl before ↦ m.same off x other before is was
    | inr here ↦ not-held middle o other (sym (ap (get middle) here) ∙ m.kept off other was) free
  ];
}

-- a blob of the source is held already, with its digest
pub merged_held : (P : ℕ → Type 0) (source held middle : HeldMap) (o : ℕ) (blob other : Blob) → IsMerged P source held middle → get source o ≡ Some blob → get middle o ≡ Some other → other.digest ≡ blob.digest
    → IsMerged (λ off. P off ⊎ (off ≡ o)) source held middle
merged_held P source held middle o blob other m of found digest = record {
  kept = m.kept;
  added = λ off x taken is none. elim taken [
    | inl before ↦ m.added off x before is none
    | inr here ↦
        let there : get middle off ≡ Some other = ap (get middle) here ∙ found in
        elim (m.only off other there) [
          | inl was ↦ not-held held off other was none
          | inr (_, same, _) ↦ there ∙ ap Some (both-held source off other x same is)
        ]
  ];
  only = λ off x is. elim (m.only off x is) [ inl old ↦ inl old | inr (taken, there, free_there) ↦ inr (inl taken, there, free_there) ];
  same = λ off x y taken is was. elim taken [
    | inl before ↦ m.same off x y before is was
    | inr here ↦
        let one : y ≡ other = both-held middle off y other (m.kept off y was) (ap (get middle) here ∙ found) in
        let two : x ≡ blob = both-held source off x blob is (ap (get source) here ∙ of) in
        ap (λ (b : Blob). b.digest) one ∙ digest ∙ sym (ap (λ (b : Blob). b.digest) two)
  ];
}

-- ---- entries and extents

-- what is found is at the offset of an extent
at_found : (es : List (ℕ × Blob)) (off : ℕ) (blob : Blob) → finite.find nat_cmp off es ≡ Some blob → IsAt (map extent_of es) off
at_found [] off blob found = absurd (cc)
at_found (e ∷ es) off blob found = elim (eqb_tells off e.0) [
  | inl (_, same) ↦ inl same
  | inr (test, apart) ↦ inr (at_found es off blob (sym (find-cons off e es ∙ ap (λ b. cond b (Some e.1) (finite.find nat_cmp off es)) test) ∙ found))
]

-- the blob of the extent at i
record AtPlace (es : List (ℕ × Blob)) (x : Extent) : Type 0 where
  pub blob : Blob
  pub found : finite.find nat_cmp x.off es ≡ Some blob
  pub same : x ≡ extent_of (x.off, blob)

at_place : (es : List (ℕ × Blob)) → is_sorted nat_cmp es ≡ true → (i : ℕ) (x : Extent) → i < length (map extent_of es) → x ≡ get_or (map extent_of es) i x → AtPlace es x
at_place [] sorted i x within is = absurd (omega arith)
at_place (e ∷ es) sorted zero x within is =
    let first : x.off ≡ e.0 = ap (λ (y : Extent). y.off) is in
    record { blob = e.1; found = ap (λ n. finite.find nat_cmp n (e ∷ es)) first ∙ find-head e es; same = is ∙ ap (λ n. extent_of (n, e.1)) (sym first) }
at_place (e ∷ es) sorted (suc i) x within is =
    let it = at_place es (sorted-tail e es sorted) i x (omega arith) is in
    record { blob = it.blob; found = (find-tail e es sorted x.off it.blob it.found).1; same = it.same }

-- the extents in front of one are those that begin below it
front_below : (es : List (ℕ × Blob)) → is_sorted nat_cmp es ≡ true → (i : ℕ) (x : Extent) → i < length (map extent_of es) → x ≡ get_or (map extent_of es) i x → (off : ℕ) (blob : Blob) → finite.find nat_cmp off es ≡ Some blob
    → (IsAt (take i (map extent_of es)) off → off < x.off) × (off < x.off → IsAt (take i (map extent_of es)) off)
front_below [] sorted i x within is off blob found = absurd (omega arith)
front_below (e ∷ es) sorted zero x within is off blob found =
    let first : x.off ≡ e.0 = ap (λ (y : Extent). y.off) is in (
      (λ none. absurd none),
      (λ low. elim (eqb_tells off e.0) [
        | inl (_, same) ↦ absurd (omega arith)
        | inr (test, apart) ↦
            let there : finite.find nat_cmp off es ≡ Some blob = sym (find-cons off e es ∙ ap (λ b. cond b (Some e.1) (finite.find nat_cmp off es)) test) ∙ found in
            let later : e.0 < off = (find-tail e es sorted off blob there).0 in absurd (omega arith)
      ]),
    )
front_below (e ∷ es) sorted (suc i) x within is off blob found = elim (eqb_tells off e.0) [
  | inl (_, same) ↦
      let it = at_place es (sorted-tail e es sorted) i x (omega arith) is in
      let later : e.0 < x.off = (find-tail e es sorted x.off it.blob it.found).0 in ((λ at. omega arith), (λ low. inl same))
  | inr (test, apart) ↦
      let there : finite.find nat_cmp off es ≡ Some blob = sym (find-cons off e es ∙ ap (λ b. cond b (Some e.1) (finite.find nat_cmp off es)) test) ∙ found in
      let it = front_below es (sorted-tail e es sorted) i x (omega arith) is off blob there in (
        (λ at. elim at [ inl here ↦ absurd (apart here) | inr behind ↦ it.0 behind ]),
        (λ low. inr (it.1 low)),
      )
]

-- ---- the copy so far

-- the blob of the extent at i of a source
pub record AtBlob (source : HeldMap) (x : Extent) : Type 0 where
  pub blob : Blob
  pub found : get source x.off ≡ Some blob
  pub same : x ≡ extent_of (x.off, blob)

pub at_blob : (source : HeldMap) (extents : List Extent) (i : ℕ) (x : Extent) → extents ≡ extents_of source → i < length extents → x ≡ get_or extents i x → AtBlob source x
at_blob source extents i x are within is =
    let it = at_place (entries source) (true-of _ (entries_sorted source)) i x (subst (λ (xs : List Extent). i < length xs) are within) (is ∙ ap (λ (xs : List Extent). get_or xs i x) are) in
    record { blob = it.blob; found = get-entries source x.off ∙ it.found; same = it.same }

-- one more extent is behind
pub taken_more : (extents : List Extent) (i : ℕ) (x : Extent) (source held after : HeldMap) → i < length extents → x ≡ get_or extents i x
    → IsMerged (λ off. IsAt (take i extents) off ⊎ (off ≡ x.off)) source held after → IsMerged (λ off. IsAt (take (i + 1) extents) off) source held after
taken_more extents i x source held after within is m =
    let more : take (i + 1) extents ≡ take i extents ++ x ∷ [] = take_more extents i x within ∙ ap (λ (y : Extent). take i extents ++ y ∷ []) (sym is) in
    subst (λ (xs : List Extent). IsMerged (λ off. IsAt xs off) source held after) (sym more)
    (merged_as (λ off. IsAt (take i extents) off ⊎ (off ≡ x.off)) (λ off. IsAt (take i extents ++ x ∷ []) off) source held after
    (λ off blob is. ((λ either. elim either [ inl front ↦ at_first (take i extents) (x ∷ []) off front | inr here ↦ at_last (take i extents) x off here ]), at_split (take i extents) x off)) m)

-- those in front of an extent are those below it
pub taken_below : (extents : List Extent) (i : ℕ) (x : Extent) (source held after : HeldMap) → extents ≡ extents_of source → i < length extents → x ≡ get_or extents i x
    → IsMerged (λ off. IsAt (take i extents) off) source held after → IsUnitedBelow x.off source held after
taken_below extents i x source held after are within is m =
    merged_as (λ off. IsAt (take i (extents_of source)) off) (λ off. off < x.off) source held after
    (λ off blob found. front_below (entries source) (true-of _ (entries_sorted source)) i x (subst (λ (xs : List Extent). i < length xs) are within) (is ∙ ap (λ (xs : List Extent). get_or xs i x) are) off blob (sym (get-entries source off) ∙ found))
    (subst (λ (xs : List Extent). IsMerged (λ off. IsAt (take i xs) off) source held after) are m)

-- at the end all are
pub taken_all : (extents : List Extent) (i : ℕ) (source held after : HeldMap) → extents ≡ extents_of source → length extents ≤ i
    → IsMerged (λ off. IsAt (take i extents) off) source held after → IsUnited source held after
taken_all extents i source held after are all m =
    merged_as (λ off. IsAt extents off) (λ off. Unit {0}) source held after
    (λ off blob found. ((λ at. tt), (λ any. subst (λ (xs : List Extent). IsAt xs off) (sym are) (at_found (entries source) off blob (sym (get-entries source off) ∙ found)))))
    (subst (λ (xs : List Extent). IsMerged (λ off. IsAt xs off) source held after) (take_all i extents all) m)

pub counted_all : (source : HeldMap) (extents : List Extent) → extents ≡ extents_of source → length extents ≡ length (entries source)
counted_all source extents are = ap length are ∙ length-map (entries source) extent_of

-- ---- one blob

-- the blob that is put is the one that stands behind the extent
pub blob_put : (off : ℕ) (x : Extent) (blob : Blob) (elements : List Element) → x ≡ extent_of (off, blob) → elements ≡ blob.elements
    → (record { fin = x.fin; digest = x.digest; kind = x.kind; elements = elements }) ≡ blob
blob_put off x blob elements same are = λ i. record { fin = (same i).fin; digest = (same i).digest; kind = (same i).kind; elements = are i }

-- ---- one blob more

pub merged_step : (P : ℕ → Type 0) (source held middle after : HeldMap) (o : ℕ) (blob : Blob) (answer : BlobCopy) → IsMerged P source held middle → IsApart middle → o < blob.fin → get source o ≡ Some blob
    → IsCopyStep middle o blob (Ok answer) after → IsMerged (λ off. P off ⊎ (off ≡ o)) source held after
merged_step P source held middle after o blob Added m apart order of step =
    subst (λ (h : HeldMap). IsMerged (λ off. P off ⊎ (off ≡ o)) source held h) (sym step.1)
    (merged_add P source held middle o blob m of (none-held (get middle o) (IsFree-unheld middle o blob.fin apart step.0 order)))
merged_step P source held middle after o blob AlreadyHeld m apart order of step =
    subst (λ (h : HeldMap). IsMerged (λ off. P off ⊎ (off ≡ o)) source held h) (sym step.3)
    (merged_held P source held middle o blob step.0 m of step.1 step.2)

-- what a crash leaves at a blob is the map below it, or that with it
pub crash_below : (source held middle left : HeldMap) (o : ℕ) (blob : Blob) → IsUnitedBelow o source held middle → IsApart middle → o < blob.fin → get source o ≡ Some blob
    → (left ≡ middle) ⊎ (IsFree middle o blob.fin × (left ≡ insert middle o blob)) → (place : ℕ) × IsUnitedBelow place source held left
crash_below source held middle left o blob m apart order of either = elim either [
  | inl same ↦ (o, subst (λ (h : HeldMap). IsUnitedBelow o source held h) (sym same) m)
  | inr (free, more) ↦ (
    o + 1,
    subst (λ (h : HeldMap). IsUnitedBelow (o + 1) source held h) (sym more)
        (merged_as (λ off. (off < o) ⊎ (off ≡ o)) (λ off. off < o + 1) source held (insert middle o blob)
        (λ off b is. (
          (λ at. elim at [ inl low ↦ omega arith | inr here ↦ omega arith ]),
          (λ low. elim (eqb_tells off o) [ inl (_, here) ↦ inr here | inr (_, apart_from) ↦ inl (omega arith) ]),
        ))
        (merged_add (λ off. off < o) source held middle o blob m of (none-held (get middle o) (IsFree-unheld middle o blob.fin apart free order)))),
  )
]

-- where the copy of a blob fails, the copy of the map stops there
pub stops_at : (is_open : Type 0) (holds : HeldMap → Type 0) (source held middle : HeldMap) (o : ℕ) (blob : Blob) (fault : CopyFault) → IsUnitedBelow o source held middle → get source o ≡ Some blob
    → CopiesBlob is_open holds middle o blob (Err fault) → Stops is_open holds source held o fault
stops_at is_open holds source held middle o blob (Refused Differs) m of (after, step, holds_after) = (
  after,
  subst (λ (h : HeldMap). IsUnitedBelow o source held h) (sym step.3) m,
  (blob, step.0, of, ap (λ (h : HeldMap). get h o) step.3 ∙ step.1, step.2),
  holds_after,
)
stops_at is_open holds source held middle o blob (Refused Overlap) m of (after, step, holds_after) = (
  after,
  subst (λ (h : HeldMap). IsUnitedBelow o source held h) (sym step.2) m,
  (blob, of, ap (λ (h : HeldMap). get h o) step.2 ∙ step.0, subst (λ (h : HeldMap). IsMet h o blob.fin) (sym step.2) step.1),
  holds_after,
)
stops_at is_open holds source held middle o blob Spoiled m of (after, step, holds_after) = step
stops_at is_open holds source held middle o blob (Store fault) m of still = (middle, m, still)

-- why a fault is answered, over more calls
pub cause_wider : (f0 f1 f2 t0 t1 t2 : ℕ) (fault : CopyFault) → f0 ≤ f1 → t0 ≤ t1 → FaultIsCaused f1 f2 t1 t2 fault → FaultIsCaused f0 f2 t0 t2 fault
cause_wider f0 f1 f2 t0 t1 t2 (Refused conflict) f t cause = tt
cause_wider f0 f1 f2 t0 t1 t2 Spoiled f t cause = tt
cause_wider f0 f1 f2 t0 t1 t2 (Store fault) f t cause = elim cause [
  | inl from ↦ inl (wider f0 f1 f2 fault f from)
  | inr to ↦ inr (wider t0 t1 t2 fault t to)
]
  where
    wider : (a b c : ℕ) (fault : StoreFault) → a ≤ b → HasCause b c fault → HasCause a c fault
    wider a b c fault less it = elim it [ inl memory ↦ inl memory | inr (inl rose) ↦ inr (inl (omega arith)) | inr (inr full) ↦ inr (inr full) ]

-- no call had failed before
pub tells_on : (f0 f1 f2 t0 t1 t2 : ℕ) (fault : CopyFault) → f1 ≡ f0 → t1 ≡ t0 → FaultTells f1 f2 t1 t2 fault → FaultTells f0 f2 t0 t2 fault
tells_on f0 f1 f2 t0 t1 t2 (Refused conflict) f t told = (told.0 ∙ f, told.1 ∙ t)
tells_on f0 f1 f2 t0 t1 t2 Spoiled f t told = (told.0 ∙ f, told.1 ∙ t)
tells_on f0 f1 f2 t0 t1 t2 (Store fault) f t told = tt

-- ---- the counts

-- whether it was held already, as a count
abbrev pub already : BlobCopy → ℕ
already Added = 0
already AlreadyHeld = 1

held_more_at : (held : HeldMap) (es : List (ℕ × Blob)) (i : ℕ) (x : Extent) → i < length (map extent_of es) → x ≡ get_or (map extent_of es) i x
    → held_among held (take (suc i) es) ≡ held_among held (take i es) + cond (is_some (get held x.off)) 1 0
held_more_at held [] i x within is = absurd (omega arith)
held_more_at held (e ∷ es) zero x within is =
    let first : x.off ≡ e.0 = ap (λ (y : Extent). y.off) is in
    let same : ◌≡◌ {A = ℕ} (cond (is_some (get held x.off)) 1 0) (cond (is_some (get held e.0)) 1 0) = ap (λ n. cond (is_some (get held n)) 1 0) first in omega (arith, same)
held_more_at held (e ∷ es) (suc i) x within is =
    let rest = held_more_at held es i x (omega arith) is in omega (arith, rest)

-- one blob more that was held, or wasn't
pub held_more : (source held : HeldMap) (extents : List Extent) (i : ℕ) (x : Extent) (n m : ℕ) → extents ≡ extents_of source → i < length extents → x ≡ get_or extents i x
    → n ≡ held_among held (take i (entries source)) → m ≡ n + cond (is_some (get held x.off)) 1 0 → m ≡ held_among held (take (i + 1) (entries source))
held_more source held extents i x n m are within is before more =
    let at = held_more_at held (entries source) i x (subst (λ (xs : List Extent). i < length xs) are within) (is ∙ ap (λ (xs : List Extent). get_or xs i x) are) in
    let next : held_among held (take (i + 1) (entries source)) ≡ held_among held (take (suc i) (entries source)) = ap (λ k. held_among held (take k (entries source))) (add-one i) in
    omega (arith, at, next, before, more)

pub held_all : (source held : HeldMap) (extents : List Extent) (i : ℕ) (n : ℕ) → extents ≡ extents_of source → length extents ≤ i → n ≡ held_among held (take i (entries source)) → n ≡ held_among held (entries source)
held_all source held extents i n are all is =
    let some = counted_all source extents are in is ∙ ap (held_among held) (take_all i (entries source) (omega (arith, some)))

-- a blob that is added wasn't held, and one that is held already was: at its own place nothing was added before
pub held_by : (source held middle after : HeldMap) (extents : List Extent) (i : ℕ) (x : Extent) (blob : Blob) (answer : BlobCopy) → extents ≡ extents_of source → i < length extents → x ≡ get_or extents i x
    → IsMerged (λ off. IsAt (take i extents) off) source held middle → IsApart middle → x.off < blob.fin → get source x.off ≡ Some blob → IsCopyStep middle x.off blob (Ok answer) after
    → ◌≡◌ {A = ℕ} (cond (is_some (get held x.off)) 1 0) (already answer)
held_by source held middle after extents i x blob Added are within is m apart order of step =
    let none = none-held (get middle x.off) (IsFree-unheld middle x.off blob.fin apart step.0 order) in
    let was = none-held (get held x.off) (λ y there. not-held middle x.off y (m.kept x.off y there) none) in ap (λ (o : Option Blob). cond (is_some o) 1 0) was
held_by source held middle after extents i x blob AlreadyHeld are within is m apart order of step = elim (m.only x.off step.0 step.1) [
  | inl was ↦ ap (λ (o : Option Blob). cond (is_some o) 1 0) was
  | inr (taken, there, free) ↦
      let below = front_below (entries source) (true-of _ (entries_sorted source)) i x (subst (λ (xs : List Extent). i < length xs) are within) (is ∙ ap (λ (xs : List Extent). get_or xs i x) are) x.off blob (sym (get-entries source x.off) ∙ of) in
      let low : x.off < x.off = below.0 (subst (λ (xs : List Extent). IsAt (take i xs) x.off) are taken) in absurd (omega arith)
]
