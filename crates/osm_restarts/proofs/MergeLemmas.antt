-- A merge that a crash broke off, begun again.
use Rattle.std.proofs.Common.{◌≡◌, ◌∙◌, ℕ, zero, suc, ◌<◌, List, [], ◌∷◌, Some, None, refl, sym, ap, subst, inl, inr, arith}
use Rattle.std.proofs.lemmas.Bool.{cases_lt}
use Rattle.std.specs.FinMap.{get}
use Rattle.sqlite_disk.specs.declared.Disk.{Ghosts}
use Rattle.sqlite_wal.proofs.LogLemmas.{SeenMayStay}
use Rattle.sqlite_store.specs.declared.store.FileStore.{FileStore}
use Rattle.sqlite_store.specs.FileStore.{view}
use Rattle.osm_rows.specs.declared.schema.layout.Layout.TheVariants.{Tables}
use Rattle.osm_rows.specs.Held.{Blob, HeldMap}
use Rattle.osm_trees.specs.Below.{HoldsBelow}
use Rattle.osm_import.specs.Copies.{IsMerged, IsUnited, IsUnitedBelow}
use Rattle.osm_import.specs.Merges.{AreUnited, IsFrontUnited, IsUnionRefused}
use Rattle.osm_import.specs.declared.answer.Conflict.{Conflict}
use Rattle.osm_import.proofs.MergeLemmas.{front_begun, one_map, unions_are_taken_again}
use Rattle.osm_restarts.specs.Merged.{MergeGoesOn, MergeRestart, AreMergeRestarts}
use Rattle.osm_restarts.proofs.Events.{can_crash}
use Rattle.osm_restarts.proofs.Held.{reopened_holds}
use Rattle.osm_restarts.proofs.Resumed.{held_or_free, merged_again, not_free, one_blob, refused_again, taken_there, united_again}

-- ---- one source, of which all was taken that is taken again

-- what is held stays in each front
front_keeps : (sources : List HeldMap) (held left : HeldMap) → IsFrontUnited sources held left → (off : ℕ) (blob : Blob) → get held off ≡ Some blob → get left off ≡ Some blob
front_keeps [] held left same off blob is = ap (λ (h : HeldMap). get h off) same ∙ is
front_keeps (source ∷ sources) held left (inl (below, part)) off blob is = part.kept off blob is
front_keeps (source ∷ sources) held left (inr (next, united, rest)) off blob is = front_keeps sources next left rest off blob (united.kept off blob is)

-- nothing more is added
nothing_more : (Taken Fewer : ℕ → Type 0) (source held next left after : HeldMap) → ((off : ℕ) → Fewer off → Taken off) → IsMerged Taken source held next
    → ((off : ℕ) (blob : Blob) → get next off ≡ Some blob → get left off ≡ Some blob) → IsMerged Fewer source left after → after ≡ left
nothing_more Taken Fewer source held next left after within one keeps two = one_map after left (λ off blob. (
  (λ is. elim (two.only off blob is) [
    | inl was ↦ was
    | inr (less, of, free) ↦ (let it = taken_there Taken source held next one off blob (within off less) of in absurd (not_free left off it.0 (keeps off it.0 it.1) free))
  ]),
  (λ is. two.kept off blob is),
))

-- and what is held is the union
united_still : (source held next left : HeldMap) → IsUnited source held next → ((off : ℕ) (blob : Blob) → get next off ≡ Some blob → get left off ≡ Some blob) → IsUnited source left left
united_still source held next left united keeps = record {
  kept = λ off blob is. is;
  added = λ off blob taken of free. (let it = taken_there (λ at. Unit {0}) source held next united off blob tt of in absurd (not_free left off it.0 (keeps off it.0 it.1) free));
  only = λ off blob is. inl is;
  same = λ off blob other taken of is.
      let it = taken_there (λ at. Unit {0}) source held next united off blob tt of in
      let one : it.0 ≡ other = one_blob left off it.0 other (keeps off it.0 it.1) is in
      sym (ap (λ (b : Blob). b.digest) one) ∙ it.2;
}

-- a union is one map
one_union : (source held one other : HeldMap) → IsUnited source held one → IsUnited source held other → one ≡ other
one_union source held one other first second = one_map one other (λ off blob. (within one other first second off blob, within other one second first off blob))
  where
    within : (a b : HeldMap) → IsUnited source held a → IsUnited source held b → (off : ℕ) (blob : Blob) → get a off ≡ Some blob → get b off ≡ Some blob
    within a b into also off blob is = elim (into.only off blob is) [ inl was ↦ also.kept off blob was | inr (taken, of, free) ↦ also.added off blob taken of free ]

-- that of what was held with a part of the source is the same
united_onward : (Taken : ℕ → Type 0) (source held left after : HeldMap) → IsMerged Taken source held left → IsUnited source held after → IsUnited source left after
united_onward Taken source held left after part whole = record {
  kept = λ off blob is. elim (part.only off blob is) [ inl was ↦ whole.kept off blob was | inr (taken, of, free) ↦ whole.added off blob tt of free ];
  added = λ off blob taken of free. whole.added off blob tt of (free_before off free);
  only = λ off blob is. elim (held_or_free left off (get left off) refl) [
    | inl (other, there) ↦ inl (there ∙ ap (λ (b : Blob). Some b) (one_blob after off other blob (stays off other there) is))
    | inr free ↦ elim (whole.only off blob is) [ inl was ↦ inl (part.kept off blob was) | inr (taken, of, none) ↦ inr (tt, of, free) ]
  ];
  same = λ off blob other taken of is. elim (part.only off other is) [
    | inl was ↦ whole.same off blob other tt of was
    | inr (_, there, none) ↦ ap (λ (b : Blob). b.digest) (one_blob source off other blob there of)
  ];
}
  where
    stays : (off : ℕ) (blob : Blob) → get left off ≡ Some blob → get after off ≡ Some blob
    stays off blob is = elim (part.only off blob is) [ inl was ↦ whole.kept off blob was | inr (taken, of, free) ↦ whole.added off blob tt of free ]

    free_before : (off : ℕ) → get left off ≡ None → get held off ≡ None
    free_before off free = elim (held_or_free held off (get held off) refl) [ inl (blob, was) ↦ absurd (not_free left off blob (part.kept off blob was) free) | inr none ↦ none ]

-- ---- all sources

pub fronts_again : (sources : List HeldMap) (held left after : HeldMap) → IsFrontUnited sources held left → AreUnited sources left after → AreUnited sources held after
fronts_again [] held left after same rest = rest ∙ same
fronts_again (source ∷ sources) held left after (inl (below, part)) (n, also, rest) = (n, united_again source held left (inr (below, part)) n also, rest)
fronts_again (source ∷ sources) held left after (inr (next, united, front)) (n, also, rest) =
    let same = nothing_more (λ at. Unit {0}) (λ at. Unit {0}) source held next left n (λ at taken. tt) united (front_keeps sources next left front) also in
    (next, united, fronts_again sources next left after front (subst (λ (h : HeldMap). AreUnited sources h after) same rest))

pub fronts_onward : (sources : List HeldMap) (held left after : HeldMap) → IsFrontUnited sources held left → AreUnited sources held after → AreUnited sources left after
fronts_onward [] held left after same rest = rest ∙ sym same
fronts_onward (source ∷ sources) held left after (inl (below, part)) (n, also, rest) = (n, united_onward (λ at. at < below) source held left n part also, rest)
fronts_onward (source ∷ sources) held left after (inr (next, united, front)) (n, also, rest) =
    let same = one_union source held n next also united in
    (left, united_still source held next left united (front_keeps sources next left front), fronts_onward sources next left after front (subst (λ (h : HeldMap). AreUnited sources h after) same rest))

pub fronts_refused : (sources : List HeldMap) (place off : ℕ) (conflict : Conflict) (held left after : HeldMap) → IsFrontUnited sources held left → IsUnionRefused sources place off conflict left after
    → IsUnionRefused sources place off conflict held after
fronts_refused [] place off conflict held left after same never = never
fronts_refused (source ∷ sources) zero off conflict held left after (inl (below, part)) (upto, refused) = (refused_again source held left (inr (below, part)) off conflict after upto refused, refused)
fronts_refused (source ∷ sources) zero off conflict held left after (inr (next, united, front)) (upto, refused) =
    absurd (unions_are_taken_again source left left after off off conflict (united_still source held next left united (front_keeps sources next left front)) upto refused)
fronts_refused (source ∷ sources) (suc place) off conflict held left after (inl (below, part)) (n, also, rest) = (n, united_again source held left (inr (below, part)) n also, rest)
fronts_refused (source ∷ sources) (suc place) off conflict held left after (inr (next, united, front)) (n, also, rest) =
    let same = nothing_more (λ at. Unit {0}) (λ at. Unit {0}) source held next left n (λ at taken. tt) united (front_keeps sources next left front) also in
    (next, united, fronts_refused sources place off conflict next left after front (subst (λ (h : HeldMap). IsUnionRefused sources place off conflict h after) same rest))

-- the longer of two parts of one source
below_both : (source held left more : HeldMap) (below further : ℕ) → IsUnitedBelow below source held left → IsUnitedBelow further source left more → (place : ℕ) × IsUnitedBelow place source held more
below_both source held left more below further one two = elim (cases_lt further below) [
  | inl less ↦ (let same = nothing_more (λ at. at < below) (λ at. at < further) source held left left more (λ at within. omega (arith, within, less)) one (λ off blob is. is) two in
      (below, subst (λ (h : HeldMap). IsUnitedBelow below source held h) (sym same) one))
  | inr behind ↦ (further, merged_again (λ at. at < below) (λ at. at < further) source held left more (λ at within. omega (arith, within, behind)) one two)
]

pub fronts_further : (sources : List HeldMap) (held left more : HeldMap) → IsFrontUnited sources held left → IsFrontUnited sources left more → IsFrontUnited sources held more
fronts_further [] held left more same rest = rest ∙ same
fronts_further (source ∷ sources) held left more (inl (below, part)) (inl (further, also)) = inl (below_both source held left more below further part also)
fronts_further (source ∷ sources) held left more (inl (below, part)) (inr (n, also, rest)) = inr (n, united_again source held left (inr (below, part)) n also, rest)
fronts_further (source ∷ sources) held left more (inr (next, united, front)) (inl (further, also)) =
    let same = nothing_more (λ at. Unit {0}) (λ at. at < further) source held next left more (λ at within. tt) united (front_keeps sources next left front) also in
    inr (next, united, subst (λ (h : HeldMap). IsFrontUnited sources next h) (sym same) front)
fronts_further (source ∷ sources) held left more (inr (next, united, front)) (inr (n, also, rest)) =
    let same = nothing_more (λ at. Unit {0}) (λ at. Unit {0}) source held next left n (λ at taken. tt) united (front_keeps sources next left front) also in
    inr (next, united, fronts_further sources next left more front (subst (λ (h : HeldMap). IsFrontUnited sources h more) same rest))

-- ---- a store over files

pub merge_goes_on : {D : Type 0} {g : Ghosts D} → SeenMayStay g → (it : FileStore D g) (sources : List HeldMap) (held left : HeldMap) → IsFrontUnited sources held left → HoldsBelow Tables (view it) left → MergeGoesOn sources held left it
merge_goes_on stays it sources held left front holds = record {
  holds = holds;
  merged = front;
  again = λ after. (fronts_again sources held left after front, fronts_onward sources held left after front);
  refused = λ place off conflict after. fronts_refused sources place off conflict held left after front;
  further = λ more. fronts_further sources held left more front;
  crash = can_crash stays it left holds;
}

-- one restart after the other, of a merge that came to a front before
pub merges_go_on : {D : Type 0} {g : Ghosts D} → SeenMayStay g → (sources : List HeldMap) (restarts : List (MergeRestart g)) (held middle : HeldMap) (first last : FileStore D g) → IsFrontUnited sources held middle
    → HoldsBelow Tables (view first) middle → AreMergeRestarts sources first restarts last → (left : HeldMap) × MergeGoesOn sources held left last
merges_go_on {D} {g} stays sources [] held middle first last front holds same =
    (middle, merge_goes_on stays last sources held middle front (subst (λ (s : FileStore D g). HoldsBelow Tables (view s) middle) (sym same) holds))
merges_go_on stays sources (r ∷ restarts) held middle first last front holds (one, others) =
    let left = one.merged middle holds in
    let found = reopened_holds r.before r.after left.whole one.reopened in
    merges_go_on stays sources restarts held found.0 r.after last (fronts_further sources held middle found.0 front (left.front found.0 found.1)) found.2 others

pub merges_begin : {D : Type 0} {g : Ghosts D} → SeenMayStay g → (sources : List HeldMap) (restarts : List (MergeRestart g)) (held : HeldMap) (first last : FileStore D g)
    → HoldsBelow Tables (view first) held → AreMergeRestarts sources first restarts last → (left : HeldMap) × MergeGoesOn sources held left last
merges_begin stays sources restarts held first last = merges_go_on stays sources restarts held held first last (front_begun sources held)
