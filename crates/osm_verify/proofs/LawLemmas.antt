-- Where all frames are held alike and nothing else is held, it is what an import of them comes to.
use Rattle.std.proofs.Common.{◌≡◌, ℕ, ◌+◌, ◌<◌, ◌≤◌, ◌&&◌, Bool, true, false, T, cond, eqb, List, [], ◌∷◌, map, length, Ordering, Less, Equal, Greater, Option, Some, None, refl, sym, ◌∙◌, ap, subst, inl, inr, arith}
use Rattle.std.specs.Ordering.{nat_cmp, is_lt}
use Rattle.std.specs.Cmp.{nat_cmp_total, unsigned_tied}
use Rattle.std.specs.FinMap as finite
use Rattle.std.specs.FinMap.{get, entries, get-entries, entries_sorted}
use Rattle.std.specs.FinMap.Entries.{below_all, is_sorted, same_entries}
use Rattle.std.proofs.lemmas.Bool.Decides.{eqb_tells, leb_tells}
use Rattle.pbf_frame.specs.declared.part.TheConstants.{MAX_OFFSET}
use Rattle.osm_rows.specs.Held.{Blob, HeldMap, IsApart}
use Rattle.osm_rows.specs.Keeping.{extent_of, extents_of}
use Rattle.osm_rows.specs.declared.keeper.Extent.{Extent}
use Rattle.osm_import.specs.Files.{StandsAt}
use Rattle.osm_import.specs.Merges.{IsImported, placed_from}
use Rattle.osm_import.specs.Runs.{IsGoodIn}
use Rattle.osm_import.specs.Step.{IsEntry}
use Rattle.osm_import.proofs.FilesLemmas.{entry-same}
use Rattle.osm_import.proofs.MergeLemmas.{one_map}
use Rattle.osm_import.proofs.Touching.{extent_found}
use Rattle.osm_verify.specs.declared.comparing.Depth.{Depth}
use Rattle.osm_verify.specs.declared.comparing.Depth.TheVariants.{Extents, Elements}
use Rattle.osm_verify.specs.Agreements.{IsSame}
use Rattle.osm_verify.specs.Laws.{AreSame, AreAlone, IsVerified, VerifiedIsExact, ExactIsOne}
use Rattle.osm_verify.proofs.Beginning.{none-begins}

-- ---- the frames, and where they stand

same-at : (depth : Depth) (held : HeldMap) (start : ℕ) (frames : List (List ℕ)) → AreSame depth held start frames → (off : ℕ) (frame : List ℕ) → StandsAt start frames off frame → IsSame depth held off frame
same-at depth held start [] same off frame stands = absurd stands
same-at depth held start (first ∷ rest) same off frame stands = elim stands [
  | inl (here, is) ↦ subst (λ n. IsSame depth held n frame) (sym here) (subst (λ (w : List ℕ). IsSame depth held start w) (sym is) same.0)
  | inr later ↦ same-at depth held (start + length first) rest same.1 off frame later
]

pub good-stands : (start : ℕ) (frames : List (List ℕ)) (off : ℕ) (blob : Blob) → IsGoodIn (placed_from start frames) off blob → (frame : List ℕ) × StandsAt start frames off frame × IsEntry off frame blob
good-stands start [] off blob good = absurd good
good-stands start (first ∷ rest) off blob good = elim good [
  | inl (here, entry) ↦ (first, inl (here, refl), entry)
  | inr later ↦ (let it = good-stands (start + length first) rest off blob later in (it.0, inr it.1, it.2))
]

stands-good : (start : ℕ) (frames : List (List ℕ)) (off : ℕ) (blob : Blob) (frame : List ℕ) → StandsAt start frames off frame → IsEntry off frame blob → IsGoodIn (placed_from start frames) off blob
stands-good start [] off blob frame stands entry = absurd stands
stands-good start (first ∷ rest) off blob frame stands entry = elim stands [
  | inl (here, is) ↦ inl (here, subst (λ (w : List ℕ). IsEntry off w blob) is entry)
  | inr later ↦ inr (stands-good (start + length first) rest off blob frame later entry)
]

-- what is held begins where a frame stands
stands-there : (held : HeldMap) → IsApart held → (start : ℕ) (frames : List (List ℕ)) → AreAlone held start frames → (off : ℕ) (blob : Blob) → get held off ≡ Some blob → start ≤ off → (frame : List ℕ) × StandsAt start frames off frame
stands-there held apart start [] alone off blob is low =
    let filled : off < blob.fin = apart.filled off blob is in
    let limit : blob.fin ≤ MAX_OFFSET = apart.limit off blob is in
    absurd (none-begins held start MAX_OFFSET alone off blob is low (omega arith))
stands-there held apart start (first ∷ rest) alone off blob is low = elim (eqb_tells off start) [
  | inl (_, here) ↦ (first, inl (here, refl))
  | inr (_, other) ↦ elim (leb_tells (start + length first) off) [
    | inl (_, behind) ↦ (let it = stands-there held apart (start + length first) rest alone.1 off blob is behind in (it.0, inr it.1))
    | inr (_, inside) ↦ absurd (none-begins held (start + 1) (start + length first) alone.0 off blob is (omega (arith, other)) inside)
  ]
]

both : (held : HeldMap) (off : ℕ) (a b : Blob) → get held off ≡ Some a → get held off ≡ Some b → a ≡ b
both held off a b x y = let e : Some a ≡ Some b = sym x ∙ y in cc

exact-elements : (held : HeldMap) (frames : List (List ℕ)) → IsApart held → IsVerified Elements held frames → IsImported (placed_from 0 frames) held
exact-elements held frames apart verified off blob = (
  (λ is.
      let there = stands-there held apart 0 frames verified.alone off blob is (omega arith) in
      let same = same-at Elements held 0 frames verified.same off there.0 there.1 in
      let one : same.entry ≡ blob = sym same.alike ∙ both held off same.blob blob same.found is in
      stands-good 0 frames off blob there.0 there.1 (subst (λ (b : Blob). IsEntry off there.0 b) one same.is_entry)),
  (λ good.
      let there = good-stands 0 frames off blob good in
      let same = same-at Elements held 0 frames verified.same off there.0 there.1 in
      let one : same.blob ≡ blob = same.alike ∙ entry-same off there.0 same.entry blob same.is_entry there.2 in
      same.found ∙ ap Some one),
)

-- ---- extents

keyed : List (ℕ × Blob) → List (ℕ × Extent)
keyed [] = []
keyed (e ∷ es) = (e.0, extent_of e) ∷ keyed es

below-keyed : (x : ℕ) (es : List (ℕ × Blob)) → below_all nat_cmp x (keyed es) ≡ below_all nat_cmp x es
unfolding keyed
below-keyed x [] = refl
below-keyed x (e ∷ es) = ap (λ b. is_lt (nat_cmp x e.0) && b) (below-keyed x es)

sorted-keyed : (es : List (ℕ × Blob)) → is_sorted nat_cmp (keyed es) ≡ is_sorted nat_cmp es
unfolding keyed
sorted-keyed [] = refl
sorted-keyed (e ∷ es) = ap (λ b. b && is_sorted nat_cmp (keyed es)) (below-keyed e.0 es) ∙ ap (λ b. below_all nat_cmp e.0 es && b) (sorted-keyed es)

find-blob : (at : ℕ) (e : ℕ × Blob) (es : List (ℕ × Blob)) → finite.find nat_cmp at (e ∷ es) ≡ cond (eqb at e.0) (Some e.1) (finite.find nat_cmp at es)
find-blob at e es = ap (λ b. cond b (Some e.1) (finite.find nat_cmp at es)) (unsigned_tied at e.0)

find-extent : (at : ℕ) (e : ℕ × Extent) (es : List (ℕ × Extent)) → finite.find nat_cmp at (e ∷ es) ≡ cond (eqb at e.0) (Some e.1) (finite.find nat_cmp at es)
find-extent at e es = ap (λ b. cond b (Some e.1) (finite.find nat_cmp at es)) (unsigned_tied at e.0)

find-keyed : (at : ℕ) (es : List (ℕ × Blob)) → finite.find nat_cmp at (keyed es) ≡ extent_found at (finite.find nat_cmp at es)
unfolding keyed
find-keyed at [] = refl
find-keyed at (e ∷ es) = elim (eqb_tells at e.0) [
  | inl (test, same) ↦
      find-extent at (e.0, extent_of e) (keyed es) ∙ ap (λ b. cond b (Some (extent_of e)) (finite.find nat_cmp at (keyed es))) test
      ∙ ap (λ n. Some (extent_of (n, e.1))) (sym same)
      ∙ sym (ap (extent_found at) (find-blob at e es ∙ ap (λ b. cond b (Some e.1) (finite.find nat_cmp at es)) test))
  | inr (test, apart) ↦
      find-extent at (e.0, extent_of e) (keyed es) ∙ ap (λ b. cond b (Some (extent_of e)) (finite.find nat_cmp at (keyed es))) test
      ∙ find-keyed at es
      ∙ sym (ap (extent_found at) (find-blob at e es ∙ ap (λ b. cond b (Some e.1) (finite.find nat_cmp at es)) test))
]

unkeyed : (es : List (ℕ × Blob)) → map (λ (k : ℕ × Extent). k.1) (keyed es) ≡ map extent_of es
unfolding keyed
unkeyed [] = refl
unkeyed (e ∷ es) = ap (λ l. extent_of e ∷ l) (unkeyed es)

abbrev is_equal : Ordering → Bool
is_equal Equal = true
is_equal Less = false
is_equal Greater = false

tied : (x y : ℕ) → nat_cmp x y ≡ Equal → x ≡ y
tied x y same = elim (eqb_tells x y) [ inl (_, is) ↦ is | inr (test, apart) ↦ (let bad : true ≡ false = sym (ap is_equal same) ∙ unsigned_tied x y ∙ test in absurd (cc)) ]

-- maps whose extents are the same at each offset have the same extents
same-extents : (one other : HeldMap) → ((off : ℕ) → extent_found off (get one off) ≡ extent_found off (get other off)) → extents_of one ≡ extents_of other
same-extents one other says =
    let are : keyed (entries one) ≡ keyed (entries other) =
    same_entries nat_cmp nat_cmp_total tied (keyed (entries one)) (keyed (entries other))
    (subst (λ b. T b) (sym (sorted-keyed (entries one))) (entries_sorted one)) (subst (λ b. T b) (sym (sorted-keyed (entries other))) (entries_sorted other))
    (λ off. find-keyed off (entries one) ∙ sym (ap (extent_found off) (get-entries one off)) ∙ says off ∙ ap (extent_found off) (get-entries other off) ∙ sym (find-keyed off (entries other))) in
    sym (unkeyed (entries one)) ∙ ap (λ (ks : List (ℕ × Extent)). map (λ (k : ℕ × Extent). k.1) ks) are ∙ unkeyed (entries other)

exact-extents : (held : HeldMap) (frames : List (List ℕ)) → IsApart held → IsVerified Extents held frames → (one : HeldMap) → IsImported (placed_from 0 frames) one → extents_of held ≡ extents_of one
exact-extents held frames apart verified one imported = same-extents held one (λ off. at off (get held off) refl)
  where
    none : (off : ℕ) → get held off ≡ None → (o : Option Blob) → get one off ≡ o → None ≡ extent_found off o
    none off free None is = refl
    none off free (Some blob) is =
        let there = good-stands 0 frames off blob ((imported off blob).0 is) in
        let same = same-at Extents held 0 frames verified.same off there.0 there.1 in
        let bad : Some same.blob ≡ None = sym same.found ∙ free in absurd (cc)

    at : (off : ℕ) (o : Option Blob) → get held off ≡ o → extent_found off (get held off) ≡ extent_found off (get one off)
    at off (Some blob) is =
        let there = stands-there held apart 0 frames verified.alone off blob is (omega arith) in
        let same = same-at Extents held 0 frames verified.same off there.0 there.1 in
        let imported_too : get one off ≡ Some same.entry = (imported off same.entry).1 (stands-good 0 frames off same.entry there.0 there.1 same.is_entry) in
        ap (extent_found off) same.found ∙ ap Some same.alike ∙ sym (ap (extent_found off) imported_too)
    at off None is = ap (extent_found off) is ∙ none off is (get one off) refl

pub verified-is-exact : VerifiedIsExact
verified-is-exact Elements held frames apart verified = exact-elements held frames apart verified
verified-is-exact Extents held frames apart verified = exact-extents held frames apart verified

pub exact-is-one : ExactIsOne
exact-is-one held one frames exact imported = one_map held one (λ off blob. (
  (λ is. (imported off blob).1 ((exact off blob).0 is)),
  (λ is. (exact off blob).1 ((imported off blob).0 is)),
))
