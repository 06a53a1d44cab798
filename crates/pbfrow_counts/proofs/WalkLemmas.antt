-- From the extents of a map, and from the parts of one, to its elements.
use Rattle.std.proofs.Common.{◌≡◌, ℕ, suc, zero, ◌+◌, ◌<◌, ◌≤◌, Bool, true, List, [], ◌∷◌, ◌++◌, map, length, take, get_or, Some, Result, Ok, Err, refl, sym, ◌∙◌, ap, subst, arith, add-one, append-nil, length-append}
use Rattle.std.specs.FinMap as finite
use Rattle.std.specs.FinMap.{get, entries, get-entries, entries_sorted, is_sorted}
use Rattle.std.specs.List.{sum_by}
use Rattle.std.specs.Ordering.{nat_cmp}
use Rattle.std.proofs.lemmas.List.{take_all, length-map}
use Rattle.std.proofs.lemmas.List.Concat.{flat_map-append}
use Rattle.std.proofs.lemmas.List.Sums.{sum_by_more}
use Rattle.std.specs.Prelude.{IfErr}
use Rattle.osm_value.specs.declared.element.Element.{Element}
use Rattle.osm_rows.specs.Held.{Blob, HeldMap}
use Rattle.osm_rows.specs.Keeping.{extents_of, extent_of}
use Rattle.osm_rows.specs.declared.keeper.Extent.{Extent}
use Rattle.osm_import.proofs.Touching.{find-tail, find-head, sorted-tail}
use Rattle.osm_import.proofs.Delivering.{true-of}
use Rattle.osm_parts.specs.Opening.{AddsUp}
use Rattle.osm_parts.specs.Parts.{AreParts, entries_in}
use Rattle.osm_parts.specs.Reading.{AreEach, AreRead}
use Rattle.osm_parts.specs.declared.runs.Part.{Part}
use Rattle.osm_parts.proofs.ExportingLemmas.{part-at}
use Rattle.osm_parts.proofs.OpeningLemmas.{cause-closed, cause-later}
use Rattle.osm_parts.proofs.PartsLemmas.{parts-join}
use Rattle.pbfrow_counts.specs.Counting.{CountHasCause, CountsMore, CountsSoMany, elements_of}
use Rattle.pbfrow_counts.specs.declared.elements.ElementCounts.{ElementCounts}
use Rattle.pbfrow_counts.specs.declared.fault.CountFault.{CountFault}
use Rattle.pbfrow_counts.specs.declared.fault.CountFault.TheVariants.{Miscounted, Store}
use Rattle.pbfrow_counts.proofs.CountLemmas.{more-then}

-- ---- blob after blob

elements-both : (es fs : List (ℕ × Blob)) → elements_of (es ++ fs) ≡ elements_of es ++ elements_of fs
elements-both es fs = flat_map-append (λ (entry : ℕ × Blob). entry.1.elements) es fs

-- the entry of the extent at i
record AtEntry (es : List (ℕ × Blob)) (i : ℕ) (x : Extent) : Type 0 where
  pub entry : ℕ × Blob
  pub taken : take (suc i) es ≡ take i es ++ entry ∷ []
  pub same : x ≡ extent_of entry
  pub found : finite.find nat_cmp entry.0 es ≡ Some entry.1

at-entry : (es : List (ℕ × Blob)) → is_sorted nat_cmp es ≡ true → (i : ℕ) (x : Extent) → i < length (map extent_of es) → x ≡ get_or (map extent_of es) i x → AtEntry es i x
at-entry [] sorted i x within is = absurd (omega arith)
at-entry (e ∷ es) sorted zero x within is = record { entry = e; taken = refl; same = is; found = find-head e es }
at-entry (e ∷ es) sorted (suc i) x within is =
    let it = at-entry es (sorted-tail e es sorted) i x (omega arith) is in
    record { entry = it.entry; taken = ap (λ l. e ∷ l) it.taken; same = it.same; found = (find-tail e es sorted it.entry.0 it.entry.1 it.found).1 }

pub blob-more : (held : HeldMap) (extents : List Extent) (i : ℕ) (x : Extent) (a b c : ElementCounts) → extents ≡ extents_of held → i < length extents → x ≡ get_or extents i x
    → CountsMore a (elements_of (take i (entries held))) b → ((blob : Blob) → get held x.off ≡ Some blob → x ≡ extent_of (x.off, blob) → CountsMore b blob.elements c)
    → CountsMore a (elements_of (take (i + 1) (entries held))) c
blob-more held extents i x a b c are within is so_far more =
    let it = at-entry (entries held) (true-of _ (entries_sorted held)) i x (subst (λ (xs : List Extent). i < length xs) are within) (is ∙ ap (λ (xs : List Extent). get_or xs i x) are) in
    let found = ap (λ (y : Extent). get held y.off) it.same ∙ get-entries held it.entry.0 ∙ it.found in
    let same = subst (λ (off : ℕ). x ≡ extent_of (off, it.entry.1)) (sym (ap (λ (y : Extent). y.off) it.same)) it.same in
    let taken = ap (λ n. elements_of (take n (entries held))) (add-one i) ∙ ap elements_of it.taken ∙ elements-both (take i (entries held)) (it.entry ∷ [])
    ∙ ap (λ (es : List Element). elements_of (take i (entries held)) ++ es) (append-nil it.entry.1.elements) in
    subst (λ (es : List Element). CountsMore a es c) (sym taken) (more-then a b c (elements_of (take i (entries held))) it.entry.1.elements so_far (more it.entry.1 found same))

-- the one blob of the extent at i, over which a fault came
pub blob-fault : (held : HeldMap) (extents : List Extent) (i : ℕ) (x : Extent) (P : Type 0) → extents ≡ extents_of held → i < length extents → x ≡ get_or extents i x
    → ((blob : Blob) → get held x.off ≡ Some blob → x ≡ extent_of (x.off, blob) → P) → P
blob-fault held extents i x P are within is told =
    let it = at-entry (entries held) (true-of _ (entries_sorted held)) i x (subst (λ (xs : List Extent). i < length xs) are within) (is ∙ ap (λ (xs : List Extent). get_or xs i x) are) in
    told it.entry.1 (ap (λ (y : Extent). get held y.off) it.same ∙ get-entries held it.entry.0 ∙ it.found)
    (subst (λ (off : ℕ). x ≡ extent_of (off, it.entry.1)) (sym (ap (λ (y : Extent). y.off) it.same)) it.same)

pub blobs-all : (held : HeldMap) (extents : List Extent) (i : ℕ) (a b : ElementCounts) → extents ≡ extents_of held → length extents ≤ i
    → CountsMore a (elements_of (take i (entries held))) b → CountsMore a (elements_of (entries held)) b
blobs-all held extents i a b are all more =
    let some = ap length are ∙ length-map (entries held) extent_of in
    subst (λ (es : List (ℕ × Blob)). CountsMore a (elements_of es) b) (take_all i (entries held) (omega arith)) more

-- ---- as many elements as the extents say

pub complete-more : (extents : List Extent) (i : ℕ) (x : Extent) (a b c : ElementCounts) → i < length extents → x ≡ get_or extents i x
    → CountsSoMany a (sum_by (λ (e : Extent). e.n) (take i extents)) b → CountsSoMany b x.n c → CountsSoMany a (sum_by (λ (e : Extent). e.n) (take (i + 1) extents)) c
complete-more extents i x a b c within is one two =
    let both = length-append one.0 two.0 in
    let first = one.1 in
    let next = two.1 in
    let last = ap (λ (e : Extent). e.n) is in
    let more = sum_by_more (λ (e : Extent). e.n) extents i x within in
    (one.0 ++ two.0, omega (arith, both, first, next, last, more), more-then a b c one.0 two.0 one.2 two.2)

pub complete-all : (extents : List Extent) (i : ℕ) (a b : ElementCounts) → length extents ≤ i → CountsSoMany a (sum_by (λ (e : Extent). e.n) (take i extents)) b → CountsSoMany a (sum_by (λ (e : Extent). e.n) extents) b
complete-all extents i a b all more = subst (λ (xs : List Extent). CountsSoMany a (sum_by (λ (e : Extent). e.n) xs) b) (take_all i extents all) more

-- ---- part after part

pub part-more : (maps : List HeldMap) (asked : Bool) (parts : List Part) (ordered : List HeldMap) (i : ℕ) (part : Part) (a b c : ElementCounts) (each : AreEach maps asked parts ordered) (low : i < length parts) (is : part ≡ get_or parts i part)
    → CountsMore a (elements_of (entries_in (take i ordered))) b → CountsMore b (elements_of (entries (part-at maps asked parts ordered i part each low is).held)) c
    → CountsMore a (elements_of (entries_in (take (i + 1) ordered))) c
part-more maps asked parts ordered i part a b c each low is so_far more =
    let at = part-at maps asked parts ordered i part each low is in
    let taken = ap (λ n. elements_of (entries_in (take n ordered))) (add-one i) ∙ ap elements_of at.taken ∙ elements-both (entries_in (take i ordered)) (entries at.held) in
    subst (λ (es : List Element). CountsMore a es c) (sym taken) (more-then a b c (elements_of (entries_in (take i ordered))) (elements_of (entries at.held)) so_far more)

long-each : (maps : List HeldMap) (asked : Bool) (parts : List Part) (ordered : List HeldMap) → AreEach maps asked parts ordered → length ordered ≡ length parts
long-each maps asked [] [] each = refl
long-each maps asked [] (held ∷ ordered) each = absurd each
long-each maps asked (part ∷ parts) [] each = absurd each
long-each maps asked (part ∷ parts) (held ∷ ordered) each = ap suc (long-each maps asked parts ordered each.1)

-- behind the last part, the elements of the whole are counted
pub parts-all : (maps : List HeldMap) (asked : Bool) (parts : List Part) (whole : HeldMap) (i : ℕ) (a b : ElementCounts) (read : AreRead maps asked parts) → AreParts read.ordered whole → length parts ≤ i
    → CountsMore a (elements_of (entries_in (take i read.ordered))) b → CountsMore a (elements_of (entries whole)) b
parts-all maps asked parts whole i a b read are all more =
    subst (λ (es : List (ℕ × Blob)). CountsMore a (elements_of es) b)
    (ap entries_in (take_all i read.ordered (omega (arith, long-each maps asked parts read.ordered read.each))) ∙ sym (parts-join read.ordered whole 0 read.follow are)) more

-- ---- faults

pub err-map : {T E : Type 0} (r : Result T E) (P Q : E → Type 0) → ((e : E) → P e → Q e) → IfErr r P → IfErr r Q
err-map (Ok x) P Q f h = tt
err-map (Err e) P Q f h = f e h

pub cause-of-closed : (old lent new first last : ℕ) (fault : CountFault) → lent ≡ old → AddsUp lent last new → CountHasCause first last fault → CountHasCause old new fault
cause-of-closed old lent new first last (Store fault) same adds cause = cause-closed old lent new first last fault same adds cause
cause-of-closed old lent new first last (Miscounted off) same adds cause = tt

pub cause-of-later : (old middle new : ℕ) (fault : CountFault) → old ≤ middle → CountHasCause middle new fault → CountHasCause old new fault
cause-of-later old middle new (Store fault) le cause = cause-later old middle new fault le cause
cause-of-later old middle new (Miscounted off) le cause = tt
