-- From the extents of a map to a walk over its blobs.
use Rattle.std.proofs.Common.{◌≡◌, ℕ, suc, zero, ◌+◌, ◌<◌, ◌≤◌, Bool, true, false, List, [], ◌∷◌, ◌++◌, map, length, take, drop, get_or, Some, Result, Ok, Err, refl, sym, ◌∙◌, ap, subst, inl, inr, arith, add-one, append_assoc}
use Rattle.std.specs.FinMap as finite
use Rattle.std.specs.FinMap.{get, entries, get-entries, entries_sorted, is_sorted}
use Rattle.std.specs.Ordering.{nat_cmp}
use Rattle.std.proofs.lemmas.List.{take_all, take_more, take-append-drop, length-map}
use Rattle.osm_value.specs.declared.element.Element.{Element}
use Rattle.osm_rows.specs.Held.{Blob, HeldMap}
use Rattle.osm_rows.specs.Keeping.{extents_of, extent_of, IsForeign}
use Rattle.osm_rows.specs.declared.keeper.Extent.{Extent}
use Rattle.osm_rows.specs.declared.fault.StoreFault.{StoreFault}
use Rattle.osm_reading.specs.Framings.{Known}
use Rattle.osm_import.specs.ExportCauses.{ExportHasCause, ExportIsOwn, ExportTells, WriteHasCause}
use Rattle.osm_import.specs.Walks.{Writing, elements_at, WritesOne, WritesInTurn, StopsAt, WritesAll, WritesComplete, CompleteInTurn, StopsComplete}
use Rattle.osm_import.specs.declared.export.fault.ExportFault.{ExportFault}
use Rattle.osm_import.specs.declared.export.fault.ExportFault.TheVariants.{Incomplete, PastEnd, WriteFailed, BlockTooLarge, Miscounted, Store}
use Rattle.osm_import.proofs.Touching.{find-tail, find-head, sorted-tail}
use Rattle.osm_import.proofs.Delivering.{true-of}

-- ---- one blob

pub one-of : (Writes : Writing) (before : Known) (es : List Element) (after : Known) (result : Result (Unit {0}) ExportFault) → Writes before es after result → WritesOne Writes before es after result
one-of Writes before es after (Ok done) h = h
one-of Writes before es after (Err (Store fault)) h = inr h
one-of Writes before es after (Err WriteFailed) h = h
one-of Writes before es after (Err BlockTooLarge) h = h
one-of Writes before es after (Err (Miscounted off)) h = h
one-of Writes before es after (Err (Incomplete from to)) h = h
one-of Writes before es after (Err (PastEnd fin)) h = h

-- ---- the entry behind an extent

record AtEntry (es : List (ℕ × Blob)) (i : ℕ) (x : Extent) : Type 0 where
  pub entry : ℕ × Blob
  pub taken : take (suc i) es ≡ take i es ++ entry ∷ []
  pub same : x ≡ extent_of entry
  pub found : finite.find nat_cmp entry.0 es ≡ Some entry.1
  pub here : elements_at es i ≡ entry.1.elements

at-entry : (es : List (ℕ × Blob)) → is_sorted nat_cmp es ≡ true → (i : ℕ) (x : Extent) → i < length (map extent_of es) → x ≡ get_or (map extent_of es) i x → AtEntry es i x
at-entry [] sorted i x within is = absurd (omega arith)
at-entry (e ∷ es) sorted zero x within is = record { entry = e; taken = refl; same = is; found = find-head e es; here = refl }
at-entry (e ∷ es) sorted (suc i) x within is =
    let it = at-entry es (sorted-tail e es sorted) i x (omega arith) is in
    record { entry = it.entry; taken = ap (λ l. e ∷ l) it.taken; same = it.same; found = (find-tail e es sorted it.entry.0 it.entry.1 it.found).1; here = it.here }

-- the blob of the extent at i
record AtBlob (held : HeldMap) (i : ℕ) (x : Extent) : Type 0 where
  pub entry : ℕ × Blob
  pub found : get held x.off ≡ Some entry.1
  pub same : x ≡ extent_of (x.off, entry.1)
  pub taken : take (i + 1) (entries held) ≡ take i (entries held) ++ entry ∷ []
  pub here : entry.1.elements ≡ elements_at (entries held) i

at-blob : (held : HeldMap) (extents : List Extent) (i : ℕ) (x : Extent) → extents ≡ extents_of held → i < length extents → x ≡ get_or extents i x → AtBlob held i x
at-blob held extents i x are within is =
    let it = at-entry (entries held) (true-of _ (entries_sorted held)) i x (subst (λ (xs : List Extent). i < length xs) are within) (is ∙ ap (λ (xs : List Extent). get_or xs i x) are) in
    record {
      entry = it.entry;
      found = ap (λ (y : Extent). get held y.off) it.same ∙ get-entries held it.entry.0 ∙ it.found;
      same = subst (λ (off : ℕ). x ≡ extent_of (off, it.entry.1)) (sym (ap (λ (y : Extent). y.off) it.same)) it.same;
      taken = ap (λ n. take n (entries held)) (add-one i) ∙ it.taken;
      here = sym it.here;
    }

length-extents : (held : HeldMap) (extents : List Extent) → extents ≡ extents_of held → length extents ≡ length (entries held)
length-extents held extents are = ap length are ∙ length-map (entries held) extent_of

-- an element that is there doesn't depend on the default
pub read-is : {A : Type 0} (xs : List A) (i : ℕ) (d e : A) → i < length xs → get_or xs i d ≡ get_or xs i e
read-is [] i d e within = absurd (omega arith)
read-is (x ∷ xs) zero d e within = refl
read-is (x ∷ xs) (suc i) d e within = read-is xs i d e (omega arith)

-- the element at a place within the list
pub element-at : {A : Type 0} (xs : List A) (i : ℕ) → i < length xs → (x : A) × (x ≡ get_or xs i x)
element-at [] i within = absurd (omega arith)
element-at (x ∷ xs) zero within = (x, refl)
element-at (x ∷ xs) (suc i) within = element-at xs i (omega arith)

-- ---- blob after blob

turn-push : (Writes : Writing) (es : List (ℕ × Blob)) (entry : ℕ × Blob) (before middle after : Known) → WritesInTurn Writes before es middle → Writes middle entry.1.elements after (Ok tt) → WritesInTurn Writes before (es ++ entry ∷ []) after
turn-push Writes [] entry before middle after turns one = (after, subst (λ (o : Known). Writes o entry.1.elements after (Ok tt)) turns one, refl)
turn-push Writes (e ∷ es) entry before middle after turns one = (turns.0, turns.1, turn-push Writes es entry turns.0 middle after turns.2 one)

pub walk-more : (Writes : Writing) (held : HeldMap) (extents : List Extent) (i : ℕ) (x : Extent) (before middle after : Known) → extents ≡ extents_of held → i < length extents → x ≡ get_or extents i x
    → WritesInTurn Writes before (take i (entries held)) middle → ((blob : Blob) → get held x.off ≡ Some blob → x ≡ extent_of (x.off, blob) → Writes middle blob.elements after (Ok tt))
    → WritesInTurn Writes before (take (i + 1) (entries held)) after
walk-more Writes held extents i x before middle after are within is so_far wrote =
    let it = at-blob held extents i x are within is in
    subst (λ (es : List (ℕ × Blob)). WritesInTurn Writes before es after) (sym it.taken)
    (turn-push Writes (take i (entries held)) it.entry before middle after so_far (wrote it.entry.1 it.found it.same))

pub walk-stops : (Writes : Writing) (held : HeldMap) (extents : List Extent) (i : ℕ) (x : Extent) (before middle after : Known) (fault : ExportFault) → extents ≡ extents_of held → i < length extents → x ≡ get_or extents i x
    → WritesInTurn Writes before (take i (entries held)) middle → ((blob : Blob) → get held x.off ≡ Some blob → x ≡ extent_of (x.off, blob) → WritesOne Writes middle blob.elements after (Err fault))
    → StopsAt Writes before (entries held) after fault
walk-stops Writes held extents i x before middle after fault are within is so_far wrote =
    let it = at-blob held extents i x are within is in
    let some = length-extents held extents are in
    record {
      count = i;
      middle = middle;
      here = omega arith;
      turns = so_far;
      stopped = subst (λ (es : List Element). WritesOne Writes middle es after (Err fault)) it.here (wrote it.entry.1 it.found it.same);
    }

pub walk-all : (Writes : Writing) (held : HeldMap) (extents : List Extent) (i : ℕ) (before after : Known) → extents ≡ extents_of held → length extents ≤ i
    → WritesInTurn Writes before (take i (entries held)) after → WritesInTurn Writes before (entries held) after
walk-all Writes held extents i before after are all turns =
    let some = length-extents held extents are in
    subst (λ (es : List (ℕ × Blob)). WritesInTurn Writes before es after) (take_all i (entries held) (omega arith)) turns

-- ---- as many elements as the extents say

pub complete-of : (Writes : Writing) (before : Known) (extent : Extent) (after : Known) (failed : Bool) (result : Result (Unit {0}) ExportFault) → WriteHasCause failed result → WritesAll Writes before extent after result → WritesComplete Writes before extent after result
complete-of Writes before extent after failed (Ok done) cause h = h
complete-of Writes before extent after failed (Err WriteFailed) cause h = h
complete-of Writes before extent after failed (Err (Store fault)) cause h = inr h
complete-of Writes before extent after failed (Err BlockTooLarge) cause h = h
complete-of Writes before extent after failed (Err (Miscounted off)) cause h = absurd cause
complete-of Writes before extent after failed (Err (Incomplete from to)) cause h = h
complete-of Writes before extent after failed (Err (PastEnd fin)) cause h = h

complete-push : (Writes : Writing) (extents : List Extent) (extent : Extent) (before middle after : Known) → CompleteInTurn Writes before extents middle → WritesAll Writes middle extent after (Ok tt) → CompleteInTurn Writes before (extents ++ extent ∷ []) after
complete-push Writes [] extent before middle after turns one = (after, subst (λ (o : Known). WritesAll Writes o extent after (Ok tt)) turns one, refl)
complete-push Writes (e ∷ es) extent before middle after turns one = (turns.0, turns.1, complete-push Writes es extent turns.0 middle after turns.2 one)

-- the extents up to this one, and those behind it
one-more : (extents : List Extent) (i : ℕ) (x : Extent) → i < length extents → x ≡ get_or extents i x → take (i + 1) extents ≡ take i extents ++ x ∷ []
one-more extents i x within is = take_more extents i x within ∙ ap (λ (y : Extent). take i extents ++ y ∷ []) (sym is)

pub complete-more : (Writes : Writing) (extents : List Extent) (i : ℕ) (x : Extent) (before middle after : Known) → i < length extents → x ≡ get_or extents i x
    → CompleteInTurn Writes before (take i extents) middle → WritesAll Writes middle x after (Ok tt) → CompleteInTurn Writes before (take (i + 1) extents) after
complete-more Writes extents i x before middle after within is so_far one =
    subst (λ (xs : List Extent). CompleteInTurn Writes before xs after) (sym (one-more extents i x within is)) (complete-push Writes (take i extents) x before middle after so_far one)

pub complete-stops : (Writes : Writing) (extents : List Extent) (i : ℕ) (x : Extent) (before middle after : Known) (fault : ExportFault) → i < length extents → x ≡ get_or extents i x
    → CompleteInTurn Writes before (take i extents) middle → WritesComplete Writes middle x after (Err fault) → StopsComplete Writes before extents after fault
complete-stops Writes extents i x before middle after fault within is so_far stopped = record {
  front = take i extents;
  extent = x;
  behind = drop (i + 1) extents;
  middle = middle;
  parted = sym (take-append-drop (i + 1) extents) ∙ ap (λ (xs : List Extent). xs ++ drop (i + 1) extents) (one-more extents i x within is) ∙ append_assoc (take i extents) (x ∷ []) (drop (i + 1) extents);
  turns = so_far;
  stopped = stopped;
}

pub complete-all : (Writes : Writing) (extents : List Extent) (i : ℕ) (before after : Known) → length extents ≤ i → CompleteInTurn Writes before (take i extents) after → CompleteInTurn Writes before extents after
complete-all Writes extents i before after all turns = subst (λ (xs : List Extent). CompleteInTurn Writes before xs after) (take_all i extents all) turns

-- an extent of a blob says how many elements that has
pub counted-by : (off : ℕ) (extent : Extent) (blob : Blob) (elements : List Element) → extent ≡ extent_of (off, blob) → elements ≡ blob.elements → length elements ≡ extent.n
counted-by off extent blob elements same are = ap length are ∙ sym (ap (λ (e : Extent). e.n) same)

-- ---- why it fails

pub write-cause : (before now : ℕ) (failed : Bool) (result : Result (Unit {0}) ExportFault) → WriteHasCause failed result → ExportHasCause before now failed result
write-cause before now failed (Ok done) h = tt
write-cause before now failed (Err WriteFailed) h = h
write-cause before now failed (Err (Store fault)) h = inl h
write-cause before now failed (Err BlockTooLarge) h = tt
write-cause before now failed (Err (Miscounted off)) h = tt
write-cause before now failed (Err (Incomplete from to)) h = tt
write-cause before now failed (Err (PastEnd fin)) h = tt

pub write-own : (failed : Bool) (result : Result (Unit {0}) ExportFault) → WriteHasCause failed result → ExportIsOwn result
write-own failed (Ok done) h = tt
write-own failed (Err WriteFailed) h = tt
write-own failed (Err (Store fault)) h = λ foreign. subst (λ (f : StoreFault). IsForeign f) h foreign
write-own failed (Err BlockTooLarge) h = tt
write-own failed (Err (Miscounted off)) h = tt
write-own failed (Err (Incomplete from to)) h = tt
write-own failed (Err (PastEnd fin)) h = tt

-- where no call has failed, whatever is answered
pub tells-none : {T : Type 0} (before now : ℕ) → now ≡ before → (result : Result T ExportFault) → ExportTells before now result
tells-none before now none (Ok done) = none
tells-none before now none (Err WriteFailed) = none
tells-none before now none (Err (Store fault)) = tt
tells-none before now none (Err BlockTooLarge) = none
tells-none before now none (Err (Miscounted off)) = none
tells-none before now none (Err (Incomplete from to)) = none
tells-none before now none (Err (PastEnd fin)) = none

-- nothing was written yet
pub cause-unwritten : (before now : ℕ) (failed : Bool) (fault : ExportFault) → ExportHasCause before now false (Err fault) → ExportHasCause before now failed (Err fault)
cause-unwritten before now failed WriteFailed h = absurd (let bad : false ≡ true = h in cc)
cause-unwritten before now failed (Store fault) h = h
cause-unwritten before now failed BlockTooLarge h = tt
cause-unwritten before now failed (Miscounted off) h = tt
cause-unwritten before now failed (Incomplete from to) h = tt
cause-unwritten before now failed (PastEnd fin) h = tt
