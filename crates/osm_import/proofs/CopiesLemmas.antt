-- Copies of blobs in turn, and what the store that takes them held before.
use Rattle.std.proofs.Common.{◌≡◌, ◌⊎◌, ℕ, ◌+◌, ◌<◌, Bool, true, false, List, [], ◌∷◌, ◌++◌, length, cond, Result, Ok, Err, refl, sym, ◌∙◌, ap, subst, inl, inr, arith, length-append}
use Rattle.std.specs.Prelude.{◌↔◌, IsErr, IsTrue}
use Rattle.std.specs.FinMap.{get, insert}
use Rattle.std.specs.List.{count_by}
use Rattle.std.proofs.lemmas.List.Sums.{sum_by-append, sum_by-cons}
use Rattle.std.proofs.lemmas.Bool.Decides.{eqb_tells}
use Rattle.osm_rows.specs.Held.{Blob, HeldMap, HaveFewTexts, IsApart, IsFree}
use Rattle.osm_value.specs.declared.element.Element.{Element}
use Rattle.osm_rows.specs.HeldLaws.{get-insert_other, IsFree-unheld}
use Rattle.osm_rows.specs.declared.keeper.BlobReader.{Ghosts}
use Rattle.osm_rows.specs.declared.keeper.Extent.{Extent}
use Rattle.osm_import.specs.Copies.{BlobCopied, AreCounted, is_added, is_met}
use Rattle.osm_import.specs.Stores.{CopiesOne, CopiesEach, HoldsStill, Keeps, KeepsHeld}
use Rattle.osm_import.specs.declared.copy.BlobCopy.{BlobCopy}
use Rattle.osm_import.specs.declared.copy.BlobCopy.TheVariants.{Added, AlreadyHeld}
use Rattle.osm_import.proofs.CopyLemmas.{already}

-- one more copy
pub copies-push : {F T : Type 0} (from : Ghosts F) (to : Ghosts T) (first mid last : F) (old next new : T) (copies : List BlobCopied) (copy : BlobCopied)
    → CopiesEach from to first mid old next copies → CopiesOne from to mid last next new copy → CopiesEach from to first last old new (copies ++ copy ∷ [])
copies-push {F} {T} from to first mid last old next new [] copy all one =
    (last, new, subst (λ (s : F). CopiesOne from to s last old new copy) all.0 (subst (λ (s : T). CopiesOne from to mid last s new copy) all.1 one), (refl, refl))
copies-push from to first mid last old next new (c ∷ copies) copy all one = (all.0, all.1, all.2, copies-push from to all.0 mid last all.1 next new copies copy all.3 one)

abbrev one_if : (BlobCopied → Bool) → BlobCopied → ℕ
one_if p copy = cond (p copy) 1 0

pub counted-push : (copies : List BlobCopied) (extent : Extent) (answer : BlobCopy) (copied held more now : ℕ) → AreCounted copies copied held
    → now ≡ held + already answer → more + now ≡ copied + held + 1 → AreCounted (copies ++ (extent, Ok answer) ∷ []) more now
counted-push copies extent Added copied held more now counted met all =
    let added : count_by is_added (copies ++ (extent, Ok Added) ∷ []) ≡ count_by is_added copies + 1 = sum_by-append (one_if is_added) copies ((extent, Ok Added) ∷ []) in
    let others : count_by is_met (copies ++ (extent, Ok Added) ∷ []) ≡ count_by is_met copies + 0 = sum_by-append (one_if is_met) copies ((extent, Ok Added) ∷ []) in
    let long : length (copies ++ (extent, Ok Added) ∷ []) ≡ length copies + 1 = length-append copies ((extent, Ok Added) ∷ []) in
    (omega (arith, counted.0, counted.1), omega (arith, counted.0, counted.1), omega (arith, counted.2))
counted-push copies extent AlreadyHeld copied held more now counted met all =
    let added : count_by is_added (copies ++ (extent, Ok AlreadyHeld) ∷ []) ≡ count_by is_added copies + 0 = sum_by-append (one_if is_added) copies ((extent, Ok AlreadyHeld) ∷ []) in
    let others : count_by is_met (copies ++ (extent, Ok AlreadyHeld) ∷ []) ≡ count_by is_met copies + 1 = sum_by-append (one_if is_met) copies ((extent, Ok AlreadyHeld) ∷ []) in
    let long : length (copies ++ (extent, Ok AlreadyHeld) ∷ []) ≡ length copies + 1 = length-append copies ((extent, Ok AlreadyHeld) ∷ []) in
    (omega (arith, counted.0, counted.1), omega (arith, counted.0, counted.1), omega (arith, counted.2))

copies-honest : {F T : Type 0} (from : Ghosts F) (to : Ghosts T) (first last : F) (old new : T) (copies : List BlobCopied) → CopiesEach from to first last old new copies → to.is_honest new → to.is_honest old
copies-honest {F} {T} from to first last old new [] all honest = subst (λ (s : T). to.is_honest s) all.1 honest
copies-honest from to first last old new (c ∷ copies) all honest = all.2.honest (copies-honest from to all.0 last all.1 new copies all.3 honest)

copies-open : {F T : Type 0} (from : Ghosts F) (to : Ghosts T) (first last : F) (old new : T) (copies : List BlobCopied) → CopiesEach from to first last old new copies → to.is_open new → to.is_open old
copies-open {F} {T} from to first last old new [] all up = subst (λ (s : T). to.is_open s) all.1 up
copies-open from to first last old new (c ∷ copies) all up = all.2.open_if (copies-open from to all.0 last all.1 new copies all.3 up)

none-added : (b : Bool) → ◌≡◌ {A = ℕ} (cond b 1 0) 0 → b ≡ false
none-added true h = absurd (omega arith)
none-added false h = refl

-- where none is added
pub copies-same : {F T : Type 0} (from : Ghosts F) (to : Ghosts T) → ((s : T) → to.same_tables s s) → ((one next other : T) → to.same_tables one next → to.same_tables next other → to.same_tables one other)
    → (first last : F) (old new : T) (copies : List BlobCopied) → CopiesEach from to first last old new copies → to.is_honest new → to.is_open new → count_by is_added copies ≡ 0 → to.same_tables old new
copies-same {F} {T} from to self joined first last old new [] all honest up none = subst (λ (s : T). to.same_tables old s) (sym all.1) (self old)
copies-same from to self joined first last old new (c ∷ copies) all honest up none =
    let both : count_by is_added (c ∷ copies) ≡ one_if is_added c + count_by is_added copies = sum_by-cons (one_if is_added) c copies in
    joined old all.1 new (all.2.same (copies-honest from to all.0 last all.1 new copies all.3 honest) (copies-open from to all.0 last all.1 new copies all.3 up) (none-added (is_added c) (omega arith)))
    (copies-same from to self joined all.0 last all.1 new copies all.3 honest up (omega arith))

-- ---- what was held

pub keeps-same : (held : HeldMap) → Keeps held held
keeps-same held off blob is = is

pub keeps-then : (held middle after : HeldMap) → Keeps held middle → Keeps middle after → Keeps held after
keeps-then held middle after one two off blob is = two off blob (one off blob is)

-- one more blob at a free place
pub keeps-free : (held : HeldMap) (off : ℕ) (blob : Blob) → IsApart held → off < blob.fin → IsFree held off blob.fin → Keeps held (insert held off blob)
keeps-free held off blob apart order free at other is = elim (eqb_tells at off) [
  | inl (_, here) ↦ absurd (IsFree-unheld held off blob.fin apart free order other (sym (ap (get held) here) ∙ is))
  | inr (_, other_place) ↦ get-insert_other held off blob at other_place ∙ is
]

-- a store that holds what it held, or does where it can go on; and a crash leaves no other map than before
pub kept-still : {S A E : Type 0} (store : Ghosts S) (new : S) (result : Result A E) (held : HeldMap) → store.holds new held → ((left : HeldMap) → store.leaves new left → left ≡ held) → KeepsHeld store new result held
kept-still store new (Ok answer) held holds same = record { ok = (held, keeps-same held, holds); err = tt; crash = λ left leaves. subst (Keeps held) (sym (same left leaves)) (keeps-same held) }
kept-still store new (Err fault) held holds same = record { ok = tt; err = λ up. (held, keeps-same held, holds); crash = λ left leaves. subst (Keeps held) (sym (same left leaves)) (keeps-same held) }

pub kept-failed : {S A E : Type 0} (store : Ghosts S) (new : S) (result : Result A E) (held : HeldMap) → IsErr result → (store.is_open new → store.holds new held)
    → ((left : HeldMap) → store.leaves new left → left ≡ held) → KeepsHeld store new result held
kept-failed store new (Ok answer) held failed holds same = absurd cc
kept-failed store new (Err fault) held failed holds same =
    record { ok = tt; err = λ up. (held, keeps-same held, holds up); crash = λ left leaves. subst (Keeps held) (sym (same left leaves)) (keeps-same held) }

-- a crash leaves the old map, or that with one more blob at a free place
pub crash-keeps : (held left : HeldMap) (off : ℕ) (blob : Blob) → IsApart held → off < blob.fin → IsFree held off blob.fin → (left ≡ held) ⊎ (left ≡ insert held off blob) → Keeps held left
crash-keeps held left off blob apart order free either = elim either [
  | inl same ↦ subst (Keeps held) (sym same) (keeps-same held)
  | inr more ↦ subst (Keeps held) (sym more) (keeps-free held off blob apart order free)
]

-- whatever it answered, where it can go on
pub held-still : {S A E : Type 0} (store : Ghosts S) (new : S) (result : Result A E) (held : HeldMap) → KeepsHeld store new result held → store.is_open new → HoldsStill store new held
held-still store new (Ok answer) held kept up = kept.ok
held-still store new (Err fault) held kept up = kept.err up

-- what is read of a map passes the test of its texts
pub never-many : (read : List Element) (few : Bool) (elements : List Element) → read ≡ elements → HaveFewTexts elements → IsTrue few ↔ HaveFewTexts read → few ≡ false → ⊥
never-many read few elements same has tells is =
    let yes : few ≡ true = tells.1 (subst HaveFewTexts (sym same) has) in
    let bad : true ≡ false = sym yes ∙ is in cc
