-- Flags of visibility in runs.
use Rattle.std.proofs.Common.{◌≡◌, ℕ, zero, suc, cond, Bool, true, false, ◌||◌, List, [], ◌∷◌, slice_get, Some, refl, sym, ◌∙◌, ap, inl, inr}
use Rattle.std.specs.List.{list_any}
use Rattle.std.specs.Ordering.{nat_cmp}
use Rattle.std.specs.FinMap.{get, entries, find, is_sorted, get-entries, entries_sorted}
use Rattle.std.proofs.lemmas.Bool.Decides.{eqb_tells}
use Rattle.osm_rows.specs.Flags.{has_flag, has_flags}
use Rattle.osm_rows.specs.Held.{Blob, HeldMap}
use Rattle.osm_rows.proofs.LoadLemmas.FlagLaws.{blob_has_flag, flags_by_blob}
use Rattle.osm_import.proofs.Touching.{find-head, find-tail, sorted-tail, find-cons}
use Rattle.osm_import.proofs.Delivering.{true-of}
use Rattle.osm_parts.specs.Parts.{IsInPart, AreParts}
use Rattle.osm_parts.specs.Reading.{AreEach, AreRead}
use Rattle.osm_parts.specs.Unions.{IsHistoryOf}
use Rattle.osm_parts.specs.declared.runs.Part.{Part}
use Rattle.osm_parts.proofs.Orders.{in-at}

-- ---- one map

flagged-entry : (es : List (ℕ × Blob)) → is_sorted nat_cmp es ≡ true → list_any blob_has_flag es ≡ true → (off : ℕ) × (blob : Blob) × (find nat_cmp off es ≡ Some blob) × (list_any has_flag blob.elements ≡ true)
flagged-entry [] sorted some = absurd (cc)
flagged-entry (e ∷ es) sorted some = at (λ later. flagged-entry es (sorted-tail e es sorted) later) (list_any has_flag e.1.elements) refl
  where
    at : (list_any blob_has_flag es ≡ true → (off : ℕ) × (blob : Blob) × (find nat_cmp off es ≡ Some blob) × (list_any has_flag blob.elements ≡ true)) → (b : Bool) → list_any has_flag e.1.elements ≡ b
        → (off : ℕ) × (blob : Blob) × (find nat_cmp off (e ∷ es) ≡ Some blob) × (list_any has_flag blob.elements ≡ true)
    at behind true is = (e.0, e.1, find-head e es, is)
    at behind false is =
        let it = behind (ap (λ b. b || list_any blob_has_flag es) (sym is) ∙ some) in
        (it.0, it.1, (find-tail e es sorted it.0 it.1 it.2).1, it.3)

or-left : (a b : Bool) → a ≡ true → (a || b) ≡ true
or-left true b is = refl
or-left false b is = absurd (cc)

or-right : (a b : Bool) → b ≡ true → (a || b) ≡ true
or-right true b is = refl
or-right false b is = is

entry-flagged : (es : List (ℕ × Blob)) (off : ℕ) (blob : Blob) → find nat_cmp off es ≡ Some blob → list_any has_flag blob.elements ≡ true → list_any blob_has_flag es ≡ true
entry-flagged [] off blob found some = absurd (cc)
entry-flagged (e ∷ es) off blob found some = elim (eqb_tells off e.0) [
  | inl (test, _) ↦ (
      let here : Some e.1 ≡ Some blob = sym (find-cons off e es ∙ ap (λ b. cond b (Some e.1) (find nat_cmp off es)) test) ∙ found in
      let blobs : e.1 ≡ blob = cc in
      or-left (list_any has_flag e.1.elements) (list_any blob_has_flag es) (ap (λ (b : Blob). list_any has_flag b.elements) blobs ∙ some)
      )
  | inr (test, _) ↦ or-right (list_any has_flag e.1.elements) (list_any blob_has_flag es)
      (entry-flagged es off blob (sym (find-cons off e es ∙ ap (λ b. cond b (Some e.1) (find nat_cmp off es)) test) ∙ found) some)
]

flagged-blob : (held : HeldMap) → has_flags held ≡ true → (off : ℕ) × (blob : Blob) × (get held off ≡ Some blob) × (list_any has_flag blob.elements ≡ true)
flagged-blob held some =
    let it = flagged-entry (entries held) (true-of _ (entries_sorted held)) (sym (flags_by_blob held) ∙ some) in
    (it.0, it.1, get-entries held it.0 ∙ it.2, it.3)

blob-flagged : (held : HeldMap) (off : ℕ) (blob : Blob) → get held off ≡ Some blob → list_any has_flag blob.elements ≡ true → has_flags held ≡ true
blob-flagged held off blob found some = flags_by_blob held ∙ entry-flagged (entries held) off blob (sym (get-entries held off) ∙ found) some

-- ---- the runs

needed-each : (maps : List HeldMap) (parts : List Part) (ordered : List HeldMap) (off : ℕ) (blob : Blob) → AreEach maps true parts ordered → IsInPart ordered off blob → list_any has_flag blob.elements ≡ true
    → list_any (λ (part : Part). part.history) parts ≡ true
needed-each maps parts [] off blob each found some = absurd found
needed-each maps [] (run ∷ ordered) off blob each found some = absurd each
needed-each maps (part ∷ parts) (run ∷ ordered) off blob each found some = elim found [
  | inl here ↦ or-left part.history (list_any (λ (p : Part). p.history) parts) (each.0.history ∙ blob-flagged each.0.store off blob (each.0.within off blob here) some)
  | inr later ↦ or-right part.history (list_any (λ (p : Part). p.history) parts) (needed-each maps parts ordered off blob each.1 later some)
]

told-each : (maps : List HeldMap) (parts : List Part) (ordered : List HeldMap) → AreEach maps true parts ordered → list_any (λ (part : Part). part.history) parts ≡ true
    → (place : ℕ) × (store : HeldMap) × (slice_get maps place ≡ Some store) × (has_flags store ≡ true)
told-each maps [] ordered each some = absurd (cc)
told-each maps (part ∷ parts) [] each some = absurd each
told-each maps (part ∷ parts) (run ∷ ordered) each some = at (λ later. told-each maps parts ordered each.1 later) part.history refl
  where
    at : (list_any (λ (p : Part). p.history) parts ≡ true → (place : ℕ) × (store : HeldMap) × (slice_get maps place ≡ Some store) × (has_flags store ≡ true)) → (b : Bool) → part.history ≡ b
        → (place : ℕ) × (store : HeldMap) × (slice_get maps place ≡ Some store) × (has_flags store ≡ true)
    at behind true is = (part.place, each.0.store, each.0.at, sym each.0.history ∙ is)
    at behind false is = behind (ap (λ b. b || list_any (λ (p : Part). p.history) parts) (sym is) ∙ some)

any-at : (maps : List HeldMap) (place : ℕ) (store : HeldMap) → slice_get maps place ≡ Some store → has_flags store ≡ true → list_any has_flags maps ≡ true
any-at [] place store at some = absurd (cc)
any-at (first ∷ maps) zero store at some = let same : first ≡ store = cc in or-left (has_flags first) (list_any has_flags maps) (ap has_flags same ∙ some)
any-at (first ∷ maps) (suc place) store at some = or-right (has_flags first) (list_any has_flags maps) (any-at maps place store at some)

agree : (a b : Bool) → (a ≡ true → b ≡ true) → (b ≡ true → a ≡ true) → a ≡ b
agree true b to from = sym (to refl)
agree false true to from = from refl
agree false false to from = refl

pub history-read : (maps : List HeldMap) (parts : List Part) (whole : HeldMap) (read : AreRead maps true parts) → AreParts read.ordered whole → IsHistoryOf maps whole (list_any (λ (part : Part). part.history) parts)
history-read maps parts whole read are = record {
  needed = needed;
  told = λ some. (let it = told-each maps parts read.ordered read.each some in any-at maps it.0 it.1 it.2 it.3);
  same = λ of_maps. agree (list_any (λ (part : Part). part.history) parts) (has_flags whole) (λ some. held of_maps some) needed;
}
  where
    needed : has_flags whole ≡ true → list_any (λ (part : Part). part.history) parts ≡ true
    needed some = let it = flagged-blob whole some in needed-each maps parts read.ordered it.0 it.1 read.each (are.only it.0 it.1 it.2) it.3

    held : AreParts maps whole → list_any (λ (part : Part). part.history) parts ≡ true → has_flags whole ≡ true
    held of_maps some =
        let it = told-each maps parts read.ordered read.each some in
        let one = flagged-blob it.1 it.3 in
        blob-flagged whole one.0 one.1 (of_maps.kept one.0 one.1 (in-at maps it.0 it.1 one.0 one.1 it.2 one.2)) one.3
