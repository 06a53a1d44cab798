-- From what the store's calls answer to the step.
use Rattle.std.proofs.Common.{◌≡◌, ◌≢◌, ◌==◌, ℕ, ◌+◌, ◌<◌, ◌≤◌, Bool, true, false, T, List, [], ◌∷◌, filter, length, Option, Some, None, refl, sym, ◌∙◌, ap, subst, arith}
use Rattle.std.specs.Prelude.{find}
use Rattle.std.specs.FinMap.{get, insert, entries, get-entries, entries_sorted}
use Rattle.sha2.specs.Sha256.{sha256}
use Rattle.osm_value.specs.declared.element.Element.{Element}
use Rattle.osm_reading.specs.Good.{IsGood, HasElements}
use Rattle.pbf_frame.specs.declared.kind.Kind.{Kind}
use Rattle.pbf_frame.specs.declared.kind.Kind.TheVariants.{OsmHeader, OsmData, Other}
use Rattle.osm_rows.specs.Held.{Blob, HeldMap, IsFree, IsApart, HaveFewTexts}
use Rattle.osm_rows.specs.HeldLaws.{IsFree-unheld}
use Rattle.osm_rows.specs.Keeping.{touches, extents_of, extent_of}
use Rattle.osm_rows.specs.declared.keeper.Extent.{Extent}
use Rattle.osm_import.specs.Places.{IsMet, IsPlaceOf}
use Rattle.osm_import.specs.Step.{IsEntry, IsStep, IsStoring}
use Rattle.osm_import.specs.declared.answer.Answer.TheVariants.{AlreadyHeld, Refused}
use Rattle.osm_import.specs.declared.answer.Conflict.{Conflict}
use Rattle.osm_import.specs.declared.answer.Conflict.TheVariants.{Differs, Overlap}
use Rattle.osm_import.specs.declared.place.Place.TheVariants as places
use Rattle.osm_reading.proofs.GoodLaws.{frame-filled}
use Rattle.osm_import.proofs.FewTexts.{block_uses_few_texts}
use Rattle.osm_import.proofs.Touching.{extent_found, find_touching, free-none, touching-meets, Meets}

pub good-filled : (off : ℕ) (frame : List ℕ) (kind : Kind) (elements : List Element) → IsGood off frame kind elements → off < off + length frame
good-filled off frame kind elements good = let h : 4 ≤ length frame = frame-filled good.type_name good.blob frame good.placed.frame in omega arith

-- its elements use few texts, since they are read from a raw payload
pub few-texts : (off : ℕ) (frame : List ℕ) (kind : Kind) (elements : List Element) → IsGood off frame kind elements → HaveFewTexts elements
few-texts off frame kind elements good = of-kind kind good.content
  where
    of-kind : (kind : Kind) → HasElements kind good.blob elements → HaveFewTexts elements
    of-kind OsmData has = block_uses_few_texts elements has.0 has.1.4 has.2
    of-kind OsmHeader has = subst (λ (es : List Element). HaveFewTexts es) (sym has.3) tt
    of-kind Other has = subst (λ (es : List Element). HaveFewTexts es) (sym has) tt

-- the entry of a good delivery
abbrev pub entry_at : ℕ → List ℕ → Kind → List Element → Blob
entry_at off frame kind elements = record { fin = off + length frame; digest = sha256 frame; kind = kind; elements = elements }

pub entry_at-is : (off : ℕ) (frame : List ℕ) (kind : Kind) (elements : List Element) → IsGood off frame kind elements → IsEntry off frame (entry_at off frame kind elements)
entry_at-is off frame kind elements good = record { good = good; ends = refl; digested = refl }

-- the extents that a store answers for this range
abbrev pub AreTouching : HeldMap → ℕ → ℕ → List Extent → Type 0
AreTouching held off fin extents = extents ≡ filter (touches off fin) (extents_of held)

at_offset : (held : HeldMap) (off fin : ℕ) (extents : List Extent) → IsApart held → off < fin → AreTouching held off fin extents
    → find (λ (extent : Extent). extent.off == off) extents ≡ extent_found off (get held off)
at_offset held off fin extents apart order are =
    ap (find (λ (extent : Extent). extent.off == off)) are
    ∙ find_touching off fin order (entries held) (λ blob is. apart.filled off blob (get-entries held off ∙ is))
    ∙ ap (extent_found off) (sym (get-entries held off))

-- what is held at the offset where an extent is found there
pub found-at : (held : HeldMap) (off fin : ℕ) (extents : List Extent) (extent : Extent) → IsApart held → off < fin → AreTouching held off fin extents
    → Some extent ≡ find (λ (extent : Extent). extent.off == off) extents → (blob : Blob) × (get held off ≡ Some blob) × (extent.digest ≡ blob.digest)
found-at held off fin extents extent apart order are is =
    let cases : (o : Option Blob) → get held off ≡ o → Some extent ≡ extent_found off o → (blob : Blob) × (get held off ≡ Some blob) × (extent.digest ≡ blob.digest)
    = elim [
      | Some blob ↦ λ found (e : Some extent ≡ Some (extent_of (off, blob))). (blob, found, (let same : extent ≡ extent_of (off, blob) = cc in ap (λ (x : Extent). x.digest) same))
      | None ↦ λ found (e : Some extent ≡ None). absurd (cc)
    ] in
    cases (get held off) refl (is ∙ at_offset held off fin extents apart order are)

-- nothing is held at the offset where no extent is found there
pub unheld-at : (held : HeldMap) (off fin : ℕ) (extents : List Extent) → IsApart held → off < fin → AreTouching held off fin extents
    → ((extent : Extent) → find (λ (extent : Extent). extent.off == off) extents ≢ Some extent) → get held off ≡ None
unheld-at held off fin extents apart order are none =
    let cases : (o : Option Blob) → get held off ≡ o → get held off ≡ None
    = elim [
      | Some blob ↦ λ found. absurd (none (extent_of (off, blob)) (at_offset held off fin extents apart order are ∙ ap (extent_found off) found))
      | None ↦ λ found. found
    ] in
    cases (get held off) refl

none_of : (extents : List Extent) → length extents ≡ 0 → extents ≡ []
none_of [] none = refl
none_of (extent ∷ extents) none = absurd (omega arith)

pub free-of : (held : HeldMap) (off fin : ℕ) (extents : List Extent) → AreTouching held off fin extents → length extents ≡ 0 → IsFree held off fin
free-of held off fin extents are none at blob is =
    free-none off fin (entries held) (sym are ∙ none_of extents none) at blob (sym (get-entries held at) ∙ is)

pub true-of : (b : Bool) → T b → b ≡ true
true-of true h = refl
true-of false h = absurd h

-- where an extent touches, something held meets the range
pub met-of : (held : HeldMap) (off fin : ℕ) (extents : List Extent) → AreTouching held off fin extents → 0 < length extents → IsMet held off fin
met-of held off fin extents are some =
    let met : Meets (entries held) off fin = touching-meets off fin (entries held) (true-of _ (entries_sorted held)) (omega (arith, ap length are)) in
    record { at = met.at; blob = met.blob; found = get-entries held met.at ∙ met.found; starts = met.starts; ends = met.ends }

pub both-held : (held : HeldMap) (off : ℕ) (a b : Blob) → get held off ≡ Some a → get held off ≡ Some b → a ≡ b
both-held held off a b x y = let e : Some a ≡ Some b = sym x ∙ y in cc

pub not-held : {C : Type 0} (held : HeldMap) (off : ℕ) (a : Blob) → get held off ≡ Some a → get held off ≡ None → C
not-held held off a x y = let e : Some a ≡ None = sym x ∙ y in absurd cc

pub none-held : (found : Option Blob) → ((blob : Blob) → found ≢ Some blob) → found ≡ None
none-held None h = refl
none-held (Some blob) h = absurd (h blob refl)

pub storing : (held : HeldMap) (off : ℕ) (frame : List ℕ) (kind : Kind) (elements stored : List Element) (digest : List ℕ) (count : ℕ) (after : HeldMap)
    → IsGood off frame kind elements → stored ≡ elements → digest ≡ sha256 frame → IsApart held → IsFree held off (off + length frame) → count ≡ length stored
    → after ≡ insert held off (record { fin = off + length frame; digest = digest; kind = kind; elements = stored }) → IsStoring held off frame count after
storing held off frame kind elements stored digest count after good same digested apart free counted added = record {
  entry = record { fin = off + length frame; digest = digest; kind = kind; elements = stored };
  is_entry = record { good = subst (λ (es : List Element). IsGood off frame kind es) (sym same) good; ends = refl; digested = digested };
  unheld = none-held (get held off) (IsFree-unheld held off (off + length frame) apart free (good-filled off frame kind elements good));
  free = free;
  counted = counted;
  added = added;
}

-- what a place that isn't free says of a good delivery
pub held_already : (held : HeldMap) (off : ℕ) (frame : List ℕ) (kind : Kind) (elements : List Element) (digest : List ℕ) → IsGood off frame kind elements → digest ≡ sha256 frame
    → IsPlaceOf held off (off + length frame) digest places.Held → IsStep held off frame AlreadyHeld held
held_already held off frame kind elements digest good digested place =
    (record { entry = entry_at off frame kind elements; is_entry = entry_at-is off frame kind elements good; blob = place.0; found = place.1; same = place.2 ∙ digested }, refl)

pub refused_there : (held : HeldMap) (off : ℕ) (frame : List ℕ) (kind : Kind) (elements : List Element) (digest : List ℕ) (conflict : Conflict) → IsGood off frame kind elements → digest ≡ sha256 frame
    → IsPlaceOf held off (off + length frame) digest (places.Taken conflict) → IsStep held off frame (Refused conflict) held
refused_there held off frame kind elements digest Differs good digested place =
    (record { entry = entry_at off frame kind elements; is_entry = entry_at-is off frame kind elements good; blob = place.0; found = place.1; other = λ same. place.2 (same ∙ sym digested) }, refl)
refused_there held off frame kind elements digest Overlap good digested place =
    let met = place.1 in
    (record { entry = entry_at off frame kind elements; is_entry = entry_at-is off frame kind elements good; unheld = place.0; at = met.at; blob = met.blob; found = met.found; starts = met.starts; ends = met.ends }, refl)
