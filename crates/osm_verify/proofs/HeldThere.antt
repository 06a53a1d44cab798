-- From what a store answers to how what it holds compares with a frame.
use Rattle.std.proofs.Common.{◌≡◌, ◌≢◌, ◌==◌, ℕ, ◌+◌, List, length, Option, Some, None, refl, sym, ◌∙◌, ap}
use Rattle.std.specs.Prelude.{find}
use Rattle.std.specs.FinMap.{get, entries, get-entries}
use Rattle.sha2.specs.Sha256.{sha256}
use Rattle.osm_value.specs.declared.element.Element.{Element}
use Rattle.pbf_frame.specs.declared.kind.Kind.{Kind}
use Rattle.osm_rows.specs.Held.{Blob, HeldMap, IsApart}
use Rattle.osm_rows.specs.Keeping.{extent_of}
use Rattle.osm_rows.specs.declared.keeper.Extent.{Extent}
use Rattle.osm_reading.specs.Good.{IsGood}
use Rattle.osm_import.proofs.Touching.{extent_found, find_touching}
use Rattle.osm_import.proofs.Delivering.{AreTouching, entry_at, entry_at-is, good-filled, unheld-at}
use Rattle.osm_verify.specs.declared.comparing.Depth.{Depth}
use Rattle.osm_verify.specs.declared.comparing.Depth.TheVariants.{Extents, Elements}
use Rattle.osm_verify.specs.Agreements.{AreAlike, IsSame, IsMissing, IsOther, IsExtentOf}

-- the blob that is held where this extent is found
pub record HeldAt (held : HeldMap) (off : ℕ) (extent : Extent) : Type 0 where
  pub blob : Blob
  pub found : get held off ≡ Some blob
  pub same : extent ≡ extent_of (off, blob)

pub held-at : (held : HeldMap) (off : ℕ) (frame : List ℕ) (kind : Kind) (elements : List Element) (extents : List Extent) (extent : Extent) → IsGood off frame kind elements → IsApart held
    → AreTouching held off (off + length frame) extents → Some extent ≡ find (λ (extent : Extent). extent.off == off) extents → HeldAt held off extent
held-at held off frame kind elements extents extent good apart are is =
    let order = good-filled off frame kind elements good in
    let at : find (λ (extent : Extent). extent.off == off) extents ≡ extent_found off (get held off) =
    ap (find (λ (extent : Extent). extent.off == off)) are
    ∙ find_touching off (off + length frame) order (entries held) (λ blob found. apart.filled off blob (get-entries held off ∙ found))
    ∙ ap (extent_found off) (sym (get-entries held off)) in
    let cases : (o : Option Blob) → get held off ≡ o → Some extent ≡ extent_found off o → HeldAt held off extent
    = elim [
      | Some blob ↦ λ found (e : Some extent ≡ Some (extent_of (off, blob))). record { blob = blob; found = found; same = cc }
      | None ↦ λ found (e : Some extent ≡ None). absurd (cc)
    ] in
    cases (get held off) refl (is ∙ at)

pub missing-at : (held : HeldMap) (off : ℕ) (frame : List ℕ) (kind : Kind) (elements : List Element) (extents : List Extent) → IsGood off frame kind elements → IsApart held
    → AreTouching held off (off + length frame) extents → ((extent : Extent) → find (λ (extent : Extent). extent.off == off) extents ≢ Some extent) → IsMissing held off frame
missing-at held off frame kind elements extents good apart are none = record {
  entry = entry_at off frame kind elements;
  is_entry = entry_at-is off frame kind elements good;
  unheld = unheld-at held off (off + length frame) extents apart (good-filled off frame kind elements good) are none;
}

-- an extent says which blob it is of
parts-of : (off : ℕ) (extent : Extent) (frame : List ℕ) (kind : Kind) (elements : List Element) → extent ≡ extent_of (off, entry_at off frame kind elements) → IsExtentOf extent (off + length frame) (sha256 frame) kind (length elements)
parts-of off extent frame kind elements is = record {
  ends = ap (λ (e : Extent). e.fin) is;
  digested = ap (λ (e : Extent). e.digest) is;
  kind_is = ap (λ (e : Extent). e.kind) is;
  counted = ap (λ (e : Extent). e.n) is;
}

pub other-extent : (depth : Depth) (held : HeldMap) (off : ℕ) (frame : List ℕ) (kind : Kind) (elements : List Element) (extent : Extent) → IsGood off frame kind elements → HeldAt held off extent
    → ¬ (IsExtentOf extent (off + length frame) (sha256 frame) kind (length elements)) → IsOther depth held off frame
other-extent depth held off frame kind elements extent good at apart = record {
  entry = entry_at off frame kind elements;
  is_entry = entry_at-is off frame kind elements good;
  blob = at.blob;
  found = at.found;
  apart = not-alike depth;
}
  where
    not-alike : (depth : Depth) → AreAlike depth off at.blob (entry_at off frame kind elements) → ⊥
    not-alike Extents alike = apart (parts-of off extent frame kind elements (at.same ∙ alike))
    not-alike Elements alike = apart (parts-of off extent frame kind elements (at.same ∙ ap (λ (b : Blob). extent_of (off, b)) alike))

pub same-extent : (held : HeldMap) (off : ℕ) (frame : List ℕ) (kind : Kind) (elements : List Element) (extent : Extent) → IsGood off frame kind elements → HeldAt held off extent
    → IsExtentOf extent (off + length frame) (sha256 frame) kind (length elements) → IsSame Extents held off frame
same-extent held off frame kind elements extent good at is =
    let fin : at.blob.fin ≡ off + length frame = sym (ap (λ (e : Extent). e.fin) at.same) ∙ is.ends in
    let digest : at.blob.digest ≡ sha256 frame = sym (ap (λ (e : Extent). e.digest) at.same) ∙ is.digested in
    let kind_is : at.blob.kind ≡ kind = sym (ap (λ (e : Extent). e.kind) at.same) ∙ is.kind_is in
    let counted : length at.blob.elements ≡ length elements = sym (ap (λ (e : Extent). e.n) at.same) ∙ is.counted in
    record {
      entry = entry_at off frame kind elements;
      is_entry = entry_at-is off frame kind elements good;
      blob = at.blob;
      found = at.found;
      alike = λ i. record { off = off; fin = fin i; digest = digest i; kind = kind_is i; n = counted i };
    }

-- what is told of all of a blob, where more than its extent is compared
pub same-deep : (depth : Depth) (held : HeldMap) (off : ℕ) (frame : List ℕ) → depth ≢ Extents → IsSame Elements held off frame → IsSame depth held off frame
same-deep Extents held off frame deep same = absurd (deep refl)
same-deep Elements held off frame deep same = same

pub other-deep : (depth : Depth) (held : HeldMap) (off : ℕ) (frame : List ℕ) (kind : Kind) (elements : List Element) (extent : Extent) → IsGood off frame kind elements → HeldAt held off extent
    → ¬ (IsSame Elements held off frame) → depth ≢ Extents → IsOther depth held off frame
other-deep Extents held off frame kind elements extent good at other deep = absurd (deep refl)
other-deep Elements held off frame kind elements extent good at other deep =
    let entry = entry_at off frame kind elements in
    let is_entry = entry_at-is off frame kind elements good in
    record { entry = entry; is_entry = is_entry; blob = at.blob; found = at.found; apart = λ alike. other (record { entry = entry; is_entry = is_entry; blob = at.blob; found = at.found; alike = alike }) }
