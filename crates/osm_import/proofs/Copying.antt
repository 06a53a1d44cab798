-- From the calls of two stores to what the copy of a blob has done to them.
use Rattle.std.proofs.Common.{◌≡◌, ◌⊎◌, ◌∙◌, ◌<◌, ◌≤◌, [], false, Result, Ok, Err, refl, sym, ap, subst, inl, inr}
use Rattle.std.specs.Prelude.{OnErr, OnOk}
use Rattle.osm_rows.specs.Calls.{OfHeld}
use Rattle.osm_rows.specs.Held.{Blob, HeldMap, IsFree}
use Rattle.osm_rows.specs.Keeping.{IsAddable, extent_of, with_blob}
use Rattle.osm_rows.specs.declared.fault.StoreFault.{StoreFault}
use Rattle.osm_rows.specs.declared.keeper.Extent.{Extent}
use Rattle.osm_rows.specs.declared.keeper.BlobReader.{Ghosts}
use Rattle.osm_import.specs.Copies.{BlobHasCause, BlobTells, CopiesBlob, IsCopyStep, IsOwnBlob, is_added}
use Rattle.osm_import.specs.Places.{IsMet, IsPlaceOf}
use Rattle.osm_import.specs.Stores.{AddsComplete, CopiesOne, HoldsStill, KeepsHeld, Rereads, WhereHeld}
use Rattle.osm_import.specs.declared.answer.Conflict.{Conflict}
use Rattle.osm_import.specs.declared.answer.Conflict.TheVariants.{Differs, Overlap}
use Rattle.osm_import.specs.declared.copy.BlobCopy.{BlobCopy}
use Rattle.osm_import.specs.declared.copy.BlobCopy.TheVariants.{AlreadyHeld}
use Rattle.osm_import.specs.declared.copy.CopyFault.{CopyFault}
use Rattle.osm_import.specs.declared.copy.CopyFault.TheVariants.{Refused}
use Rattle.osm_import.specs.declared.place.Place.TheVariants as places
use Rattle.osm_import.proofs.CopiesLemmas.{crash-keeps}
use Rattle.osm_import.proofs.Taking.{Promises, Puts, Reads, crash_then, held_then}

-- what a place that isn't free says of a blob that is copied
pub held_there : (held : HeldMap) (extent : Extent) (blob : Blob) → extent ≡ extent_of (extent.off, blob) → IsPlaceOf held extent.off extent.fin extent.digest places.Held → IsCopyStep held extent.off blob (Ok AlreadyHeld) held
held_there held extent blob is place = (place.0, place.1, place.2 ∙ ap (λ (e : Extent). e.digest) is, refl)

pub in_its_way : (held : HeldMap) (extent : Extent) (blob : Blob) (conflict : Conflict) → extent ≡ extent_of (extent.off, blob) → IsPlaceOf held extent.off extent.fin extent.digest (places.Taken conflict)
    → IsCopyStep held extent.off blob (Err (Refused conflict)) held
in_its_way held extent blob Differs is place = (place.0, place.1, (λ same. place.2 (same ∙ sym (ap (λ (e : Extent). e.digest) is))), refl)
in_its_way held extent blob Overlap is place = (place.0, subst (λ (e : Extent). IsMet held extent.off e.fin) is place.1, refl)

-- a copy for which the second store is only read
pub copies_by_reading : {F T X : Type 0} (from : Ghosts F) (to : Ghosts T) → Promises to → (first last : F) (old new : T) (extent : Extent) (answer : Result BlobCopy CopyFault) (result : Result X StoreFault) → Reads to old result new
    → WhereHeld from to first last old new extent (λ held blob. CopiesBlob (to.is_open new) (to.holds new) held extent.off blob answer)
    → OfHeld to old new (λ held. KeepsHeld to new answer held) → WhereHeld from to first last old new extent (λ held blob. IsOwnBlob answer) → Rereads from first answer last
    → BlobHasCause (from.failures first) (from.failures last) (to.failures old) (to.failures new) answer → BlobTells (from.failures first) (from.failures last) (to.failures old) (to.failures new) answer
    → AddsComplete to old new (extent, answer) → (from.failures first ≤ from.failures last) × (to.failures old ≤ to.failures new) → CopiesOne from to first last old new (extent, answer)
copies_by_reading from to promised first last old new extent answer result reads step kept own source cause told complete counted = record {
  step = step;
  crash = λ all held blob from_holds from_honest holds honest of is left leaves. inl (promised.settled old held left holds (reads.crash honest left leaves));
  kept = kept;
  whole = λ held holds honest. reads.whole honest (promised.leaves_held old held holds);
  list = λ held holds honest. reads.list honest;
  own = own;
  source = source;
  cause = cause;
  told = told;
  same = λ honest up other. reads.same honest up;
  complete = complete;
  honest = reads.honest;
  open_if = reads.open_if;
  counted = counted;
}

-- one that finds its place free, and puts the blob
module _ {F T X U : Type 0} (from : Ghosts F) (to : Ghosts T) (promised : Promises to) (first last : F) (old mid new : T) (extent : Extent) (put : Blob) (place : X) (reads : Reads to old (Ok place) mid)
    (result : Result U StoreFault) (puts : Puts to extent.off put mid result new) (can : OfHeld to old mid (λ held. IsAddable held extent.off put)) (order : extent.off < put.fin) where
  pub kept_by_putting : (answer : Result BlobCopy CopyFault) → OfHeld to old new (λ held. OnOk answer (HoldsStill to new held)) → OfHeld to old new (λ held. OnErr answer (to.is_open new → HoldsStill to new held)) → OfHeld to old new (λ held. KeepsHeld to new answer held)
  kept_by_putting answer ok err held holds honest = record {
    ok = ok held holds honest;
    err = err held holds honest;
    crash = λ left leaves.
        let now = held_then to promised old mid new extent.off [] put place reads result puts can held holds honest in
        crash-keeps held left extent.off put (promised.is_apart old held holds) order now.1.free (crash_then to promised old mid new extent.off [] put place reads result puts can held left holds honest leaves);
  }

  pub copies_by_putting : (answer : Result BlobCopy CopyFault) → WhereHeld from to first last old new extent (λ held blob. put ≡ blob)
      → WhereHeld from to first last old new extent (λ held blob. CopiesBlob (to.is_open new) (to.holds new) held extent.off blob answer)
      → OfHeld to old new (λ held. KeepsHeld to new answer held) → WhereHeld from to first last old new extent (λ held blob. IsOwnBlob answer) → Rereads from first answer last
      → (to.is_honest new → to.is_open new → is_added (extent, answer) ≡ false → to.same_tables mid new)
      → BlobHasCause (from.failures first) (from.failures last) (to.failures old) (to.failures new) answer → BlobTells (from.failures first) (from.failures last) (to.failures old) (to.failures new) answer
      → AddsComplete to old new (extent, answer) → (from.failures first ≤ from.failures last) × (to.failures old ≤ to.failures new) → CopiesOne from to first last old new (extent, answer)
  copies_by_putting answer is_put step kept own source same cause told complete counted =
      let Left : HeldMap → HeldMap → Blob → Type 0 = λ held left b. (left ≡ held) ⊎ (IsFree held extent.off b.fin × (left ≡ with_blob held extent.off b)) in
      record {
        step = step;
        crash = λ all held blob from_holds from_honest holds honest of is left leaves.
            let now = held_then to promised old mid new extent.off [] put place reads result puts can held holds honest in
            subst (Left held left) (is_put all held blob from_holds from_honest holds honest of is)
            (elim (crash_then to promised old mid new extent.off [] put place reads result puts can held left holds honest leaves) [ inl was ↦ inl was | inr more ↦ inr (now.1.free, more) ]);
        kept = kept;
        whole = λ held holds honest. (let now = held_then to promised old mid new extent.off [] put place reads result puts can held holds honest in puts.whole honest held now.0 now.1);
        list = λ held holds honest rows lists. (let now = held_then to promised old mid new extent.off [] put place reads result puts can held holds honest in puts.list honest held now.0 now.1 rows (reads.list (puts.honest honest) rows lists));
        own = own;
        source = source;
        cause = cause;
        told = told;
        same = λ honest up other. promised.same_then old mid new (reads.same (puts.honest honest) (puts.open_if up)) (same honest up other);
        complete = complete;
        honest = λ honest. reads.honest (puts.honest honest);
        open_if = λ up. reads.open_if (puts.open_if up);
        counted = counted;
      }
