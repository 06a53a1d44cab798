-- A step has one answer that is no fault, and one map after it.
use Rattle.std.proofs.Common.{◌≡◌, ◌≢◌, ◌⊎◌, ℕ, ◌+◌, Bool, true, false, List, length, filter, Option, Some, None, refl, sym, ap, inl, inr, ◌∙◌, arith}
use Rattle.std.specs.Str.{bytes_eq}
use Rattle.std.proofs.lemmas.Bool.Decides.{eqb_tells, not_from_Decides}
use Rattle.std.proofs.lemmas.Slice.Eq.{bytes_eq-Decides}
use Rattle.std.specs.FinMap.{get, insert, entries, get-entries, entries_sorted}
use Rattle.sha2.specs.Sha256.{sha256}
use Rattle.osm_value.specs.declared.element.Element.{Element}
use Rattle.pbf_frame.specs.declared.kind.Kind.{Kind}
use Rattle.osm_rows.specs.Held.{Blob, HeldMap}
use Rattle.osm_rows.specs.Keeping.{touches, extents_of}
use Rattle.osm_reading.specs.Good.{IsGood}
use Rattle.osm_reading.specs.Bad.{IsBad}
use Rattle.osm_import.specs.Step.{IsStep, IsEntry, IsHeldAlready, IsHeldOtherwise, IsOverlapping, IsStoring}
use Rattle.osm_import.specs.Runs.{IsFault}
use Rattle.osm_reading.specs.declared.fault.Fault as the
use Rattle.osm_import.specs.declared.answer.Conflict.TheVariants.{Differs, Overlap}
use Rattle.osm_import.specs.declared.answer.Answer.{Answer}
use Rattle.osm_import.specs.declared.answer.Answer.TheVariants.{Stored, AlreadyHeld, Bad, Refused, Fault}
use Rattle.osm_reading.proofs.GoodLaws.{good-or-bad, good-not_bad, bad-one}
use Rattle.osm_import.proofs.FilesLemmas.{entry-same}
use Rattle.osm_import.proofs.Delivering.{true-of, entry_at, entry_at-is, free-of, both-held, not-held}
use Rattle.osm_import.proofs.Touching.{Meets, touching-meets}

-- ---- some answer

digest-tells : (a b : List ℕ) → (a ≡ b) ⊎ (a ≢ b)
digest-tells a b = tells (bytes_eq a b) refl
  where
    tells : (test : Bool) → bytes_eq a b ≡ test → (a ≡ b) ⊎ (a ≢ b)
    tells true e = inl ((bytes_eq-Decides a b).0 e)
    tells false e = inr (not_from_Decides _ (bytes_eq-Decides a b) e)

-- an answer that is no fault, and the map after it
pub record SomeStep (held : HeldMap) (off : ℕ) (bytes : List ℕ) : Type 0 where
  pub answer : Answer
  pub after : HeldMap
  pub step : IsStep held off bytes answer after
  pub sound : ¬ (IsFault answer)

meeting : (held : HeldMap) (off : ℕ) (bytes : List ℕ) (kind : Kind) (es : List Element) → IsGood off bytes kind es → get held off ≡ None
    → (n : ℕ) → length (filter (touches off (off + length bytes)) (extents_of held)) ≡ n → SomeStep held off bytes
meeting held off bytes kind es good unheld n count = elim (eqb_tells n 0) [
  | inl (_, none) ↦ record {
    answer = Stored (length es);
    after = insert held off (entry_at off bytes kind es);
    step = record {
      entry = entry_at off bytes kind es;
      is_entry = entry_at-is off bytes kind es good;
      unheld = unheld;
      free = free-of held off (off + length bytes) (filter (touches off (off + length bytes)) (extents_of held)) refl (count ∙ none);
      counted = refl;
      added = refl;
    };
    sound = λ h. h;
  }
  | inr (_, some) ↦
      let met : Meets (entries held) off (off + length bytes) = touching-meets off (off + length bytes) (entries held) (true-of _ (entries_sorted held)) (omega (arith, count)) in record {
        answer = Refused Overlap;
        after = held;
        step = (
          record {
            entry = entry_at off bytes kind es;
            is_entry = entry_at-is off bytes kind es good;
            unheld = unheld;
            at = met.at;
            blob = met.blob;
            found = get-entries held met.at ∙ met.found;
            starts = met.starts;
            ends = met.ends;
          },
          refl,
        );
        sound = λ h. h;
      }
]

holding : (held : HeldMap) (off : ℕ) (bytes : List ℕ) (kind : Kind) (es : List Element) → IsGood off bytes kind es → (o : Option Blob) → get held off ≡ o → SomeStep held off bytes
holding held off bytes kind es good None is = meeting held off bytes kind es good is _ refl
holding held off bytes kind es good (Some blob) is = elim (digest-tells blob.digest (sha256 bytes)) [
  | inl same ↦ record { answer = AlreadyHeld; after = held; step = (record { entry = entry_at off bytes kind es; is_entry = entry_at-is off bytes kind es good; blob = blob; found = is; same = same }, refl); sound = λ h. h }
  | inr other ↦ record { answer = Refused Differs; after = held; step = (record { entry = entry_at off bytes kind es; is_entry = entry_at-is off bytes kind es good; blob = blob; found = is; other = other }, refl); sound = λ h. h }
]

pub some-step : (held : HeldMap) (off : ℕ) (bytes : List ℕ) → SomeStep held off bytes
some-step held off bytes = elim (good-or-bad off bytes) [
  | inl good ↦ holding held off bytes good.0 good.1 good.2 (get held off) refl
  | inr bad ↦ record { answer = Bad bad.0; after = held; step = (bad.1, refl); sound = λ h. h }
]

-- ---- no two answers

abbrev Same : Answer → HeldMap → Answer → HeldMap → Type 0
Same a after b other = (a ≡ b) × (after ≡ other)

same-or-other : {C : Type 0} (held : HeldMap) (off : ℕ) (bytes : List ℕ) → IsHeldAlready held off bytes → IsHeldOtherwise held off bytes → C
same-or-other held off bytes h g = absurd (g.other (ap (λ (b : Blob). b.digest) (both-held held off g.blob h.blob g.found h.found) ∙ h.same))

met-or-free : {C : Type 0} (held : HeldMap) (off : ℕ) (bytes : List ℕ) (count : ℕ) (after : HeldMap) → IsOverlapping held off bytes → IsStoring held off bytes count after → C
met-or-free held off bytes count after h g =
    let starts = h.starts in
    let ends = h.ends in
    let fin = g.is_entry.ends in
    elim (g.free h.at h.blob h.found) [ inl before ↦ absurd (omega arith) | inr behind ↦ absurd (omega arith) ]

good-bad : {C : Type 0} (off : ℕ) (bytes : List ℕ) (entry : Blob) (fault : the.Fault) → IsEntry off bytes entry → IsBad off bytes fault → C
good-bad off bytes entry fault is bad = absurd (good-not_bad off bytes entry.kind entry.elements is.good fault bad)

stored-same : (held : HeldMap) (off : ℕ) (bytes : List ℕ) (m n : ℕ) (after other : HeldMap) → IsStoring held off bytes m after → IsStoring held off bytes n other → Same (Stored m) after (Stored n) other
stored-same held off bytes m n after other h g =
    let same = entry-same off bytes h.entry g.entry h.is_entry g.is_entry in
    (ap Stored (h.counted ∙ ap (λ (b : Blob). length b.elements) same ∙ sym g.counted), h.added ∙ ap (insert held off) same ∙ sym g.added)

pub one-step : (held : HeldMap) (off : ℕ) (bytes : List ℕ) (a b : Answer) (after other : HeldMap) → IsStep held off bytes a after → IsStep held off bytes b other
    → ¬ (IsFault a) → ¬ (IsFault b) → (a ≡ b) × (after ≡ other)
one-step held off bytes (Fault f) b after other h g sound also = absurd (sound tt)
one-step held off bytes a (Fault f) after other h g sound also = absurd (also tt)
one-step held off bytes (Bad f) (Bad e) after other h g sound also = (ap Bad (bad-one off bytes f e h.0 g.0), h.1 ∙ sym g.1)
one-step held off bytes (Bad f) AlreadyHeld after other h g sound also = good-bad off bytes g.0.entry f g.0.is_entry h.0
one-step held off bytes (Bad f) (Refused Differs) after other h g sound also = good-bad off bytes g.0.entry f g.0.is_entry h.0
one-step held off bytes (Bad f) (Refused Overlap) after other h g sound also = good-bad off bytes g.0.entry f g.0.is_entry h.0
one-step held off bytes (Bad f) (Stored n) after other h g sound also = good-bad off bytes g.entry f g.is_entry h.0
one-step held off bytes AlreadyHeld (Bad f) after other h g sound also = good-bad off bytes h.0.entry f h.0.is_entry g.0
one-step held off bytes (Refused Differs) (Bad f) after other h g sound also = good-bad off bytes h.0.entry f h.0.is_entry g.0
one-step held off bytes (Refused Overlap) (Bad f) after other h g sound also = good-bad off bytes h.0.entry f h.0.is_entry g.0
one-step held off bytes (Stored n) (Bad f) after other h g sound also = good-bad off bytes h.entry f h.is_entry g.0
one-step held off bytes AlreadyHeld AlreadyHeld after other h g sound also = (refl, h.1 ∙ sym g.1)
one-step held off bytes AlreadyHeld (Refused Differs) after other h g sound also = same-or-other held off bytes h.0 g.0
one-step held off bytes AlreadyHeld (Refused Overlap) after other h g sound also = not-held held off h.0.blob h.0.found g.0.unheld
one-step held off bytes AlreadyHeld (Stored n) after other h g sound also = not-held held off h.0.blob h.0.found g.unheld
one-step held off bytes (Refused Differs) AlreadyHeld after other h g sound also = same-or-other held off bytes g.0 h.0
one-step held off bytes (Refused Differs) (Refused Differs) after other h g sound also = (refl, h.1 ∙ sym g.1)
one-step held off bytes (Refused Differs) (Refused Overlap) after other h g sound also = not-held held off h.0.blob h.0.found g.0.unheld
one-step held off bytes (Refused Differs) (Stored n) after other h g sound also = not-held held off h.0.blob h.0.found g.unheld
one-step held off bytes (Refused Overlap) AlreadyHeld after other h g sound also = not-held held off g.0.blob g.0.found h.0.unheld
one-step held off bytes (Refused Overlap) (Refused Differs) after other h g sound also = not-held held off g.0.blob g.0.found h.0.unheld
one-step held off bytes (Refused Overlap) (Refused Overlap) after other h g sound also = (refl, h.1 ∙ sym g.1)
one-step held off bytes (Refused Overlap) (Stored n) after other h g sound also = met-or-free held off bytes n other h.0 g
one-step held off bytes (Stored n) AlreadyHeld after other h g sound also = not-held held off g.0.blob g.0.found h.unheld
one-step held off bytes (Stored n) (Refused Differs) after other h g sound also = not-held held off g.0.blob g.0.found h.unheld
one-step held off bytes (Stored n) (Refused Overlap) after other h g sound also = met-or-free held off bytes n after g.0 h
one-step held off bytes (Stored m) (Stored n) after other h g sound also = stored-same held off bytes m n after other h g
