-- A copy that a crash broke off, begun again.
use Rattle.std.proofs.Common.{◌≡◌, ◌⊎◌, ◌∙◌, ℕ, ◌<◌, Some, None, Option, refl, sym, ap, inl, inr, arith}
use Rattle.std.proofs.lemmas.Bool.{cases_lt}
use Rattle.std.specs.FinMap.{get}
use Rattle.osm_rows.specs.Held.{Blob, HeldMap}
use Rattle.osm_import.specs.Copies.{IsMerged, IsUnited, IsUnitedBelow, IsRefused}
use Rattle.osm_import.specs.declared.answer.Conflict.{Conflict}
use Rattle.osm_import.specs.declared.answer.Conflict.TheVariants.{Differs, Overlap}

pub one_blob : (held : HeldMap) (off : ℕ) (a b : Blob) → get held off ≡ Some a → get held off ≡ Some b → a ≡ b
one_blob held off a b one other = let same : Some a ≡ Some b = sym one ∙ other in cc

pub held_or_free : (held : HeldMap) (off : ℕ) (there : Option Blob) → get held off ≡ there → ((blob : Blob) × (get held off ≡ Some blob)) ⊎ (get held off ≡ None)
held_or_free held off (Some blob) is = inl (blob, is)
held_or_free held off None is = inr is

pub not_free : (held : HeldMap) (off : ℕ) (blob : Blob) → get held off ≡ Some blob → get held off ≡ None → ⊥
not_free held off blob is free = let bad : Some blob ≡ None = sym is ∙ free in cc

-- where a blob was taken one of its digest is held
pub taken_there : (Taken : ℕ → Type 0) (source held left : HeldMap) → IsMerged Taken source held left → (off : ℕ) (blob : Blob) → Taken off → get source off ≡ Some blob
    → (other : Blob) × (get left off ≡ Some other) × (other.digest ≡ blob.digest)
taken_there Taken source held left one off blob taken of = elim (held_or_free held off (get held off) refl) [
  | inl (other, was) ↦ (other, one.kept off other was, one.same off blob other taken of was)
  | inr free ↦ (blob, one.added off blob taken of free, refl)
]

pub merged_again : (Taken Further : ℕ → Type 0) (source held left after : HeldMap) → ((off : ℕ) → Taken off → Further off) → IsMerged Taken source held left → IsMerged Further source left after → IsMerged Further source held after
merged_again Taken Further source held left after more one two = record {
  kept = λ off blob was. two.kept off blob (one.kept off blob was);
  added = λ off blob taken of free.
      (elim (held_or_free left off (get left off) refl) [
        | inl (other, there) ↦ elim (one.only off other there) [
          | inl was ↦ absurd (not_free held off other was free)
          | inr (_, other_of, _) ↦ let same : other ≡ blob = one_blob source off other blob other_of of in two.kept off blob (there ∙ ap (λ (b : Blob). Some b) same)
        ]
        | inr none ↦ two.added off blob taken of none
      ]);
  only = λ off blob is.
      (elim (two.only off blob is) [
        | inl there ↦ elim (one.only off blob there) [ inl was ↦ inl was | inr (taken, of, free) ↦ inr (more off taken, of, free) ]
        | inr (taken, of, none) ↦ elim (held_or_free held off (get held off) refl) [
          | inl (other, was) ↦ absurd (not_free left off other (one.kept off other was) none)
          | inr free ↦ inr (taken, of, free)
        ]
      ]);
  same = λ off blob other taken of was. two.same off blob other taken of (one.kept off other was);
}

-- no blob that was taken is refused later
untaken : (Taken Further : ℕ → Type 0) (source held left after : HeldMap) (off : ℕ) (conflict : Conflict) → IsMerged Taken source held left → IsMerged Further source left after → IsRefused source after off conflict → Taken off → ⊥
untaken Taken Further source held left after off Differs one two (blob, other, of, found, apart) taken =
    let (there, is, same) = taken_there Taken source held left one off blob taken of in
    let one_there : there ≡ other = one_blob after off there other (two.kept off there is) found in
    apart (sym (ap (λ (b : Blob). b.digest) one_there) ∙ same)
untaken Taken Further source held left after off Overlap one two (blob, of, none, met) taken =
    let (there, is, same) = taken_there Taken source held left one off blob taken of in
    not_free after off there (two.kept off there is) none

pub refused_again : (source held left : HeldMap) → IsUnited source held left ⊎ ((place : ℕ) × IsUnitedBelow place source held left)
    → (off : ℕ) (conflict : Conflict) (after : HeldMap) → IsUnitedBelow off source left after → IsRefused source after off conflict → IsUnitedBelow off source held after
refused_again source held left (inl whole) off conflict after below refused = absurd (untaken _ _ source held left after off conflict whole below refused tt)
refused_again source held left (inr (place, front)) off conflict after below refused =
    let Taken : ℕ → Type 0 = λ at. at < place in
    let Further : ℕ → Type 0 = λ at. at < off in
    elim (cases_lt off place) [
      | inl before ↦ absurd (untaken Taken Further source held left after off conflict front below refused before)
      | inr behind ↦ merged_again Taken Further source held left after (λ at within. omega (arith, within, behind)) front below
    ]

pub united_again : (source held left : HeldMap) → IsUnited source held left ⊎ ((place : ℕ) × IsUnitedBelow place source held left)
    → (after : HeldMap) → IsUnited source left after → IsUnited source held after
united_again source held left (inl whole) after also = merged_again _ _ source held left after (λ at taken. taken) whole also
united_again source held left (inr (place, front)) after also = merged_again (λ at. at < place) (λ at. Unit {0}) source held left after (λ at taken. tt) front also
