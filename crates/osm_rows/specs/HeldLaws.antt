-- What follows for a held map from the laws of finite maps.
use Rattle.std.specs.Prelude.{◌≡◌, ◌≢◌, ◌⊎◌, ℕ, ◌<◌, ◌≤◌, Some}
use Rattle.std.specs.Cmp.{nat_cmp_total, unsigned_tied}
use Rattle.std.specs.FinMap.{get, insert, get-insert}
use Rattle.std.proofs.Common.{sym, ◌∙◌, ap, subst, inl, inr, arith, cond, eqb}
use Rattle.std.proofs.lemmas.Bool.Decides.{eqb_tells, nat_tests}
use Rattle.pbf_frame.specs.declared.part.TheConstants.{MAX_OFFSET}
use Rattle.osm_rows.specs.Held.{Blob, HeldMap, IsFree, IsApart}

pub get-insert_nat : (held : HeldMap) (off : ℕ) (blob : Blob) (at : ℕ) → get (insert held off blob) at ≡ cond (eqb at off) (Some blob) (get held at)
get-insert_nat held off blob at = get-insert nat_cmp_total held off blob at ∙ ap (λ b. cond b (Some blob) (get held at)) (unsigned_tied at off)

-- at the new place
pub get-insert_here : (held : HeldMap) (off : ℕ) (blob : Blob) → get (insert held off blob) off ≡ Some blob
get-insert_here held off blob = grind (arith, nat_tests, get-insert_nat held off blob off)

-- at another place
pub get-insert_other : (held : HeldMap) (off : ℕ) (blob : Blob) (at : ℕ) → at ≢ off → get (insert held off blob) at ≡ get held at
get-insert_other held off blob at apart = grind (arith, nat_tests, get-insert_nat held off blob at)

-- what is held afterwards is the new blob or was held before
pub get-insert_cases : (held : HeldMap) (off : ℕ) (blob : Blob) (at : ℕ) (other : Blob) → get (insert held off blob) at ≡ Some other → ((at ≡ off) × (other ≡ blob)) ⊎ ((at ≢ off) × (get held at ≡ Some other))
get-insert_cases held off blob at other is =
    elim (eqb_tells at off) [
      | inl (test, same) ↦ inl (same, let e : Some blob ≡ Some other = sym (get-insert_nat held off blob at ∙ ap (λ b. cond b (Some blob) (get held at)) test) ∙ is in cc)
      | inr (test, apart) ↦ inr (apart, sym (get-insert_other held off blob at apart) ∙ is)
    ]

-- a free place is not held
pub IsFree-unheld : (held : HeldMap) (off fin : ℕ) → IsApart held → IsFree held off fin → off < fin → (blob : Blob) → get held off ≢ Some blob
IsFree-unheld held off fin apart free order blob is =
    let filled : off < blob.fin = apart.filled off blob is in
    elim (free off blob is) [ inl ends ↦ omega arith | inr starts ↦ omega arith ]

-- extents still don't meet after an entry at a free place
pub IsApart-insert : (held : HeldMap) (off : ℕ) (blob : Blob) → IsApart held → IsFree held off blob.fin → off < blob.fin → blob.fin ≤ MAX_OFFSET → IsApart (insert held off blob)
IsApart-insert held off blob apart free order limit = record {
  filled = λ at other is. elim (get-insert_cases held off blob at other is) [
    | inl (here, same) ↦ subst (λ (b : Blob). at < b.fin) (sym same) (subst (λ n. n < blob.fin) (sym here) order)
    | inr (_, was) ↦ apart.filled at other was
  ];
  limit = λ at other is. elim (get-insert_cases held off blob at other is) [
    | inl (_, same) ↦ subst (λ (b : Blob). b.fin ≤ MAX_OFFSET) (sym same) limit
    | inr (_, was) ↦ apart.limit at other was
  ];
  apart = λ at next first second is is_next order_of. elim (get-insert_cases held off blob at first is) [
    | inl (here, same) ↦ elim (get-insert_cases held off blob next second is_next) [
      | inl (there, _) ↦ omega arith
      | inr (_, was) ↦ subst (λ (b : Blob). b.fin ≤ next) (sym same) (elim (free next second was) [
        | inl ends ↦ (let filled : next < second.fin = apart.filled next second was in omega arith)
        | inr starts ↦ starts
      ])
    ]
    | inr (_, was) ↦ elim (get-insert_cases held off blob next second is_next) [
      | inl (there, _) ↦ elim (free at first was) [
        | inl ends ↦ subst (λ n. first.fin ≤ n) (sym there) ends
        | inr starts ↦ omega arith
      ]
      | inr (_, was_next) ↦ apart.apart at next first second was was_next order_of
    ]
  ];
}
