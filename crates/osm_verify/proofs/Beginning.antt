-- The extents that begin in a range.
use Rattle.std.proofs.Common.{◌≡◌, ℕ, ◌<◌, ◌≤◌, ◌&&◌, nat_lt, Bool, true, false, cond, List, [], ◌∷◌, map, filter, Some, None, refl, sym, ◌∙◌, ap, inl, inr, arith}
use Rattle.std.specs.Prelude.{nat_le}
use Rattle.std.specs.Ordering.{nat_cmp}
use Rattle.std.specs.FinMap as finite
use Rattle.std.specs.FinMap.{get, entries, get-entries, entries_sorted}
use Rattle.std.specs.FinMap.Entries.{is_sorted}
use Rattle.std.proofs.lemmas.Bool.Decides.{eqb_tells, nat_tests}
use Rattle.osm_rows.specs.Held.{Blob, HeldMap, IsApart}
use Rattle.osm_rows.specs.Keeping.{touches, extent_of, extents_of}
use Rattle.osm_rows.specs.declared.keeper.Extent.{Extent}
use Rattle.osm_import.proofs.Touching.{find-cons, find-tail, find-head, sorted-tail}
use Rattle.osm_import.proofs.Delivering.{true-of}
use Rattle.osm_verify.specs.Agreements.{begins}

-- ---- those that touch the range and begin behind its first byte

begins-is : (from to at fin : ℕ) → at < fin → ((nat_lt at to && nat_lt from fin) && nat_le from at) ≡ (nat_le from at && nat_lt at to)
begins-is from to at fin filled = grind (arith, nat_tests)

filter-cond : (p : Extent → Bool) (a b : Bool) (x : Extent) (rest : List Extent) → p x ≡ b → filter p (cond a (x ∷ rest) rest) ≡ cond (a && b) (x ∷ filter p rest) (filter p rest)
filter-cond p true b x rest is = ap (λ c. cond c (x ∷ filter p rest) (filter p rest)) is
filter-cond p false b x rest is = refl

touching-begin : (from to : ℕ) (es : List (ℕ × Blob)) → is_sorted nat_cmp es ≡ true → ((at : ℕ) (blob : Blob) → finite.find nat_cmp at es ≡ Some blob → at < blob.fin)
    → filter (λ (e : Extent). nat_le from e.off) (filter (touches from to) (map extent_of es)) ≡ filter (begins from to) (map extent_of es)
touching-begin from to [] sorted filled = refl
touching-begin from to (e ∷ es) sorted filled =
    let p : Extent → Bool = λ (e : Extent). nat_le from e.off in
    let rest : List Extent = filter (touches from to) (map extent_of es) in
    let more : filter p rest ≡ filter (begins from to) (map extent_of es) =
    touching-begin from to es (sorted-tail e es sorted) (λ at blob is. filled at blob (find-tail e es sorted at blob is).1) in
    filter-cond p (touches from to (extent_of e)) (nat_le from e.0) (extent_of e) rest refl
    ∙ ap (λ b. cond b (extent_of e ∷ filter p rest) (filter p rest)) (begins-is from to e.0 e.1.fin (filled e.0 e.1 (find-head e es)))
    ∙ ap (λ (l : List Extent). cond (nat_le from e.0 && nat_lt e.0 to) (extent_of e ∷ l) l) more

pub beginning-are : (held : HeldMap) (from to : ℕ) (touched : List Extent) → IsApart held → touched ≡ filter (touches from to) (extents_of held)
    → filter (λ (e : Extent). nat_le from e.off) touched ≡ filter (begins from to) (extents_of held)
beginning-are held from to touched apart are =
    ap (filter (λ (e : Extent). nat_le from e.off)) are
    ∙ touching-begin from to (entries held) (true-of _ (entries_sorted held)) (λ at blob is. apart.filled at blob (get-entries held at ∙ is))

-- an empty range has none
empty-range : (from at : ℕ) → (nat_le from at && nat_lt at from) ≡ false
empty-range from at = grind (arith, nat_tests)

none-of-list : (from : ℕ) (es : List Extent) → filter (begins from from) es ≡ []
none-of-list from [] = refl
none-of-list from (e ∷ es) = ap (λ b. cond b (e ∷ filter (begins from from) es) (filter (begins from from) es)) (empty-range from e.off) ∙ none-of-list from es

pub none-in-empty : (held : HeldMap) (from to : ℕ) → from ≡ to → [] ≡ filter (begins from to) (extents_of held)
none-in-empty held from to same = sym (ap (λ n. filter (begins from n) (extents_of held)) (sym same) ∙ none-of-list from (extents_of held))

-- ---- none begins there

begins-yes : (from to at : ℕ) → from ≤ at → at < to → (nat_le from at && nat_lt at to) ≡ true
begins-yes from to at low high = grind (arith, nat_tests)

none-there : (from to : ℕ) (es : List (ℕ × Blob)) → filter (begins from to) (map extent_of es) ≡ [] → (at : ℕ) (blob : Blob) → finite.find nat_cmp at es ≡ Some blob → from ≤ at → at < to → ⊥
none-there from to [] none at blob is low high = let bad : None ≡ Some blob = is in cc
none-there from to (e ∷ es) none at blob is low high =
    let rest : List Extent = filter (begins from to) (map extent_of es) in
    elim (eqb_tells at e.0) [
      | inl (test, same) ↦ (
          let hit : begins from to (extent_of e) ≡ true = begins-yes from to e.0 (omega (arith, same)) (omega (arith, same)) in
          let bad : extent_of e ∷ rest ≡ [] = sym (ap (λ b. cond b (extent_of e ∷ rest) rest) hit) ∙ none in cc)
      | inr (test, apart) ↦ (
          let split : (b : Bool) → cond b (extent_of e ∷ rest) rest ≡ [] → rest ≡ []
          = elim [ true ↦ λ (h : extent_of e ∷ rest ≡ []). absurd (cc) | false ↦ λ h. h ] in
          none-there from to es (split (begins from to (extent_of e)) none) at blob (sym (find-cons at e es ∙ ap (λ b. cond b (Some e.1) (finite.find nat_cmp at es)) test) ∙ is) low high)
    ]

pub none-begins : (held : HeldMap) (from to : ℕ) → filter (begins from to) (extents_of held) ≡ [] → (at : ℕ) (blob : Blob) → get held at ≡ Some blob → from ≤ at → at < to → ⊥
none-begins held from to none at blob is low high = none-there from to (entries held) none at blob (sym (get-entries held at) ∙ is) low high
