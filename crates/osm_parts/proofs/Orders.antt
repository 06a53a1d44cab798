-- Parts in another order.
use Rattle.std.proofs.Common.{◌≡◌, ◌≢◌, ◌⊎◌, ℕ, zero, suc, ◌<◌, ◌≤◌, List, [], ◌∷◌, length, get_or, slice_get, Some, refl, sym, ◌∙◌, ap, inl, inr, arith}
use Rattle.std.specs.List.{swap}
use Rattle.std.specs.Prelude.{IsPermutation}
use Rattle.std.specs.FinMap.{get}
use Rattle.std.proofs.lemmas.Bool.Decides.{eqb_tells, leb_tells}
use Rattle.std.proofs.lemmas.List.Edits.{swapped_from_swap, length-swap}
use Rattle.std.proofs.lemmas.List.Sorted.{IsPermutation-keeps}
use Rattle.std.proofs.lemmas.Option.{slice_get_within, get_or_from_slice_get, slice_get-get_or}
use Rattle.osm_rows.specs.Held.{Blob, HeldMap}
use Rattle.osm_parts.specs.Parts.{FollowFrom, IsInPart}
use Rattle.osm_parts.specs.Interleaved.{NoneFollows}
use Rattle.osm_parts.proofs.PartsLemmas.{in_part-lies}

-- ---- two places of a list

record Stand (a b d : HeldMap) (maps : List HeldMap) : Type 0 where
  pub one : ℕ
  pub other : ℕ
  pub apart : one ≢ other
  pub one_low : one < length maps
  pub other_low : other < length maps
  pub one_is : get_or maps one d ≡ a
  pub other_is : get_or maps other d ≡ b

-- where an element stands after an exchange
abbrev IsMoved : ℕ → ℕ → ℕ → ℕ → Type 0
IsMoved i j from to = ((from ≡ i) × (to ≡ j)) ⊎ (((from ≡ j) × (to ≡ i)) ⊎ ((from ≢ i) × (from ≢ j) × (to ≡ from)))

moved-apart : (i j one other one' other' : ℕ) → one ≢ other → IsMoved i j one one' → IsMoved i j other other' → one' ≢ other'
moved-apart i j one other one' other' apart m n same = elim m [
  | inl (a, b) ↦ elim n [ inl (c, d) ↦ apart (omega arith) | inr rest ↦ elim rest [ inl (c, d) ↦ apart (omega arith) | inr (c, d, e) ↦ d (omega arith) ] ]
  | inr left ↦ elim left [
    | inl (a, b) ↦ elim n [ inl (c, d) ↦ apart (omega arith) | inr rest ↦ elim rest [ inl (c, d) ↦ apart (omega arith) | inr (c, d, e) ↦ c (omega arith) ] ]
    | inr (a, b, f) ↦ elim n [ inl (c, d) ↦ b (omega arith) | inr rest ↦ elim rest [ inl (c, d) ↦ a (omega arith) | inr (c, d, e) ↦ apart (omega arith) ] ]
  ]
]

moved : (maps : List HeldMap) (i j at : ℕ) (d : HeldMap) → i < length maps → j < length maps → at < length maps → (to : ℕ) × IsMoved i j at to × (to < length (swap maps i j)) × (get_or (swap maps i j) to d ≡ get_or maps at d)
moved maps i j at d low high within =
    let swapped = swapped_from_swap maps (swap maps i j) i j d low high refl in
    let long : length (swap maps i j) ≡ length maps = length-swap maps i j in
    elim (eqb_tells at i) [
      | inl (_, same) ↦ (j, inl (same, refl), omega arith, swapped.1 ∙ ap (λ n. get_or maps n d) (sym same))
      | inr (_, differ) ↦ elim (eqb_tells at j) [
        | inl (_, same) ↦ (i, inr (inl (same, refl)), omega arith, swapped.0 ∙ ap (λ n. get_or maps n d) (sym same))
        | inr (_, differ_too) ↦ (at, inr (inr (differ, differ_too, refl)), omega arith, swapped.2 at differ differ_too)
      ]
    ]

still-stand : (a b d : HeldMap) (maps ordered : List HeldMap) → IsPermutation maps ordered → Stand a b d maps → Stand a b d ordered
still-stand a b d maps ordered permutation start = IsPermutation-keeps maps (Stand a b d) start step ordered permutation
  where
    step : (l : List HeldMap) (i j : ℕ) → i < length l → j < length l → Stand a b d l → Stand a b d (swap l i j)
    step l i j low high s =
        let one = moved l i j s.one d low high s.one_low in
        let other = moved l i j s.other d low high s.other_low in
        record {
          one = one.0;
          other = other.0;
          apart = moved-apart i j s.one s.other one.0 other.0 s.apart one.1 other.1;
          one_low = one.2;
          other_low = other.2;
          one_is = one.3 ∙ s.one_is;
          other_is = other.3 ∙ s.other_is;
        }

-- ---- parts that follow one another

pub in-at : (maps : List HeldMap) (i : ℕ) (held : HeldMap) (off : ℕ) (blob : Blob) → slice_get maps i ≡ Some held → get held off ≡ Some blob → IsInPart maps off blob
in-at [] i held off blob at found = absurd (cc)
in-at (map ∷ maps) zero held off blob at found = let same : map ≡ held = cc in inl (ap (λ (m : HeldMap). get m off) same ∙ found)
in-at (map ∷ maps) (suc i) held off blob at found = inr (in-at maps i held off blob at found)

pub follow-apart : (from : ℕ) (maps : List HeldMap) (i j : ℕ) (first second : HeldMap) (at next : ℕ) (blob other : Blob) → FollowFrom from maps → slice_get maps i ≡ Some first → slice_get maps j ≡ Some second
    → i < j → get first at ≡ Some blob → get second next ≡ Some other → blob.fin ≤ next
follow-apart from [] i j first second at next blob other follow one two low found also = absurd (cc)
follow-apart from (map ∷ maps) zero zero first second at next blob other follow one two low found also = absurd (omega arith)
follow-apart from (map ∷ maps) (suc i) zero first second at next blob other follow one two low found also = absurd (omega arith)
follow-apart from (map ∷ maps) zero (suc j) first second at next blob other (to, le, lies, rest) one two low found also =
    let same : map ≡ first = cc in
    let here : get map at ≡ Some blob = ap (λ (m : HeldMap). get m at) same ∙ found in
    let h1 : blob.fin ≤ to = (lies at blob here).2 in
    let h2 : to ≤ next = (in_part-lies to maps next other rest (in-at maps j second next other two also)).0 in omega arith
follow-apart from (map ∷ maps) (suc i) (suc j) first second at next blob other (to, le, lies, rest) one two low found also =
    follow-apart to maps i j first second at next blob other rest one two (omega arith) found also

pub none-follows : NoneFollows
none-follows parts ordered from off permutation follow mixed =
    let d = mixed.part in
    let stand : Stand mixed.part mixed.spanning d parts = record {
      one = mixed.one;
      other = mixed.other;
      apart = mixed.apart;
      one_low = slice_get_within parts mixed.one mixed.part mixed.part_at;
      other_low = slice_get_within parts mixed.other mixed.spanning mixed.spanning_at;
      one_is = get_or_from_slice_get parts mixed.one mixed.part d mixed.part_at;
      other_is = get_or_from_slice_get parts mixed.other mixed.spanning d mixed.spanning_at;
    } in
    let s = still-stand mixed.part mixed.spanning d parts ordered permutation stand in
    let one : slice_get ordered s.one ≡ Some mixed.part = slice_get-get_or ordered s.one d s.one_low ∙ ap (λ (m : HeldMap). Some m) s.one_is in
    let two : slice_get ordered s.other ≡ Some mixed.spanning = slice_get-get_or ordered s.other d s.other_low ∙ ap (λ (m : HeldMap). Some m) s.other_is in
    let begins = mixed.begins in
    let before = mixed.spans.before in
    let behind = mixed.spans.behind in
    let filled : off < begins.0.fin = (in_part-lies from ordered off begins.0 follow (in-at ordered s.one mixed.part off begins.0 one begins.1)).1 in
    let le : before.0 ≤ off = before.3 in
    let lt : off < behind.1.fin = behind.3 in
    let apart = s.apart in
    elim (leb_tells s.one s.other) [
      | inl (_, below) ↦ (let h : begins.0.fin ≤ before.0 = follow-apart from ordered s.one s.other mixed.part mixed.spanning off before.0 begins.0 before.1 follow one two (omega arith) begins.1 before.2 in omega arith)
      | inr (_, above) ↦ (let h : behind.1.fin ≤ off = follow-apart from ordered s.other s.one mixed.spanning mixed.part behind.0 off behind.1 begins.0 follow two one above behind.2 begins.1 in omega arith)
    ]
