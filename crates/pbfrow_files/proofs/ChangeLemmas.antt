-- A file after a change: its length, and each of its bytes.
use Rattle.std.proofs.Common.{◌≡◌, ◌⊎◌, ℕ, ◌+◌, ◌-◌, ◌<◌, ◌≤◌, max, List, ◌++◌, length, slice_index, refl, sym, ap, ◌∙◌, inl, inr, cond, ◌&&◌, nat_le, nat_lt, arith, length-append, get_or-take}
use Rattle.std.specs.List.{fold}
use Rattle.std.proofs.lemmas.Bool.{cases_lt}
use Rattle.std.proofs.lemmas.Bool.Decides.{nat_tests}
use Rattle.std.proofs.lemmas.List.{get_or_append_left, get_or_past, get_or-append_right, get_or-replicate}
use Rattle.std.proofs.lemmas.List.Folds.{fold_along}
use Rattle.sqlite_disk.specs.Events.{overlaid, padded}
use Rattle.sqlite_disk.proofs.EventLemmas.{length-padded, Cut-padded, Holds-overlaid, Torn-overlaid}
use Rattle.pbfrow_files.specs.declared.overlay.Change.{Change}
use Rattle.pbfrow_files.specs.declared.overlay.Change.TheVariants.{Written, Resized}
use Rattle.pbfrow_files.specs.Change.{changed, len_after, byte_after}

length-overlaid : (file : List ℕ) (at : ℕ) (bytes : List ℕ) → length (overlaid file at bytes) ≡ max (length file) (at + length bytes)
length-overlaid file at bytes =
    let torn = Torn-overlaid file at bytes in
    omega (arith, (Holds-overlaid file at bytes).within, torn.no_shorter, torn.no_longer)

-- the length after a change
length-changed : (file : List ℕ) (len : ℕ) (change : Change) → length file ≡ len → length (changed file change) ≡ len_after len change
length-changed file len (Written at bytes) is = length-overlaid file at bytes.items ∙ ap (λ n. max n (at + length bytes.items)) is
length-changed file len (Resized to) is = length-padded file to

-- the length after every change
pub length-fold_changed : (file : List ℕ) (len : ℕ) (changes : List Change) → length file ≡ len → length (fold changed file changes) ≡ fold len_after len changes
length-fold_changed file len changes is = fold_along changed len_after (λ file len. length file ≡ len) (λ file len change is. length-changed file len change is) file len changes is

padded_past : (file : List ℕ) (len i : ℕ) → length file ≤ i → slice_index (padded file len) i ≡ 0
unfolding padded
padded_past file len i past =
    elim (cases_lt i len) [
      | inl low ↦
          get_or-take len _ i 0 low ∙ get_or-append_right file _ (length file) i 0 refl past
          ∙ get_or-replicate (len - length file) (i - length file) 0 0 (omega arith)
      | inr high ↦ get_or_past (padded file len) i 0 (omega (arith, length-padded file len))
    ]

-- a byte of a file that was written to, outside what was written
overlaid_outside : (file : List ℕ) (at : ℕ) (bytes : List ℕ) (i : ℕ) → (i < at) ⊎ (at + length bytes ≤ i) → slice_index (overlaid file at bytes) i ≡ slice_index file i
unfolding overlaid
overlaid_outside file at bytes i outside =
    elim (cases_lt i (length file)) [
      | inl within ↦ elim outside [
        | inl low ↦ (Torn-overlaid file at bytes).below i within low
        | inr high ↦ (Torn-overlaid file at bytes).above i within high
      ]
      | inr past ↦ elim outside [
        | inl low ↦
            let front = length-padded file at in
            get_or_append_left (padded file at ++ bytes) _ 0 i (omega (arith, front, length-append (padded file at) bytes))
            ∙ get_or_append_left (padded file at) bytes 0 i (omega (arith, front)) ∙ padded_past file at i past ∙ sym (get_or_past file i 0 past)
        | inr high ↦ get_or_past (overlaid file at bytes) i 0 (omega (arith, length-overlaid file at bytes)) ∙ sym (get_or_past file i 0 past)
      ]
    ]

overlaid_at : (file : List ℕ) (at : ℕ) (bytes : List ℕ) (i : ℕ)
    → slice_index (overlaid file at bytes) i ≡ cond (nat_le at i && nat_lt i (at + length bytes)) (slice_index bytes (i - at)) (slice_index file i)
overlaid_at file at bytes i =
    elim (cases_lt i at) [
      | inl low ↦ let e = overlaid_outside file at bytes i (inl low) in grind (arith, nat_tests)
      | inr from ↦ elim (cases_lt i (at + length bytes)) [
        | inl inside ↦
            let there : at + (i - at) ≡ i = omega arith in
            let e = rw there at ((Holds-overlaid file at bytes).each (i - at) (omega arith)) in
            grind (arith, nat_tests)
        | inr high ↦ let e = overlaid_outside file at bytes i (inr high) in grind (arith, nat_tests)
      ]
    ]

padded_at : (file : List ℕ) (len i : ℕ) → slice_index (padded file len) i ≡ cond (nat_lt i len) (slice_index file i) 0
padded_at file len i =
    elim (cases_lt i len) [
      | inl low ↦
          let e : slice_index (padded file len) i ≡ slice_index file i = elim (cases_lt i (length file)) [
            | inl within ↦ (Cut-padded file len).below i within low
            | inr past ↦ padded_past file len i past ∙ sym (get_or_past file i 0 past)
          ] in
          grind (arith, nat_tests)
      | inr high ↦ let e = get_or_past (padded file len) i 0 (omega (arith, length-padded file len)) in grind (arith, nat_tests)
    ]

-- a byte after a change
pub changed_at : (file : List ℕ) (change : Change) (i : ℕ) → slice_index (changed file change) i ≡ byte_after change i (slice_index file i)
changed_at file (Written at bytes) i = overlaid_at file at bytes.items i
changed_at file (Resized len) i = padded_at file len i
