-- What is read of an array of tags is the one list that stands to it, and its phase is uneven exactly where none does.
use Rattle.std.proofs.Common.{◌≡◌, ℕ, zero, suc, List, [], ◌∷◌, length, replicate, Bool, true, false, not, refl, sym, ap, ◌∙◌, ◌↔◌, subst, ℤ, Option, Some, None, inl, inr}
use Rattle.std.specs.Prelude.{is_none, unwrap_or}
use Rattle.std.specs.List.{AllByRecursion, list_all}
use Rattle.std.proofs.lemmas.List.{length-replicate}
use Rattle.osm_block.specs.declared.fault.BlockFault.TheVariants as faults
use Rattle.osm_block.specs.DenseTags.{Pair, Tags, pairs_of, pairs_for, indexes_of}
use Rattle.osm_block.specs.NodeTags.{front_pairs, node_pairs}
use Rattle.osm_block.specs.Phases.{Phase, first, when, is_index, tags_phases}
use Rattle.osm_block.proofs.NodeTagsLemmas.{are_pairs}
use Rattle.osm_block.proofs.Unique.{some_one, pairs_of-joined}
use Rattle.osm_block.proofs.UniqueDense.{Tags-unique}

-- a list of pairs for each of n nodes stands to the array
abbrev StandFor : ℕ → List ℤ → List (List Pair) → Type 0
StandFor n kv ts = (length ts ≡ n) × Tags ts kv

length-node_pairs : (n : ℕ) (kv : List ℤ) → length (node_pairs n kv) ≡ n
length-node_pairs zero kv = refl
length-node_pairs (suc n) kv = ap suc (length-node_pairs n (front_pairs kv).1)

all_empty : (n : ℕ) → AllByRecursion (λ (ps : List Pair). ps ≡ []) (replicate n [])
all_empty zero = tt
all_empty (suc n) = (refl, all_empty n)

none_stand : (n : ℕ) → StandFor n [] (replicate n [])
none_stand n = (length-replicate n [], inr (refl, all_empty n))

what_is_read_stands : (n : ℕ) (kv : List ℤ) (ts : List (List Pair)) → pairs_for n kv ≡ Some ts → StandFor n kv ts
what_is_read_stands n [] ts e = subst (StandFor n []) (some_one (replicate n []) ts e) (none_stand n)
what_is_read_stands n (k ∷ kv) ts e =
    let h = are_pairs n (k ∷ kv) ts e in
    (sym (ap length h.read) ∙ length-node_pairs n (k ∷ kv), inl (h.spelled, h.keys))

what_stands_is_read : (n : ℕ) (kv : List ℤ) (ts : List (List Pair)) → StandFor n kv ts → pairs_for n kv ≡ Some ts
what_stands_is_read n [] ts h =
    let empty = none_stand n in
    ap Some (Tags-unique (replicate n []) ts [] (empty.0 ∙ sym h.0) empty.1 h.1)
what_stands_is_read n (k ∷ kv) ts (len, inl h) =
    ap (λ m. pairs_of m (k ∷ kv)) (sym len) ∙ ap (pairs_of (length ts)) h.0 ∙ pairs_of-joined ts h.1
what_stands_is_read n (k ∷ kv) ts (len, inr h) = absurd cc

pub pairs_stand : (n : ℕ) (kv : List ℤ) (ts : List (List Pair)) → (pairs_for n kv ≡ Some ts) ↔ ((length ts ≡ n) × Tags ts kv)
pairs_stand n kv ts = (what_is_read_stands n kv ts, what_stands_is_read n kv ts)

-- the phase, where these are the pairs
abbrev judged : ℕ → Option (List (List Pair)) → Phase
judged texts o = first (when (is_none o) faults.TagsUneven ∷ when (not (list_all (is_index texts) (indexes_of (unwrap_or o [])))) faults.BadIndex ∷ [])

index_phase : (b : Bool) → first (when (not b) faults.BadIndex ∷ []) ≡ Some faults.TagsUneven → ⊥
index_phase true e = cc
index_phase false e = cc

uneven_by : (n texts : ℕ) (kv : List ℤ) (o : Option (List (List Pair))) → pairs_for n kv ≡ o →
    (judged texts o ≡ Some faults.TagsUneven) ↔ ((ts : List (List Pair)) → length ts ≡ n → Tags ts kv → ⊥)
uneven_by n texts kv None e = (
  (λ is ts len stand. let read : None ≡ Some ts = sym e ∙ what_stands_is_read n kv ts (len, stand) in cc),
  (λ no. refl),
)
uneven_by n texts kv (Some ts) e = (
  (λ is. absurd (index_phase (list_all (is_index texts) (indexes_of ts)) is)),
  (λ no. let h = what_is_read_stands n kv ts e in absurd (no ts h.0 h.1)),
)

pub uneven_stand : (n texts : ℕ) (kv : List ℤ) → (first (tags_phases n texts kv) ≡ Some faults.TagsUneven) ↔ ((ts : List (List Pair)) → length ts ≡ n → Tags ts kv → ⊥)
uneven_stand n texts kv = uneven_by n texts kv (pairs_for n kv) refl
