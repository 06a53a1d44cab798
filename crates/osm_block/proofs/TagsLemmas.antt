-- How the phases of an array of tags follow from those of what is left of it.
use Rattle.std.proofs.Common.{◌≡◌, ◌≢◌, ℕ, zero, suc, ◌+◌, ◌-◌, ◌<◌, List, [], ◌∷◌, replicate, Bool, true, false, not, ◌&&◌, refl, sym, ap, ◌∙◌, ℤ, pos, negsuc, arith, Option, Some, None, length, drop, get_or, ◌≤◌}
use Rattle.std.proofs.lemmas.List.{drop_more, drop_all}
use Rattle.std.proofs.lemmas.Int.{ints}
use Rattle.std.proofs.Common.{FitsSigned, of_z, w32}
use Rattle.std.specs.Prelude.{option_map, is_none, unwrap_or}
use Rattle.std.specs.List.{list_all}
use Rattle.osm_block.specs.declared.fault.BlockFault.TheVariants as faults
use Rattle.osm_block.specs.DenseTags.{Pair, pairs_of, indexes_of, with_pair}
use Rattle.osm_block.specs.Phases.{Phase, first, when, is_index, tags_phases}

-- the phase that stands, where these are the pairs of the nodes that are left, and b says that no index so far was bad
abbrev pub stands : Bool → ℕ → Option (List (List Pair)) → Phase
stands b texts ts = first (when (is_none ts) faults.TagsUneven ∷ when (not (b && list_all (is_index texts) (indexes_of (unwrap_or ts [])))) faults.BadIndex ∷ [])

zero_step : (b : Bool) (texts : ℕ) (ts : Option (List (List Pair))) → stands b texts (option_map (λ us. [] ∷ us) ts) ≡ stands b texts ts
zero_step b texts None = refl
zero_step b texts (Some us) = refl

regroup : (b k v r : Bool) → (b && (k && (v && r))) ≡ (((b && k) && v) && r)
regroup false k v r = refl
regroup true false v r = refl
regroup true true v r = refl

pair_step : (b : Bool) (texts : ℕ) (p : Pair) (ts : Option (List (List Pair))) → stands b texts (option_map (with_pair p) ts) ≡ stands (b && is_index texts p.0 && is_index texts p.1) texts ts
pair_step b texts p None = refl
pair_step b texts p (Some []) = ap (λ c. first (when (not c) faults.BadIndex ∷ [])) (regroup b (is_index texts p.0) (is_index texts p.1) true)
pair_step b texts p (Some (ps ∷ us)) = ap (λ c. first (when (not c) faults.BadIndex ∷ [])) (regroup b (is_index texts p.0) (is_index texts p.1) (list_all (is_index texts) (indexes_of (ps ∷ us))))

-- ---- an empty array

no_indexes : (n : ℕ) → indexes_of (replicate n []) ≡ []
no_indexes zero = refl
no_indexes (suc n) = no_indexes n

pub empty_fits : (n texts : ℕ) → first (tags_phases n texts []) ≡ None
empty_fits n texts = ap (λ l. first (when (not (list_all (is_index texts) l)) faults.BadIndex ∷ [])) (no_indexes n)

pub nothing_fits : (n texts : ℕ) (kv : List ℤ) → length kv ≡ 0 → first (tags_phases n texts kv) ≡ None
nothing_fits n texts [] none = empty_fits n texts
nothing_fits n texts (k ∷ kv) none = absurd (omega arith)

-- ---- the loop's steps

pub at_zero : (b : Bool) (texts n : ℕ) (k : ℤ) (kv : List ℤ) → 0 < n → k ≡ pos 0 → stands b texts (pairs_of n (k ∷ kv)) ≡ stands b texts (pairs_of (n - 1) kv)
at_zero b texts zero k kv some is = absurd (omega arith)
at_zero b texts (suc n) k kv some is = ap (λ j. stands b texts (pairs_of (suc n) (j ∷ kv))) is ∙ zero_step b texts (pairs_of n kv) ∙ ap (λ m. stands b texts (pairs_of m kv)) (omega arith)

pub at_pair : (b : Bool) (texts n : ℕ) (k v : ℤ) (kv : List ℤ) → 0 < n → k ≢ pos 0 → stands b texts (pairs_of n (k ∷ v ∷ kv)) ≡ stands (b && is_index texts k && is_index texts v) texts (pairs_of n kv)
at_pair b texts zero k v kv some differs = absurd (omega arith)
at_pair b texts (suc n) (pos zero) v kv some differs = absurd (differs refl)
at_pair b texts (suc n) (pos (suc k)) v kv some differs = pair_step b texts (pos (suc k), v) (pairs_of (suc n) kv)
at_pair b texts (suc n) (negsuc k) v kv some differs = pair_step b texts (negsuc k, v) (pairs_of (suc n) kv)

pub at_single : (b : Bool) (texts n : ℕ) (k : ℤ) → 0 < n → k ≢ pos 0 → stands b texts (pairs_of n (k ∷ [])) ≡ Some faults.TagsUneven
at_single b texts zero k some differs = absurd (omega arith)
at_single b texts (suc n) (pos zero) some differs = absurd (differs refl)
at_single b texts (suc n) (pos (suc k)) some differs = refl
at_single b texts (suc n) (negsuc k) some differs = refl

pub at_none_left : (b : Bool) (texts n : ℕ) (k : ℤ) (kv : List ℤ) → n ≡ 0 → stands b texts (pairs_of n (k ∷ kv)) ≡ Some faults.TagsUneven
at_none_left b texts n k kv is = ap (λ m. stands b texts (pairs_of m (k ∷ kv))) is

-- ---- the same at an index of the array, where the phase of the rest is that of the whole

pub none_left_stops : (whole : Phase) (b : Bool) (texts n i : ℕ) (kv : List ℤ) → i < length kv → stands b texts (pairs_of n (drop i kv)) ≡ whole → n ≡ 0 → whole ≡ Some faults.TagsUneven
none_left_stops whole b texts n i kv h e is =
    sym e ∙ ap (λ l. stands b texts (pairs_of n l)) (drop_more kv i (pos 0) h) ∙ at_none_left b texts n _ _ is

pub zero_goes_on : (whole : Phase) (b : Bool) (texts n i : ℕ) (kv : List ℤ) → i < length kv → stands b texts (pairs_of n (drop i kv)) ≡ whole → (n ≡ 0 → ⊥) → get_or kv i (pos 0) ≡ pos 0 →
    stands b texts (pairs_of (n - 1) (drop (i + 1) kv)) ≡ whole
zero_goes_on whole b texts n i kv h e some is =
    let left : 0 < n = omega arith in
    sym (at_zero b texts n _ _ left is) ∙ sym (ap (λ l. stands b texts (pairs_of n l)) (drop_more kv i (pos 0) h)) ∙ e

pub single_stops : (whole : Phase) (b : Bool) (texts n i : ℕ) (kv : List ℤ) → i < length kv → stands b texts (pairs_of n (drop i kv)) ≡ whole → (n ≡ 0 → ⊥) → get_or kv i (pos 0) ≢ pos 0 → length kv - i < 2 →
    whole ≡ Some faults.TagsUneven
single_stops whole b texts n i kv h e some differs short =
    let left : 0 < n = omega arith in
    let over : length kv ≤ i + 1 = omega arith in
    sym e ∙ ap (λ l. stands b texts (pairs_of n l)) (drop_more kv i (pos 0) h ∙ ap (λ l. get_or kv i (pos 0) ∷ l) (drop_all (i + 1) kv over)) ∙ at_single b texts n _ left differs

pub pair_goes_on : (whole : Phase) (b c : Bool) (texts n i : ℕ) (kv : List ℤ) → i < length kv → stands b texts (pairs_of n (drop i kv)) ≡ whole → (n ≡ 0 → ⊥) → get_or kv i (pos 0) ≢ pos 0 → 2 ≤ length kv - i →
    c ≡ (b && is_index texts (get_or kv i (pos 0)) && is_index texts (get_or kv (i + 1) (pos 0))) →
    stands c texts (pairs_of n (drop (i + 2) kv)) ≡ whole
pair_goes_on whole b c texts n i kv h e some differs long are =
    let left : 0 < n = omega arith in
    let h2 : i + 1 < length kv = omega arith in
    let two : drop (i + 1 + 1) kv ≡ drop (i + 2) kv = ap (λ m. drop m kv) (omega arith) in
    let cut : drop i kv ≡ get_or kv i (pos 0) ∷ get_or kv (i + 1) (pos 0) ∷ drop (i + 2) kv =
    drop_more kv i (pos 0) h ∙ ap (λ l. get_or kv i (pos 0) ∷ l) (drop_more kv (i + 1) (pos 0) h2) ∙ ap (λ l. get_or kv i (pos 0) ∷ get_or kv (i + 1) (pos 0) ∷ l) two in
    ap (λ d. stands d texts (pairs_of n (drop (i + 2) kv))) are ∙ sym (at_pair b texts n _ _ _ left differs) ∙ sym (ap (λ l. stands b texts (pairs_of n l)) cut) ∙ e

-- ---- tests of signed numbers by their bits

pub zero_from_bits : (z : ℤ) → FitsSigned w32 z → of_z w32 z ≡ 0 → z ≡ pos 0
zero_from_bits z fits bits = omega (arith, ints)

pub not_zero_from_bits : (z : ℤ) → (of_z w32 z ≡ 0 → ⊥) → z ≢ pos 0
not_zero_from_bits z bits e = bits (ap (of_z w32) e)
