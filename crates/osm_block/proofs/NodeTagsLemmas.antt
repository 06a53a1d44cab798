-- The pairs of one dense node after the other, as they are read, and as the array is tested.
use Rattle.std.proofs.Common.{◌≡◌, ◌≢◌, ℕ, zero, suc, ◌+◌, ◌-◌, ◌<◌, ◌≤◌, List, [], ◌∷◌, ◌++◌, map, length, drop, get_or, Bool, true, false, not, refl, sym, ap, ◌∙◌, subst, ℤ, pos, negsuc, arith, Option, Some, None, inl, inr, append_assoc}
use Rattle.std.specs.Prelude.{option_map, is_none, unwrap_or}
use Rattle.std.specs.List.{AllByRecursion, flat_map, list_all}
use Rattle.std.proofs.lemmas.List.{drop_more, drop_all, length-drop, length-map, map-append}
use Rattle.std.proofs.lemmas.List.Folds.{list_all-append}
use Rattle.std.proofs.lemmas.Int.{ints}
use Rattle.std.proofs.lemmas.Option.{slice_get-map, slice_get-get_or}
use Rattle.std.proofs.lemmas.Bool.{ltb-true}
use Rattle.osm_value.specs.Value.{Text}
use Rattle.osm_block.specs.declared.fault.BlockFault.TheVariants as faults
use Rattle.osm_block.specs.DenseTags.{Pair, Tags, KeysAreNotZero, pairs_and_zero, pairs_of, indexes_of, with_pair}
use Rattle.osm_block.specs.NodeTags.{front_pairs, node_pairs, pair_indexes}
use Rattle.osm_block.specs.Block.{text_at, texts_at, all_there}
use Rattle.osm_block.specs.Phases.{first, when, tags_phases, is_index}
use Rattle.osm_block.proofs.IndexesLemmas.{and_left, and_right}

-- ---- the front of an array

at_pair : (k v : ℤ) (kv : List ℤ) → k ≢ pos 0 → front_pairs (k ∷ v ∷ kv) ≡ ((k, v) ∷ (front_pairs kv).0, (front_pairs kv).1)
at_pair (pos zero) v kv differs = absurd (differs refl)
at_pair (pos (suc k)) v kv differs = refl
at_pair (negsuc k) v kv differs = refl

short : (kv : List ℤ) → length kv < 2 → front_pairs kv ≡ ([], [])
short [] h = refl
short (pos zero ∷ []) h = refl
short (pos (suc k) ∷ []) h = refl
short (negsuc k ∷ []) h = refl
short (k ∷ v ∷ kv) h = absurd (omega arith)

pub front_at_zero : (kv : List ℤ) (i : ℕ) → i < length kv → get_or kv i (pos 0) ≡ pos 0 → front_pairs (drop i kv) ≡ ([], drop (i + 1) kv)
front_at_zero kv i h is = ap front_pairs (drop_more kv i (pos 0) h ∙ ap (λ k. k ∷ drop (i + 1) kv) is)

pub front_at_pair : (kv : List ℤ) (i : ℕ) → i + 1 < length kv → get_or kv i (pos 0) ≢ pos 0 →
    front_pairs (drop i kv) ≡ ((get_or kv i (pos 0), get_or kv (i + 1) (pos 0)) ∷ (front_pairs (drop (i + 2) kv)).0, (front_pairs (drop (i + 2) kv)).1)
front_at_pair kv i h differs =
    let here : i < length kv = omega arith in
    let two : drop (i + 1 + 1) kv ≡ drop (i + 2) kv = ap (λ m. drop m kv) (omega arith) in
    ap front_pairs (drop_more kv i (pos 0) here ∙ ap (λ l. get_or kv i (pos 0) ∷ l) (drop_more kv (i + 1) (pos 0) h) ∙ ap (λ l. get_or kv i (pos 0) ∷ get_or kv (i + 1) (pos 0) ∷ l) two)
    ∙ at_pair _ _ _ differs

pub front_at_end : (kv : List ℤ) (i : ℕ) → length kv - i < 2 → front_pairs (drop i kv) ≡ ([], [])
front_at_end kv i h = short (drop i kv) (omega (arith, length-drop i kv))

-- ---- the loop over the pairs of a node

-- the text of an index in the table
pub text_of_index : {B : Type 0} (now : B → Text) (table : List B) (z : ℤ) (i : ℕ) (d : B) → pos i ≡ z → i < length table → text_at (map now table) z ≡ Some (now (get_or table i d))
text_of_index now table z i d is h = ap (text_at (map now table)) (sym is) ∙ slice_get-map now table i ∙ ap (option_map now) (slice_get-get_or table i d h)

-- what is known at an index in the pairs of a node that begin at another
pub record PairsLeft (table : List Text) (kv : List ℤ) (at i : ℕ) (tags : List (Text × Text)) : Type 0 where
  pub within : i ≤ length kv
  pub in_table : list_all (is_index (length table)) (pair_indexes (front_pairs (drop i kv)).0) ≡ true
  pub texts : all_there tags ++ texts_at table (front_pairs (drop i kv)).0 ≡ texts_at table (front_pairs (drop at kv)).0
  pub rest : (front_pairs (drop i kv)).1 ≡ (front_pairs (drop at kv)).1

-- the indexes of the next pair are in the table
pub next_in_table : (table : List Text) (kv : List ℤ) (at i : ℕ) (tags : List (Text × Text)) → PairsLeft table kv at i tags → i + 1 < length kv → get_or kv i (pos 0) ≢ pos 0 →
    (is_index (length table) (get_or kv i (pos 0)) ≡ true) × (is_index (length table) (get_or kv (i + 1) (pos 0)) ≡ true)
next_in_table table kv at i tags p h differs =
    let all = sym (ap (λ x. list_all (is_index (length table)) (pair_indexes x.0)) (front_at_pair kv i h differs)) ∙ p.in_table in
    let k = and_left (is_index (length table) (get_or kv i (pos 0))) _ all in
    let rest = and_right (is_index (length table) (get_or kv i (pos 0))) _ all in
    (k, and_left (is_index (length table) (get_or kv (i + 1) (pos 0))) _ rest)

pub pair_more : (table : List Text) (kv : List ℤ) (at i : ℕ) (tags more : List (Text × Text)) (key value : Text) → PairsLeft table kv at i tags → i + 1 < length kv → get_or kv i (pos 0) ≢ pos 0 →
    more ≡ tags ++ (key, value) ∷ [] → text_at table (get_or kv i (pos 0)) ≡ Some key → text_at table (get_or kv (i + 1) (pos 0)) ≡ Some value → PairsLeft table kv at (i + 2) more
pair_more table kv at i tags more key value p h differs pushed is_key is_value =
    let front = front_at_pair kv i h differs in
    let all = sym (ap (λ x. list_all (is_index (length table)) (pair_indexes x.0)) front) ∙ p.in_table in
    let later = and_right (is_index (length table) (get_or kv i (pos 0))) _ all in
    record {
      within = omega arith;
      in_table = and_right (is_index (length table) (get_or kv (i + 1) (pos 0))) _ later;
      texts = ap (λ l. all_there l ++ texts_at table (front_pairs (drop (i + 2) kv)).0) pushed
          ∙ ap (λ l. l ++ texts_at table (front_pairs (drop (i + 2) kv)).0) (map-append (λ t. (Some t.0, Some t.1)) tags ((key, value) ∷ []))
          ∙ append_assoc (all_there tags) ((Some key, Some value) ∷ []) (texts_at table (front_pairs (drop (i + 2) kv)).0)
          ∙ ap (λ x. all_there tags ++ (x, Some value) ∷ texts_at table (front_pairs (drop (i + 2) kv)).0) (sym is_key)
          ∙ ap (λ x. all_there tags ++ (text_at table (get_or kv i (pos 0)), x) ∷ texts_at table (front_pairs (drop (i + 2) kv)).0) (sym is_value)
          ∙ sym (ap (λ x. all_there tags ++ texts_at table x.0) front)
          ∙ p.texts;
      rest = sym (ap (λ x. x.1) front) ∙ p.rest;
    }

append-none : {A : Type 0} (xs : List A) → xs ++ [] ≡ xs
append-none [] = refl
append-none (x ∷ xs) = ap (λ l. x ∷ l) (append-none xs)

-- at the end of the pairs
pub pairs_end : (table : List Text) (kv : List ℤ) (at i : ℕ) (tags : List (Text × Text)) (left : List ℤ) → PairsLeft table kv at i tags → front_pairs (drop i kv) ≡ ([], left) →
    (all_there tags ≡ texts_at table (front_pairs (drop at kv)).0) × (left ≡ (front_pairs (drop at kv)).1)
pairs_end table kv at i tags left p e = (
  sym (append-none (all_there tags)) ∙ sym (ap (λ x. all_there tags ++ texts_at table x.0) e) ∙ p.texts,
  sym (ap (λ x. x.1) e) ∙ p.rest,
)

pub nothing_behind : (kv : List ℤ) → drop (length kv) kv ≡ []
nothing_behind kv = drop_all (length kv) kv (omega arith)

-- ---- what the tests of the array say of the pairs that are read

some_one : {A : Type 0} (x y : A) → Some x ≡ Some y → x ≡ y
some_one x y e = cc

mapped : {A B : Type 0} (f : A → B) (o : Option A) (y : B) → option_map f o ≡ Some y → (x : A) × (o ≡ Some x) × (f x ≡ y)
mapped f None y e = absurd cc
mapped f (Some x) y e = (x, refl, some_one (f x) y e)

pub record ArePairs (n : ℕ) (kv : List ℤ) (ts : List (List Pair)) : Type 0 where
  pub read : node_pairs n kv ≡ ts
  pub spelled : kv ≡ flat_map pairs_and_zero ts
  pub keys : AllByRecursion KeysAreNotZero ts

pair_on : (n : ℕ) (k v : ℤ) (kv : List ℤ) (x ts : List (List Pair)) → k ≢ pos 0 → ArePairs (suc n) kv x → with_pair (k, v) x ≡ ts → ArePairs (suc n) (k ∷ v ∷ kv) ts
pair_on n k v kv [] ts differs h e = let none : (front_pairs kv).0 ∷ node_pairs n (front_pairs kv).1 ≡ [] = h.read in absurd cc
pair_on n k v kv (ps ∷ us) ts differs h e =
    let all : (front_pairs kv).0 ∷ node_pairs n (front_pairs kv).1 ≡ ps ∷ us = h.read in
    let front : (front_pairs kv).0 ≡ ps = cc in
    let rest : node_pairs n (front_pairs kv).1 ≡ us = cc in
    let made : ArePairs (suc n) (k ∷ v ∷ kv) (((k, v) ∷ ps) ∷ us) = record {
      read = ap (λ x. x.0 ∷ node_pairs n x.1) (at_pair k v kv differs) ∙ ap (λ l. ((k, v) ∷ l) ∷ node_pairs n (front_pairs kv).1) front ∙ ap (λ l. ((k, v) ∷ ps) ∷ l) rest;
      spelled = ap (λ l. k ∷ v ∷ l) h.spelled;
      keys = ((differs, h.keys.0), h.keys.1);
    } in
    subst (ArePairs (suc n) (k ∷ v ∷ kv)) e made

pub are_pairs : (n : ℕ) (kv : List ℤ) (ts : List (List Pair)) → pairs_of n kv ≡ Some ts → ArePairs n kv ts
are_pairs zero [] ts e = subst (ArePairs zero []) (some_one [] ts e) (record { read = refl; spelled = refl; keys = tt })
are_pairs zero (k ∷ kv) ts e = absurd cc
are_pairs (suc n) [] ts e = absurd cc
are_pairs (suc n) (pos zero ∷ kv) ts e =
    let m = mapped (λ us. [] ∷ us) (pairs_of n kv) ts e in
    let h = are_pairs n kv m.0 m.1 in
    let made : ArePairs (suc n) (pos zero ∷ kv) ([] ∷ m.0) = record { read = ap (λ l. [] ∷ l) h.read; spelled = ap (λ l. pos 0 ∷ l) h.spelled; keys = (tt, h.keys) } in
    subst (ArePairs (suc n) (pos zero ∷ kv)) m.2 made
are_pairs (suc n) (pos (suc k) ∷ []) ts e = absurd cc
are_pairs (suc n) (negsuc k ∷ []) ts e = absurd cc
are_pairs (suc n) (pos (suc k) ∷ v ∷ kv) ts e =
    let m = mapped (with_pair (pos (suc k), v)) (pairs_of (suc n) kv) ts e in
    pair_on n (pos (suc k)) v kv m.0 ts (λ z. absurd (omega (arith, ints, z))) (are_pairs (suc n) kv m.0 m.1) m.2
are_pairs (suc n) (negsuc k ∷ v ∷ kv) ts e =
    let m = mapped (with_pair (negsuc k, v)) (pairs_of (suc n) kv) ts e in
    pair_on n (negsuc k) v kv m.0 ts (λ z. absurd (omega (arith, ints, z))) (are_pairs (suc n) kv m.0 m.1) m.2

all_empty : (n : ℕ) → AllByRecursion (λ (ps : List Pair). ps ≡ []) (node_pairs n [])
all_empty zero = tt
all_empty (suc n) = (refl, all_empty n)

no_indexes : (n : ℕ) → indexes_of (node_pairs n []) ≡ []
no_indexes zero = refl
no_indexes (suc n) = no_indexes n

-- the array is of its form, and its indexes are in the table
pub record TagsFit (n texts : ℕ) (kv : List ℤ) : Type 0 where
  pub are_tags : Tags (node_pairs n kv) kv
  pub in_table : list_all (is_index texts) (indexes_of (node_pairs n kv)) ≡ true

test_of : (b : Bool) → first (when (not b) faults.BadIndex ∷ []) ≡ None → b ≡ true
test_of true e = refl
test_of false e = absurd cc

fit_by : (n texts : ℕ) (k : ℤ) (kv : List ℤ) (o : Option (List (List Pair))) → pairs_of n (k ∷ kv) ≡ o →
    first (when (is_none o) faults.TagsUneven ∷ when (not (list_all (is_index texts) (indexes_of (unwrap_or o [])))) faults.BadIndex ∷ []) ≡ None → TagsFit n texts (k ∷ kv)
fit_by n texts k kv None e h = absurd cc
fit_by n texts k kv (Some ts) e h =
    let p = are_pairs n (k ∷ kv) ts e in
    record {
      are_tags = inl (p.spelled ∙ ap (flat_map pairs_and_zero) (sym p.read), subst (AllByRecursion KeysAreNotZero) (sym p.read) p.keys);
      in_table = ap (λ l. list_all (is_index texts) (indexes_of l)) p.read ∙ test_of _ h;
    }

pub tags_fit : (n texts : ℕ) (kv : List ℤ) → first (tags_phases n texts kv) ≡ None → TagsFit n texts kv
tags_fit n texts [] h = record { are_tags = inr (refl, all_empty n); in_table = ap (list_all (is_index texts)) (no_indexes n) }
tags_fit n texts (k ∷ kv) h = fit_by n texts k kv (pairs_of n (k ∷ kv)) refl h

-- the indexes of one node, and of the others
pub indexes_in_two : (texts : ℕ) (ps : List Pair) (ts : List (List Pair)) → list_all (is_index texts) (indexes_of (ps ∷ ts)) ≡ true →
    (list_all (is_index texts) (pair_indexes ps) ≡ true) × (list_all (is_index texts) (indexes_of ts) ≡ true)
indexes_in_two texts ps ts h =
    let split = sym (list_all-append (is_index texts) (pair_indexes ps) (indexes_of ts)) ∙ h in
    (and_left _ _ split, and_right _ _ split)

-- an index in the table, as a number
pub index_is : (n : ℕ) (z : ℤ) → is_index n z ≡ true → (i : ℕ) × (pos i ≡ z) × (i < n)
index_is n (pos i) h = (i, refl, ltb-true i n h)
index_is n (negsuc i) h = absurd cc

-- a table of references is as long as its texts
pub along_length : {B : Type 0} (now : B → Text) (table : List B) (z : ℤ) → is_index (length (map now table)) z ≡ true → is_index (length table) z ≡ true
along_length now table z h = sym (ap (λ n. is_index n z) (length-map table now)) ∙ h
