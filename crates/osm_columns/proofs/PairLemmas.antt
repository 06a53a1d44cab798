-- A walk over the pairs of dense nodes.
use Rattle.std.proofs.Common.{◌≡◌, ◌≢◌, ℕ, suc, zero, ◌+◌, ◌-◌, ◌<◌, ◌≤◌, List, [], ◌∷◌, ◌++◌, length, map, take, drop, get_or, refl, sym, ap, ◌∙◌, append_assoc, append-nil, true, ℤ, pos, arith}
use Rattle.std.specs.List.{list_all}
use Rattle.std.proofs.lemmas.Grind.{flat_map-append}
use Rattle.std.proofs.lemmas.List.{map-append}
use Rattle.std.proofs.lemmas.List.Folds.{list_all-append}
use Rattle.std.proofs.lemmas.List.{length-append, length-take-le, take_at, get_or_at}
use Rattle.osm_block.specs.DenseTags.{Pair, indexes_of}
use Rattle.osm_block.specs.NodeTags.{front_pairs, node_pairs, pair_indexes}
use Rattle.osm_block.specs.Phases.{is_index}
use Rattle.osm_block.proofs.IndexesLemmas.{and_left, and_right}
use Rattle.osm_columns.specs.Lists.{joined}
use Rattle.osm_columns.specs.Indexes.{index_in}
use Rattle.osm_columns.proofs.ListLemmas.{joined-more}
use Rattle.osm_block.proofs.NodeTagsLemmas.{front_at_pair}

pub length-node-pairs : (n : ℕ) (kv : List ℤ) → length (node_pairs n kv) ≡ n
length-node-pairs zero kv = refl
length-node-pairs (suc n) kv = ap suc (length-node-pairs n (front_pairs kv).1)

-- the walk at one node, and behind it
pub record NodeStep (n i : ℕ) (kv left : List ℤ) : Type 0 where
  pub taken : take (i + 1) (node_pairs n kv) ≡ take i (node_pairs n kv) ++ (front_pairs left).0 ∷ []
  pub pairs : take (i + 1) (node_pairs n kv) ++ node_pairs (n - (i + 1)) (front_pairs left).1 ≡ node_pairs n kv
  pub within : i < length (node_pairs n kv)
  pub here : (front_pairs left).0 ≡ get_or (node_pairs n kv) i []

pub node-step : (n i : ℕ) (kv left : List ℤ) → i < n → take i (node_pairs n kv) ++ node_pairs (n - i) left ≡ node_pairs n kv → NodeStep n i kv left
node-step n i kv left lt h =
    let all : List (List Pair) = node_pairs n kv in
    let x : List Pair = (front_pairs left).0 in
    let rest : List (List Pair) = node_pairs (n - (i + 1)) (front_pairs left).1 in
    let more : n - i ≡ suc (n - (i + 1)) = omega arith in
    let split : take i all ++ x ∷ rest ≡ all = sym (ap (λ k. take i all ++ node_pairs k left) more) ∙ h in
    let whole : length all ≡ n = length-node-pairs n kv in
    let front : length (take i all) ≡ i = length-take-le i all (omega arith) in
    let one : length (take i all ++ x ∷ []) ≡ length (take i all) + 1 = length-append (take i all) (x ∷ []) in
    let first : length (take i all ++ x ∷ []) ≡ i + 1 = omega arith in
    let parts : (take i all ++ x ∷ []) ++ rest ≡ all = append_assoc (take i all) (x ∷ []) rest ∙ split in
    let taken : take (i + 1) all ≡ take i all ++ x ∷ [] = sym (ap (take (i + 1)) parts) ∙ take_at (take i all ++ x ∷ []) rest (i + 1) first in
    record {
      taken = taken;
      pairs = ap (λ l. l ++ rest) taken ∙ parts;
      within = omega arith;
      here = sym (sym (ap (λ l. get_or l i []) split) ∙ get_or_at (take i all) x rest [] i front);
    }

-- one pair of a node more
pub record PairStep (kv : List ℤ) (i : ℕ) : Type 0 where
  pub count : length (front_pairs (drop i kv)).0 ≡ 1 + length (front_pairs (drop (i + 2) kv)).0
  pub rest : (front_pairs (drop i kv)).1 ≡ (front_pairs (drop (i + 2) kv)).1

pub pair-step : (kv : List ℤ) (i : ℕ) → i + 1 < length kv → get_or kv i (pos 0) ≢ pos 0 → PairStep kv i
pair-step kv i lt differs =
    let front = front_at_pair kv i lt differs in
    let counted : length (front_pairs (drop i kv)).0 ≡ suc (length (front_pairs (drop (i + 2) kv)).0) = ap (λ f. length f.0) front in
    record {
      count = omega arith;
      rest = ap (λ f. f.1) front;
    }

-- what is known at an index in the pairs of a node that begin at another, where the table's indexes of those before it are pushed
pub record PairsPushed (table kv : List ℤ) (at i : ℕ) (old_keys old_values keys values : List ℤ) : Type 0 where
  pub within : i ≤ length kv
  pub in_table : list_all (is_index (length table)) (pair_indexes (front_pairs (drop i kv)).0) ≡ true
  pub keys_are : keys ++ map (λ p. index_in table p.0) (front_pairs (drop i kv)).0 ≡ old_keys ++ map (λ p. index_in table p.0) (front_pairs (drop at kv)).0
  pub values_are : values ++ map (λ p. index_in table p.1) (front_pairs (drop i kv)).0 ≡ old_values ++ map (λ p. index_in table p.1) (front_pairs (drop at kv)).0
  pub rest : (front_pairs (drop i kv)).1 ≡ (front_pairs (drop at kv)).1

-- the indexes of the next pair are in the table, and those behind it
pub record NextInTable (table kv : List ℤ) (i : ℕ) : Type 0 where
  pub key : is_index (length table) (get_or kv i (pos 0)) ≡ true
  pub value : is_index (length table) (get_or kv (i + 1) (pos 0)) ≡ true
  pub later : list_all (is_index (length table)) (pair_indexes (front_pairs (drop (i + 2) kv)).0) ≡ true

pub next-pair : (table kv : List ℤ) (i : ℕ) → list_all (is_index (length table)) (pair_indexes (front_pairs (drop i kv)).0) ≡ true → i + 1 < length kv → get_or kv i (pos 0) ≢ pos 0 → NextInTable table kv i
next-pair table kv i h lt differs =
    let all = sym (ap (λ x. list_all (is_index (length table)) (pair_indexes x.0)) (front_at_pair kv i lt differs)) ∙ h in
    let behind = and_right (is_index (length table) (get_or kv i (pos 0))) _ all in
    record {
      key = and_left (is_index (length table) (get_or kv i (pos 0))) _ all;
      value = and_left (is_index (length table) (get_or kv (i + 1) (pos 0))) _ behind;
      later = and_right (is_index (length table) (get_or kv (i + 1) (pos 0))) _ behind;
    }

pushed-more : (f : Pair → ℤ) (old xs more : List ℤ) (p : Pair) (ps all : List Pair) (y : ℤ) → xs ++ map f (p ∷ ps) ≡ old ++ map f all → more ≡ xs ++ y ∷ [] → y ≡ f p → more ++ map f ps ≡ old ++ map f all
pushed-more f old xs more p ps all y h pushed is =
    ap (λ l. l ++ map f ps) (pushed ∙ ap (λ z. xs ++ z ∷ []) is) ∙ append_assoc xs (f p ∷ []) (map f ps) ∙ h

pub pair-pushed : (table kv : List ℤ) (at i : ℕ) (old_keys old_values keys values more_keys more_values : List ℤ) (key value : ℤ) → PairsPushed table kv at i old_keys old_values keys values →
    i + 1 < length kv → get_or kv i (pos 0) ≢ pos 0 → more_keys ≡ keys ++ key ∷ [] → key ≡ index_in table (get_or kv i (pos 0)) →
    more_values ≡ values ++ value ∷ [] → value ≡ index_in table (get_or kv (i + 1) (pos 0)) → PairsPushed table kv at (i + 2) old_keys old_values more_keys more_values
pair-pushed table kv at i old_keys old_values keys values more_keys more_values key value p lt differs key_pushed key_is value_pushed value_is =
    let front = front_at_pair kv i lt differs in
    let n : NextInTable table kv i = next-pair table kv i p.in_table lt differs in
    record {
      within = omega arith;
      in_table = n.later;
      keys_are = pushed-more (λ q. index_in table q.0) old_keys keys more_keys (get_or kv i (pos 0), get_or kv (i + 1) (pos 0)) (front_pairs (drop (i + 2) kv)).0 (front_pairs (drop at kv)).0 key
          (sym (ap (λ x. keys ++ map (λ q. index_in table q.0) x.0) front) ∙ p.keys_are) key_pushed key_is;
      values_are = pushed-more (λ q. index_in table q.1) old_values values more_values (get_or kv i (pos 0), get_or kv (i + 1) (pos 0)) (front_pairs (drop (i + 2) kv)).0 (front_pairs (drop at kv)).0 value
          (sym (ap (λ x. values ++ map (λ q. index_in table q.1) x.0) front) ∙ p.values_are) value_pushed value_is;
      rest = sym (ap (λ x. x.1) front) ∙ p.rest;
    }

-- at the end of the pairs
pub record AllPushed (table kv : List ℤ) (at : ℕ) (old_keys old_values keys values left : List ℤ) : Type 0 where
  pub keys_are : keys ≡ old_keys ++ map (λ p. index_in table p.0) (front_pairs (drop at kv)).0
  pub values_are : values ≡ old_values ++ map (λ p. index_in table p.1) (front_pairs (drop at kv)).0
  pub rest : left ≡ (front_pairs (drop at kv)).1

pub all-pushed : (table kv : List ℤ) (at i : ℕ) (old_keys old_values keys values left : List ℤ) → PairsPushed table kv at i old_keys old_values keys values → front_pairs (drop i kv) ≡ ([], left) → AllPushed table kv at old_keys old_values keys values left
all-pushed table kv at i old_keys old_values keys values left p e = record {
  keys_are = sym (append-nil keys) ∙ sym (ap (λ x. keys ++ map (λ q. index_in table q.0) x.0) e) ∙ p.keys_are;
  values_are = sym (append-nil values) ∙ sym (ap (λ x. values ++ map (λ q. index_in table q.1) x.0) e) ∙ p.values_are;
  rest = sym (ap (λ x. x.1) e) ∙ p.rest;
}

indexes-in-parts : (ts us : List (List Pair)) → indexes_of (ts ++ us) ≡ indexes_of ts ++ indexes_of us
indexes-in-parts ts us = flat_map-append pair_indexes ts us

-- the indexes of a node are in the table where those of all nodes are
pub here-in-table : (texts n i : ℕ) (kv left : List ℤ) → NodeStep n i kv left → list_all (is_index texts) (indexes_of (node_pairs n kv)) ≡ true → list_all (is_index texts) (pair_indexes (front_pairs left).0) ≡ true
here-in-table texts n i kv left s h =
    let x : List Pair = (front_pairs left).0 in
    let before : List (List Pair) = take i (node_pairs n kv) in
    let rest : List (List Pair) = node_pairs (n - (i + 1)) (front_pairs left).1 in
    let parts : node_pairs n kv ≡ before ++ (x ∷ rest) = sym s.pairs ∙ ap (λ l. l ++ rest) s.taken ∙ append_assoc before (x ∷ []) rest in
    let split = sym (list_all-append (is_index texts) (indexes_of before) (indexes_of (x ∷ rest))) ∙ ap (list_all (is_index texts)) (sym (indexes-in-parts before (x ∷ rest)) ∙ ap indexes_of (sym parts)) ∙ h in
    let behind = and_right (list_all (is_index texts) (indexes_of before)) _ split in
    and_left (list_all (is_index texts) (pair_indexes x)) _ (sym (list_all-append (is_index texts) (pair_indexes x) (indexes_of rest)) ∙ behind)

-- what is pushed of the nodes so far, with the next one
pub node-pushed : (f : Pair → ℤ) (n i : ℕ) (kv left old xs more : List ℤ) → NodeStep n i kv left → xs ≡ old ++ map f (joined (take i (node_pairs n kv))) → more ≡ xs ++ map f (front_pairs left).0 →
    more ≡ old ++ map f (joined (take (i + 1) (node_pairs n kv)))
node-pushed f n i kv left old xs more s h pushed =
    let before : List (List Pair) = take i (node_pairs n kv) in
    let x : List Pair = (front_pairs left).0 in
    pushed ∙ ap (λ l. l ++ map f x) h ∙ append_assoc old (map f (joined before)) (map f x)
    ∙ ap (λ l. old ++ l) (sym (map-append f (joined before) x) ∙ ap (map f) (sym (joined-more before x) ∙ ap joined (sym s.taken)))
