-- The pairs of one dense node after the other.
use Rattle.std.specs.Prelude.{ℕ, zero, suc, List, [], ◌∷◌, ℤ, pos}
use Rattle.std.specs.List.{flat_map}
use Rattle.osm_block.specs.DenseTags.{Pair}

-- the pairs in front of the first 0, and what comes behind it
abbrev pub front_pairs : List ℤ → List Pair × List ℤ
front_pairs [] = ([], [])
front_pairs (pos zero ∷ kv) = ([], kv)
front_pairs (k ∷ []) = ([], [])
front_pairs (k ∷ v ∷ kv) = ((k, v) ∷ (front_pairs kv).0, (front_pairs kv).1)

-- the pairs of n nodes
abbrev pub node_pairs : ℕ → List ℤ → List (List Pair)
node_pairs zero kv = []
node_pairs (suc n) kv = (front_pairs kv).0 ∷ node_pairs n (front_pairs kv).1

abbrev pub pair_indexes : List Pair → List ℤ
pair_indexes ps = flat_map (λ p. p.0 ∷ p.1 ∷ []) ps
