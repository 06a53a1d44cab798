-- The entries of an index that begin with a key.
use Rattle.std.proofs.Common.{◌≡◌, Ordering, Less, Equal, Greater, is_lt, is_gt, is_eq, Bool, if◌then◌else◌, true, false, true≢false, List, [], ◌∷◌, filter, refl, sym, ap}
use Rattle.sqlite_value.specs.Order.{Row}
use Rattle.sqlite_value.specs.Keys.{plain, prefix_cmp}
use Rattle.sqlite_trees.specs.Tree.{from_key}
use Rattle.sqlite_trees.proofs.ListLemmas.{all_weaker, filter_none}
use Rattle.sqlite_trees.proofs.TreeLemmas.{AtMost, IsSortedTree, prefix_cmp_follows}
use Rattle.osm_tree_audits.specs.Finding.{starts}

pub from_starts : (key : Row) (es : List Row) → filter (starts key) (from_key plain key es) ≡ filter (starts key) es
from_starts key [] = refl
from_starts key (e ∷ es) = go (prefix_cmp plain e key) refl (from_starts key es)
  where
    go : (o : Ordering) → prefix_cmp plain e key ≡ o → filter (starts key) (from_key plain key es) ≡ filter (starts key) es → filter (starts key) (from_key plain key (e ∷ es)) ≡ filter (starts key) (e ∷ es)
    go Less t more = rw t more
    go Equal t more = ap (λ (b : Bool). filter (starts key) (if b then from_key plain key es else e ∷ es)) (ap is_lt t)
    go Greater t more = ap (λ (b : Bool). filter (starts key) (if b then from_key plain key es else e ∷ es)) (ap is_lt t)

not_tied : (o : Ordering) → is_gt o ≡ true → is_eq o ≡ false
not_tied Less h = refl
not_tied Equal h = absurd (true≢false (sym h))
not_tied Greater h = refl

pub none_above : (key e : Row) (es : List Row) → IsSortedTree plain (e ∷ es) → prefix_cmp plain e key ≡ Greater → filter (starts key) (e ∷ es) ≡ []
none_above key e es up t =
    let first = ap is_gt t in
    filter_none (starts key) (e ∷ es) (
      not_tied _ first,
      all_weaker (AtMost plain e) (λ x. starts key x ≡ false) (λ x h. not_tied _ ((prefix_cmp_follows plain key e x h).1 first)) es up.0,
    )
