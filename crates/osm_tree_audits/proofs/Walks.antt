-- What a cursor over an index leads to.
use Rattle.std.proofs.Common.{◌≡◌, Bool, true, false, cond, is_lt, List, [], ◌∷◌, Contains, subst, sym}
use Rattle.std.proofs.lemmas.List.Elements.{Contains-append_right}
use Rattle.sqlite_value.specs.Order.{Row}
use Rattle.sqlite_value.specs.declared.keys.Order.{Order}
use Rattle.sqlite_value.specs.Keys.{prefix_cmp}
use Rattle.sqlite_trees.specs.Tree.{from_key}
use Rattle.osm_tree_audits.specs.Walking.{AreAmong}

-- what follows an entry is among what it begins
pub among_rest : (all left : List Row) (e : Row) → all ≡ e ∷ left → AreAmong all left
among_rest all left e is x there = subst (λ (l : List Row). Contains l x) (sym is) (Contains-append_right (e ∷ []) left x there)

-- and what is sought among all
pub among_sought : (o : Order) (key : Row) (es : List Row) → AreAmong es (from_key o key es)
among_sought o key [] x there = there
among_sought o key (e ∷ es) x there = go (is_lt (prefix_cmp o e key)) there (among_sought o key es x)
  where
    go : (b : Bool) → Contains (cond b (from_key o key es) (e ∷ es)) x → (Contains (from_key o key es) x → Contains es x) → Contains (e ∷ es) x
    go true k more = Contains-append_right (e ∷ []) es x (more k)
    go false k more = k
