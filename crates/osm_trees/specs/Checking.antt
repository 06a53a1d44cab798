-- What callers see of a store whose indexes were checked, and what a read leaves of it.
use Rattle.std.specs.Prelude.{◌≡◌, ℕ, Bool, refl, Result}
use Rattle.std.proofs.Common.{sym, subst, ◌∙◌}
use Rattle.std.specs.Coded.{Coded, code_by, coded×, coded_ℕ, coded_bool}
use Rattle.sqlite_trees.specs.declared.store.Store.{Ghosts}
use Rattle.sqlite_trees.specs.Tree.{Trees}
use Rattle.sqlite_trees.specs.View.{View, IsClean}
use Rattle.osm_rows.specs.declared.fault.StoreFault.{StoreFault}
use Rattle.osm_rows.specs.declared.schema.layout.Layout.TheVariants.{Tables}
use Rattle.osm_rows.specs.Held.{HeldMap}
use Rattle.osm_rows.specs.Keeping.{OnlyReads}
use Rattle.osm_tree_audits.specs.declared.look.Look.{Look}
use Rattle.osm_tree_audits.specs.Looks.{IsLook}
use Rattle.osm_trees.specs.Below.{HoldsBelow, IsIndexed, IsUsable, LeavesAMap, MayLeave, SameTrees, ListsAlways}
use Rattle.osm_trees.specs.Reading.{Reading, indexed_after, reading_code, same_next, same_self}

pub record Checking (S : Type 0) : Type 0 where
  pub trees : Reading S
  -- what was seen of the tables as the indexes were checked
  pub look : Look

abbrev pub checking_code : {S : Type 0} → Coded S → Coded (Checking S)
checking_code {S} code =
    code_by (Reading S × ((ℕ × Bool) × ((ℕ × Bool) × (ℕ × Bool)))) (coded× (reading_code code) (coded× (coded× coded_ℕ coded_bool) (coded× (coded× coded_ℕ coded_bool) (coded× coded_ℕ coded_bool))))
    (λ c. (c.trees, ((c.look.elements.rows, c.look.elements.in_order), ((c.look.tags.rows, c.look.tags.in_order), (c.look.links.rows, c.look.links.in_order)))))
    (λ p. record {
      trees = p.0;
      look = record {
        elements = record { rows = p.1.0.0; in_order = p.1.0.1 };
        tags = record { rows = p.1.1.0.0; in_order = p.1.1.0.1 };
        links = record { rows = p.1.1.1.0; in_order = p.1.1.1.1 };
      };
    }) (λ _. refl)

-- the trees hold this map, and of their last commit it is so what was seen
abbrev pub HoldsChecked : {S : Type 0} → Ghosts S → Checking S → HeldMap → Type 0
HoldsChecked g c held = HoldsBelow Tables (g.view c.trees.store) held × IsLook (g.view c.trees.store).committed c.look

-- nothing is written, each index has one entry for each row of its table, and it is so what was seen
abbrev pub HasWholeIndexes : {S : Type 0} → Ghosts S → Checking S → Type 0
HasWholeIndexes g c = IsIndexed (g.view c.trees.store) × IsLook (g.view c.trees.store).committed c.look

-- the last commits have the same trees, and the same was seen of them
abbrev pub SameChecked : {S : Type 0} → Ghosts S → Checking S → Checking S → Type 0
SameChecked g one other = SameTrees (g.view one.trees.store) (g.view other.trees.store) × (other.look ≡ one.look)

-- the call has left the trees, and has counted its failure
abbrev pub JustReadsChecked : {S T : Type 0} → Ghosts S → Checking S → Result T StoreFault → Checking S → Type 0
JustReadsChecked g old result new =
    OnlyReads (HoldsChecked g) (λ c left. MayLeave (g.recovers c.trees.store) left) (λ c. LeavesAMap (g.recovers c.trees.store)) (λ c rows. ListsAlways (g.view c.trees.store) (g.recovers c.trees.store) rows) (SameChecked g)
    (λ c. IsClean (g.view c.trees.store)) (λ c. IsUsable (g.view c.trees.store)) (λ c. c.trees.failures) old result new

pub same_look : (a b : Trees) (x y : Look) → b ≡ a → y ≡ x → IsLook a x → IsLook b y
same_look a b x y trees look seen = subst (λ (db : Trees). IsLook db y) (sym trees) (subst (IsLook a) (sym look) seen)

-- one store has the trees that it has, and what is the same after one call and after the next is the same after both
pub same_seen_self : (v : View) (look : Look) → SameTrees v v × (look ≡ look)
same_seen_self v look = (same_self v, refl)

pub same_seen_next : (first next last : View) (x y z : Look) → SameTrees first next × (y ≡ x) → SameTrees next last × (z ≡ y) → SameTrees first last × (z ≡ x)
same_seen_next first next last x y z one two = (same_next first next last one.0 two.0, two.1 ∙ one.1)

-- the same commit has the same indexes, of which the same is so
pub whole_after : (one other : View) (x y : Look) → SameTrees one other × (y ≡ x) → IsIndexed one × IsLook one.committed x → IsIndexed other × IsLook other.committed y
whole_after one other x y same whole = (indexed_after one other same.0 whole.0, same_look one.committed other.committed x y same.0.committed same.1 whole.1)
