-- What callers see of a reader of trees, and what a crash leaves of one that can go on.
use Rattle.std.specs.Prelude.{◌≡◌, ℕ, Bool, true, false, IsTrue, refl, Result}
use Rattle.std.proofs.Common.{ap, sym, subst, ◌∙◌}
use Rattle.std.specs.Coded.{Coded, code_by, coded×, coded_ℕ}
use Rattle.sqlite_trees.specs.declared.store.Store.{Ghosts}
use Rattle.sqlite_trees.specs.Objects.{catalog_tree}
use Rattle.sqlite_trees.specs.Tree.{Trees}
use Rattle.sqlite_trees.specs.View.{View, IsClean}
use Rattle.osm_rows.specs.declared.fault.StoreFault.{StoreFault}
use Rattle.osm_rows.specs.declared.schema.layout.Layout.TheVariants.{Tables}
use Rattle.osm_rows.specs.Held.{HeldMap}
use Rattle.osm_rows.specs.Keeping.{OnlyReads}
use Rattle.osm_rows.specs.LayoutHolding.{IsKept}
use Rattle.osm_tree_writes.specs.Putting.{IsIndexedStore, TreesHold}
use Rattle.osm_trees.specs.Below.{HoldsBelow, IsUsable, MayLeave, LeavesAMap, ListsAlways, SameTrees, IsIndexed}

pub record Reading (S : Type 0) : Type 0 where
  pub store : S
  -- how many calls answered a fault
  pub failures : ℕ

abbrev pub reading_code : {S : Type 0} → Coded S → Coded (Reading S)
reading_code {S} code = code_by (S × ℕ) (coded× code coded_ℕ) (λ r. (r.store, r.failures)) (λ p. record { store = p.0; failures = p.1 }) (λ _. refl)

-- the call has left the trees, and has counted its failure
abbrev pub JustReads : {S T : Type 0} → Ghosts S → Reading S → Result T StoreFault → Reading S → Type 0
JustReads g old result new = OnlyReads (λ r held. HoldsBelow Tables (g.view r.store) held) (λ r left. MayLeave (g.recovers r.store) left) (λ r. LeavesAMap (g.recovers r.store)) (λ r rows. ListsAlways (g.view r.store) (g.recovers r.store) rows) (λ r s. SameTrees (g.view r.store) (g.view s.store))
    (λ r. IsClean (g.view r.store)) (λ r. IsUsable (g.view r.store)) (λ r. r.failures) old result new

-- one store has the trees that it has, and what is the same after one call and after the next is the same after both
pub same_self : (v : View) → SameTrees v v
same_self v = record { committed = refl; settled = λ settled. settled }

pub same_next : (first next last : View) → SameTrees first next → SameTrees next last → SameTrees first last
same_next first next last one two = record { committed = two.committed ∙ one.committed; settled = λ settled. two.settled (one.settled settled) }

-- the same commit has the same indexes
pub indexed_after : (one other : View) → SameTrees one other → IsIndexed one → IsIndexed other
indexed_after one other same is =
    let settled = same.settled is.settled in
    record { settled = settled; indexed = subst IsIndexedStore (is.settled ∙ sym same.committed ∙ sym settled) is.indexed }

-- a store that isn't broken is open
pub open_of : (is_open is_broken : Bool) → (is_open ≡ false → IsTrue is_broken) → is_broken ≡ false → IsTrue is_open
open_of true is_broken shuts up = refl
open_of false is_broken shuts up = sym up ∙ shuts refl

module _ (v : View) (recovers : Trees → Type 0) (held : HeldMap) (holds : HoldsBelow Tables v held)
    (settles : (db : Trees) → IsTrue v.is_open → recovers db → db ≡ v.committed) (shuts : v.is_open ≡ false → IsTrue v.is_broken) where
  left_is : (db : Trees) → recovers db → db ≡ v.trees
  left_is db left = settles db (open_of _ _ shuts holds.unbroken) left ∙ sym holds.settled

  pub leaves_held_alone : (left : HeldMap) → IsKept Tables left → (db : Trees) → recovers db → TreesHold Tables left db → left ≡ held
  leaves_held_alone left kept db may tables = holds.only left kept (subst (TreesHold Tables left) (left_is db may) tables)

  pub leaves_held : (db : Trees) → recovers db → (left : HeldMap) × IsKept Tables left × TreesHold Tables left db
  leaves_held db may = (held, holds.kept, subst (TreesHold Tables held) (sym (left_is db may)) holds.tables)

-- a crash leaves of a store that can go on what it lists
pub lists_always : (v : View) (recovers : Trees → Type 0) → v.is_broken ≡ false → v.trees ≡ v.committed → ((db : Trees) → IsTrue v.is_open → recovers db → db ≡ v.committed) → (v.is_open ≡ false → IsTrue v.is_broken)
    → ListsAlways v recovers (v.trees catalog_tree)
lists_always v recovers up settled settles shuts = record {
  committed = λ _. ap (λ (ts : Trees). ts catalog_tree) (sym settled);
  left = λ db left. ap (λ (ts : Trees). ts catalog_tree) (settles db (open_of _ _ shuts up) left ∙ sym settled);
}
