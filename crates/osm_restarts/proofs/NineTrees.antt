-- That trees hold a map is said of the nine trees of a store, and of the list of all.
use Rattle.std.proofs.Common.{◌≡◌, ◌<◌, ℕ, cond, ltb, ltb-true, [], refl, sym, subst, ap, ◌∙◌, inl, inr}
use Rattle.std.proofs.Math.Path.{fun_ext}
use Rattle.std.proofs.lemmas.Bool.{cases_Bool}
use Rattle.sqlite_schema.specs.declared.schema.Constraint.{Constraint}
use Rattle.sqlite_schema.specs.declared.schema.Constraint.TheVariants.{Datatype, NotNull, Check, PrimaryKey, Unique, ForeignKey}
use Rattle.sqlite_schema.specs.Rules.{Obeys, Keeps}
use Rattle.sqlite_trees.specs.Tree.{Trees}
use Rattle.sqlite_trees.specs.Objects.{catalog_tree}
use Rattle.osm_rows.specs.declared.schema.layout.Layout.TheVariants.{Tables}
use Rattle.osm_rows.specs.Held.{HeldMap}
use Rattle.osm_rows.specs.LayoutHolding.{HasRows}
use Rattle.osm_rows.specs.Schema.Tables.{table_schema}
use Rattle.osm_tree_writes.specs.Beside.{HasAStore}
use Rattle.osm_tree_writes.specs.Putting.{TreesHold}

-- the trees of a store, and none behind them
abbrev pub own_trees : Trees → Trees
own_trees db t = cond (ltb t 9) (db t) []

pub same_own : (db other : Trees) → ((t : ℕ) → t < 9 → db t ≡ other t) → own_trees db ≡ own_trees other
same_own db other same = fun_ext (λ t. elim (cases_Bool (ltb t 9)) [
  | inl low ↦ rw low (same t (ltb-true t 9 low))
  | inr high ↦ rw high refl
])

to_own : (db : Trees) (rule : Constraint) → Keeps rule table_schema db → Keeps rule table_schema (own_trees db)
to_own db Datatype keeps = keeps
to_own db NotNull keeps = keeps
to_own db Check keeps = keeps
to_own db PrimaryKey keeps = keeps
to_own db Unique keeps = keeps
to_own db ForeignKey keeps = keeps

from_own : (db : Trees) (rule : Constraint) → Keeps rule table_schema (own_trees db) → Keeps rule table_schema db
from_own db Datatype keeps = keeps
from_own db NotNull keeps = keeps
from_own db Check keeps = keeps
from_own db PrimaryKey keeps = keeps
from_own db Unique keeps = keeps
from_own db ForeignKey keeps = keeps

-- other trees with the same nine hold it too, if they list those of a store
pub hold_again : (held : HeldMap) (db other : Trees) → own_trees db ≡ own_trees other → HasAStore Tables (other catalog_tree) → TreesHold Tables held db → TreesHold Tables held other
hold_again held db other same lists holds =
    let obeys : Obeys table_schema (own_trees db) = record { rules = λ rule. to_own db rule (holds.obeys.rules rule); indexed = holds.obeys.indexed } in
    let again = subst (Obeys table_schema) same obeys in
    record {
      lists = lists;
      obeys = record { rules = λ rule. from_own other rule (again.rules rule); indexed = again.indexed };
      meta = sym (ap (λ (f : Trees). f 0) same) ∙ holds.meta;
      blob = sym (ap (λ (f : Trees). f 1) same) ∙ holds.blob;
      elements = (
        subst (HasRows _) (ap (λ (f : Trees). f 2) same) holds.elements.0,
        subst (HasRows _) (ap (λ (f : Trees). f 4) same) holds.elements.1,
        subst (HasRows _) (ap (λ (f : Trees). f 6) same) holds.elements.2,
      );
    }
