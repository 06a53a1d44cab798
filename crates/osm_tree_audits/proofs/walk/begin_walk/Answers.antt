use Rattle.std.proofs.Common.{rules, arith, ◌≡◌, ◌∙◌, List, Contains, sym, ap, subst}
use Rattle.sqlite_value.specs.Order.{Row}
use Rattle.sqlite_value.specs.Keys.{plain}
use Rattle.sqlite_trees.specs.declared.store.Shape.TheVariants.{Table}
use Rattle.sqlite_trees.specs.Tree.{Trees, IsIndex, order_of, from_key}
use Rattle.sqlite_trees.specs.View.{View, IsClean, IsShaped}
use Rattle.sqlite_exec.specs.Loops.{left_of}
use Rattle.sqlite_exec.proofs.CheckLemmas.{placed}
use Rattle.osm_tree_audits.proofs.Walks.{among_sought}
use Rattle.osm_tree_audits.proofs.Reaching.{ascending_from}
use Rattle.osm_tree_audits.proofs.walk.begin_walk.Goals as goal

pub returns-clause-walk : goal.returns-clause-walk
returns-clause-walk g c clean =
    let old = g.S.Store.view c.args.store.now in
    let mid = g.S.Store.view c.seek.new.self in
    let new = g.S.Store.view c.seek-2.new.self in
    let clean_1 : IsClean mid = omega (arith, clean, c.seek-2.ensures.quiet.clean) in
    let clean_0 : IsClean old = omega (arith, clean_1, c.seek.ensures.quiet.clean) in
    let one = c.in_default.ensures.ok clean_1 in
    let two = c.in_default-seek.ensures.ok clean in
    let sorted = g.met.S.Store.ordered c.args.store.now (c.in_default.ensures.sound clean_1) in
    let table : IsShaped Table (old.trees c.args.table) = subst (λ s. IsShaped s (old.trees c.args.table)) (c.requires.table clean_0) (sorted c.args.table) in
    let index : IsIndex plain (old.trees c.args.index) = subst (λ s. IsShaped s (old.trees c.args.index)) (c.requires.index clean_0) (sorted c.args.index) in
    let trees : new.trees ≡ old.trees = ap (λ (v : View). v.trees) two ∙ ap (λ (v : View). v.trees) one in
    let left : left_of new 0 ≡ from_key plain c.args.key.now (old.trees c.args.index) = search rules in
    let rows : left_of new 1 ≡ from_key (order_of (old.shape c.args.table)) c.new-first.result (old.trees c.args.table) = rw (two, one) (placed old 1 _) in
    record {
      shaped = subst (λ (db : Trees). IsShaped Table (db c.args.table)) (sym trees) table;
      entries = subst (IsIndex plain) (sym left) (ascending_from _ plain c.args.key.now (old.trees c.args.index) index);
      rows = λ x there. subst (λ (db : Trees). Contains (db c.args.table) x) (sym trees) (among_sought _ c.new-first.result (old.trees c.args.table) x (subst (λ (l : List Row). Contains l x) rows there));
    }
