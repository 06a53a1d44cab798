use Rattle.std.proofs.Common.{arith, ◌≡◌, ◌∙◌, ◌∷◌, sym, ap, subst}
use Rattle.sqlite_value.specs.Keys.{plain}
use Rattle.sqlite_trees.specs.declared.store.Shape.TheVariants.{Table, Index}
use Rattle.sqlite_trees.specs.Tree.{Trees, IsIndex, from_key, order_of}
use Rattle.sqlite_trees.specs.View.{View, IsClean, IsShaped}
use Rattle.sqlite_exec.specs.Loops.{left_of}
use Rattle.sqlite_exec.proofs.CheckLemmas.{stepped, placed}
use Rattle.osm_tree_audits.specs.ElementTables.{index_of, table_of, width_of}
use Rattle.osm_tree_audits.specs.Walking.{IsAtNamed}
use Rattle.osm_tree_audits.proofs.InOrder.{begun}
use Rattle.osm_tree_audits.proofs.in_order.begin_in_order.Goals as goal

pub returns-clause-walk : goal.returns-clause-walk
returns-clause-walk g c clean in_order so =
    let of = c.args.of in
    let key = c.args.key.now in
    let old = g.S.Store.view c.args.store.now in
    let sought = g.S.Store.view c.seek.new.self in
    let moved = g.S.Store.view c.next.new.self in
    let new = g.S.Store.view c.seek_row.new.store in
    let e = c.next.new.row in
    let clean_2 : IsClean moved = omega (arith, clean, c.seek_row.ensures.looks.quiet.clean) in
    let clean_1 : IsClean sought = omega (arith, clean_2, c.next.ensures.quiet.clean) in
    let clean_0 : IsClean old = omega (arith, clean_1, c.seek.ensures.quiet.clean) in
    let one = c.in_default.ensures.ok clean_1 in
    let sorted = g.met.S.Store.ordered c.args.store.now (c.in_default.ensures.sound clean_1) in
    let table : IsShaped Table (old.trees (table_of of)) = subst (λ s. IsShaped s (old.trees (table_of of))) (c.requires.table clean_0) (sorted (table_of of)) in
    let index : IsIndex plain (old.trees (index_of of)) = subst (λ s. IsShaped s (old.trees (index_of of))) (c.requires.index clean_0) (sorted (index_of of)) in
    let here : left_of sought 0 ≡ from_key (order_of (old.shape c.index.result)) key (old.trees c.index.result) = rw one (placed old 0 _) in
    let shape = subst (λ t. old.shape t ≡ Index plain) (sym c.index.ensures) (c.requires.index clean_0) in
    let first : left_of sought 0 ≡ from_key plain key (old.trees (index_of of)) = here ∙ ap (λ s. from_key (order_of s) key (old.trees c.index.result)) shape ∙ ap (λ t. from_key plain key (old.trees t)) c.index.ensures in
    let step : left_of sought 0 ≡ e ∷ left_of moved 0 = stepped _ _ 0 e (rw c.in-Ok-true.field-0-test at (c.in-Ok-true.ensures.ok clean_2)) in
    let trees : moved.trees ≡ old.trees = ap (λ (v : View). v.trees) (c.in-Ok-true.ensures.moves clean_2).same ∙ ap (λ (v : View). v.trees) one in
    let named : IsAtNamed (old.trees (table_of of)) e (width_of of) (left_of new 1) =
    subst (λ w. IsAtNamed (old.trees (table_of of)) e w (left_of new 1)) c.width.ensures
    (subst (λ t. IsAtNamed (old.trees t) e c.width.result (left_of new 1)) c.table.ensures (subst (λ (db : Trees). IsAtNamed (db c.table.result) e c.width.result (left_of new 1)) trees (c.in_ok-seek_row.ensures.placed clean))) in
    begun old.trees of key e (left_of moved 0) (left_of new 1) table index in_order (sym first ∙ step) named
