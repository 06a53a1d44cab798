use Rattle.std.proofs.Common.{arith, ◌≡◌, ap, subst}
use Rattle.sqlite_trees.specs.Tree.{Trees}
use Rattle.sqlite_trees.specs.View.{View, IsClean}
use Rattle.sqlite_exec.specs.Loops.{left_of}
use Rattle.osm_tree_audits.specs.Walking.{AreAmong}
use Rattle.osm_tree_audits.proofs.walk.read_row.Goals as goal

pub returns-then-branch-2-clause-left : goal.returns-then-branch-2-clause-left
returns-then-branch-2-clause-left g c clean among =
    let clean_1 : IsClean (g.S.Store.view c.next_has.new.store) = omega (arith, clean, c.seek_has.ensures.looks.quiet.clean) in
    let same : (g.S.Store.view c.next_has.new.store).trees ≡ (g.S.Store.view c.args.store.now).trees = ap (λ (v : View). v.trees) (c.next_has.ensures.looks.reads clean_1 (c.in_ok-next_has.ensures.steps.sound clean_1)) in
    subst (λ (db : Trees). AreAmong (db c.args.table) (left_of (g.S.Store.view c.seek_has.new.store) 1)) same (c.in_ok-seek_has.ensures.left clean)
