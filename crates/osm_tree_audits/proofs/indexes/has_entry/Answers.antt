use Rattle.std.proofs.Common.{arith, ◌≡◌, Bool, IsTrue, Contains, ap, subst, sym}
use Rattle.std.specs.Prelude.{◌↔◌}
use Rattle.std.proofs.lemmas.Result.{on_ok_weaker}
use Rattle.sqlite_trees.specs.Tree.{IsIndexShape}
use Rattle.sqlite_trees.specs.View.{View, IsClean}
use Rattle.sqlite_exec.specs.Loops.{left_of}
use Rattle.osm_rows.proofs.AuditLemmas.Telling.{ok_told}
use Rattle.osm_tree_audits.specs.Walking.{AreAmong}
use Rattle.osm_tree_audits.proofs.indexes.has_entry.Goals as goal

pub seek_is-requires : goal.seek_is-requires
seek_is-requires g c clean =
    let kept = c.next_is.ensures.looks.reads clean (c.in_ok-next_is.ensures.steps.sound clean) in
    let clean_0 : IsClean (g.S.Store.view c.args.store.now) = omega (arith, clean, c.next_is.ensures.looks.quiet.clean) in
    let same : (g.S.Store.view c.next_is.new.store).shape c.args.tree ≡ (g.S.Store.view c.args.store.now).shape c.args.tree = ap (λ (v : View). v.shape c.args.tree) kept in
    subst IsIndexShape (sym same) (c.requires.shaped clean_0)

pub returns-clause-told : goal.returns-clause-told
returns-clause-told g c =
    let old = g.S.Store.view c.args.store.now in
    let Sought = λ (told : Bool). IsClean (g.S.Store.view c.seek_is.new.store) → IsTrue told ↔ Contains ((g.S.Store.view c.next_is.new.store).trees c.args.tree) c.args.entry.now in
    let Has = λ (told : Bool). IsClean (g.S.Store.view c.seek_is.new.store) → AreAmong (old.trees c.args.tree) (left_of old 1) → IsTrue told ↔ Contains (old.trees c.args.tree) c.args.entry.now in
    ok_told {A = Sought} {B = Has} _ (λ b sought clean among.
    let clean_1 : IsClean (g.S.Store.view c.next_is.new.store) = omega (arith, clean, c.seek_is.ensures.looks.quiet.clean) in
    let same : (g.S.Store.view c.next_is.new.store).trees ≡ old.trees = ap (λ (v : View). v.trees) (c.next_is.ensures.looks.reads clean_1 (c.in_ok-next_is.ensures.steps.sound clean_1)) in
    rw same at (sought clean)) c.seek_is.ensures.told

pub returns-clause-left : goal.returns-clause-left
returns-clause-left g c =
    let old = g.S.Store.view c.args.store.now in
    on_ok_weaker c.seek_is.result (λ left clean among.
    let clean_1 : IsClean (g.S.Store.view c.next_is.new.store) = omega (arith, clean, c.seek_is.ensures.looks.quiet.clean) in
    let same : (g.S.Store.view c.next_is.new.store).trees ≡ old.trees = ap (λ (v : View). v.trees) (c.next_is.ensures.looks.reads clean_1 (c.in_ok-next_is.ensures.steps.sound clean_1)) in
    rw same at (left clean)) c.seek_is.ensures.left
