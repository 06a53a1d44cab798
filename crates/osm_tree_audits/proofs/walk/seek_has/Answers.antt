use Rattle.std.proofs.Common.{arith, ◌≡◌, List, Bool, IsTrue, Contains, subst}
use Rattle.std.proofs.lemmas.Result.{on_ok_weaker}
use Rattle.sqlite_value.specs.Order.{Row, column}
use Rattle.sqlite_trees.specs.Tree.{order_of, from_key, rowid}
use Rattle.sqlite_trees.specs.View.{IsClean}
use Rattle.sqlite_exec.specs.Loops.{left_of}
use Rattle.sqlite_exec.proofs.CheckLemmas.{placed}
use Rattle.osm_rows.proofs.AuditLemmas.Telling.{ok_told}
use Rattle.osm_tree_audits.proofs.Walks.{among_sought}
use Rattle.osm_tree_audits.proofs.walk.seek_has.Goals as goal

pub returns-clause-told : goal.returns-clause-told
returns-clause-told g c =
    let old = g.S.Store.view c.args.store.now in
    let row = c.next_has.new.row in
    let Next = λ (told : Bool). IsClean (g.S.Store.view c.next_has.new.store) → IsTrue told → Contains (left_of (g.S.Store.view c.seek.new.self) 1) row × (rowid row ≡ column c.args.entry.now c.args.width) in
    let Has = λ (told : Bool). IsClean (g.S.Store.view c.next_has.new.store) → IsTrue told → Contains (old.trees c.args.table) row × (rowid row ≡ column c.args.entry.now c.args.width) in
    ok_told {A = Next} {B = Has} c.next_has.result (λ b next clean yes.
    let clean_1 : IsClean (g.S.Store.view c.seek.new.self) = omega (arith, clean, c.next_has.ensures.looks.quiet.clean) in
    let sought : left_of (g.S.Store.view c.seek.new.self) 1 ≡ from_key (order_of (old.shape c.args.table)) c.push.new.self (old.trees c.args.table) = rw (c.in_default-seek.ensures.ok clean_1) (placed old 1 _) in
    let found = next clean yes in
    (among_sought _ c.push.new.self (old.trees c.args.table) row (subst (λ (l : List Row). Contains l row) sought found.0), found.1)) c.next_has.ensures.told

pub returns-clause-left : goal.returns-clause-left
returns-clause-left g c =
    on_ok_weaker c.next_has.result (λ left clean x there.
    let old = g.S.Store.view c.args.store.now in
    let clean_1 : IsClean (g.S.Store.view c.seek.new.self) = omega (arith, clean, c.next_has.ensures.looks.quiet.clean) in
    let sought : left_of (g.S.Store.view c.seek.new.self) 1 ≡ from_key (order_of (old.shape c.args.table)) c.push.new.self (old.trees c.args.table) = rw (c.in_default-seek.ensures.ok clean_1) (placed old 1 _) in
    among_sought _ c.push.new.self (old.trees c.args.table) x (subst (λ (l : List Row). Contains l x) sought (left clean x there))) c.next_has.ensures.left
