use Rattle.std.proofs.Common.{arith, ◌≡◌, ◌∙◌, ◌∷◌, map, drop, filter, flat_map, refl, sym, ap, subst}
use Rattle.sqlite_value.specs.Keys.{plain}
use Rattle.sqlite_trees.specs.Tree.{IsIndex}
use Rattle.sqlite_trees.specs.View.{View, IsClean}
use Rattle.sqlite_trees.proofs.TreeLemmas.{sorted_index}
use Rattle.sqlite_exec.specs.Loops.{left_of}
use Rattle.sqlite_exec.specs.Plan.{resolved}
use Rattle.sqlite_exec.proofs.CheckLemmas.{stepped}
use Rattle.osm_tree_audits.specs.Finding.{starts}
use Rattle.osm_tree_audits.specs.Walking.{AreAmong, reached}
use Rattle.osm_tree_audits.proofs.Reaching.{led, one_more, no_more, walked}
use Rattle.osm_tree_audits.proofs.walk.next_row.Goals as goal

pub returns-in-Greater-clause-told : goal.returns-in-Greater-clause-told
returns-in-Greater-clause-told g c clean walk =
    let old = g.S.Store.view c.args.store.now in
    let e = c.next.new.row in
    let left = left_of (g.S.Store.view c.next.new.self) 0 in
    let step : left_of old 0 ≡ e ∷ left = stepped _ _ 0 e (rw c.in-Ok-true.field-0-test at (c.in-Ok-true.ensures.ok clean)) in
    let f = resolved (old.trees c.args.table) c.args.width in
    ap (λ l. map (drop 1) (flat_map f (filter (starts c.args.key.now) l))) step
    ∙ no_more f c.args.key.now e left (sorted_index plain (e ∷ left) (subst (IsIndex plain) step walk.entries)) (sym c.cmp_prefix.ensures ∙ c.in-Greater.is)

pub returns-in-Greater-clause-walk : goal.returns-in-Greater-clause-walk
returns-in-Greater-clause-walk g c clean walk =
    let old = g.S.Store.view c.args.store.now in
    let next = g.S.Store.view c.next.new.self in
    let step = stepped _ _ 0 c.next.new.row (rw c.in-Ok-true.field-0-test at (c.in-Ok-true.ensures.ok clean)) in
    let moves = c.in-Ok-true.ensures.moves clean in
    let rows : left_of next 1 ≡ left_of old 1 = rw (moves.others 1 (omega arith)) refl in
    walked old next c.args.table c.next.new.row moves.same step (subst (AreAmong (old.trees c.args.table)) (sym rows) walk.rows) walk

pub returns-clause-told : goal.returns-clause-told
returns-clause-told g c clean walk =
    let old = g.S.Store.view c.args.store.now in
    let next = g.S.Store.view c.next.new.self in
    let new = g.S.Store.view c.read_row.new.store in
    let e = c.next.new.row in
    let row = c.read_row.new.row in
    let clean_1 : IsClean next = omega (arith, clean, c.read_row.ensures.looks.quiet.clean) in
    let step = stepped _ _ 0 e (rw c.in-Ok-true.field-0-test at (c.in-Ok-true.ensures.ok clean_1)) in
    let moves = c.in-Ok-true.ensures.moves clean_1 in
    let trees : next.trees ≡ old.trees = ap (λ (v : View). v.trees) moves.same in
    let rows : left_of next 1 ≡ left_of old 1 = rw (moves.others 1 (omega arith)) refl in
    let among : AreAmong (next.trees c.args.table) (left_of next 1) = rw (trees, rows) walk.rows in
    let found = rw trees at (c.in_ok-read_row.ensures.found clean among) in
    let f = resolved (old.trees c.args.table) c.args.width in
    let leads = led (old.trees c.args.table) c.args.width e row walk.shaped found.0 found.1 in
    let last : new.trees ≡ old.trees = ap (λ (v : View). v.trees) (c.read_row.ensures.looks.reads clean (c.in_ok-read_row.ensures.steps.sound clean)) ∙ trees in
    let left : left_of new 0 ≡ left_of next 0 = rw (c.in_ok-read_row.ensures.entries clean) refl in
    let more : reached new c.args.table c.args.width c.args.key.now ≡ map (drop 1) (flat_map f (filter (starts c.args.key.now) (left_of next 0))) = rw (last, left) refl in
    ap (λ l. map (drop 1) (flat_map f (filter (starts c.args.key.now) l))) step
    ∙ one_more f c.args.key.now e (left_of next 0) row (sym c.cmp_prefix.ensures ∙ c.in-Equal.is) leads
    ∙ ap (λ l. drop 1 row ∷ l) (sym more)

pub returns-clause-walk : goal.returns-clause-walk
returns-clause-walk g c clean walk =
    let old = g.S.Store.view c.args.store.now in
    let next = g.S.Store.view c.next.new.self in
    let new = g.S.Store.view c.read_row.new.store in
    let clean_1 : IsClean next = omega (arith, clean, c.read_row.ensures.looks.quiet.clean) in
    let step = stepped _ _ 0 c.next.new.row (rw c.in-Ok-true.field-0-test at (c.in-Ok-true.ensures.ok clean_1)) in
    let moves = c.in-Ok-true.ensures.moves clean_1 in
    let trees : next.trees ≡ old.trees = ap (λ (v : View). v.trees) moves.same in
    let rows : left_of next 1 ≡ left_of old 1 = rw (moves.others 1 (omega arith)) refl in
    let among : AreAmong (next.trees c.args.table) (left_of next 1) = rw (trees, rows) walk.rows in
    let reads = c.read_row.ensures.looks.reads clean (c.in_ok-read_row.ensures.steps.sound clean) in
    let same : new ≡ record old { cursors = new.cursors } = reads ∙ ap (λ (v : View). record v { cursors = new.cursors }) moves.same in
    let left : left_of new 0 ≡ left_of next 0 = rw (c.in_ok-read_row.ensures.entries clean) refl in
    let ahead : left_of old 0 ≡ c.next.new.row ∷ left_of new 0 = step ∙ ap (λ l. c.next.new.row ∷ l) (sym left) in
    walked old new c.args.table c.next.new.row same ahead (rw trees at (c.in_ok-read_row.ensures.left clean among)) walk
