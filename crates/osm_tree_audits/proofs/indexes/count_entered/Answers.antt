use Rattle.std.proofs.Common.{rules, arith, ◌≡◌, ◌+◌, List, [], ◌∷◌, ◌++◌, length, length-append, Contains, refl, sym, ap, subst, ◌∙◌, append_assoc, append-nil}
use Rattle.std.proofs.lemmas.List.{map-append, map_push}
use Rattle.std.proofs.lemmas.List.Elements.{All-nil, All-push}
use Rattle.std.proofs.lemmas.Bool.{iff_false}
use Rattle.sqlite_value.specs.Order.{Row}
use Rattle.sqlite_trees.specs.Tree.{Trees, IsIndexShape}
use Rattle.sqlite_trees.specs.View.{View, IsClean}
use Rattle.sqlite_exec.specs.Loops.{left_of}
use Rattle.sqlite_exec.proofs.CheckLemmas as lemma
use Rattle.sqlite_rules.proofs.ViewLemmas.{still_quiet}
use Rattle.osm_tree_audits.proofs.indexes.count_entered.Goals as goal

pub rows-init : goal.rows-init
rows-init g c = (
  search rules,
  search rules,
  search rules,
  search rules,
  (λ clean x there.
      let clean_1 : IsClean (g.S.Store.view c.seek.new.self) = omega (arith, clean, c.seek-2.ensures.quiet.clean) in
      let all : left_of (g.S.Store.view c.seek-2.new.self) 1 ≡ (g.S.Store.view c.args.store.now).trees c.args.tree = rw (c.in_default-seek.ensures.ok clean, c.in_default.ensures.ok clean_1, c.new-entry.ensures, lemma.from_no_key) refl in
      subst (λ (l : List Row). Contains l x) all there),
  (λ clean.
      let clean_1 : IsClean (g.S.Store.view c.seek.new.self) = omega (arith, clean, c.seek-2.ensures.quiet.clean) in
      ([], rw (c.in_default-seek.ensures.ok clean, c.in_default.ensures.ok clean_1, c.new-row.ensures, lemma.from_no_key) refl, refl, All-nil _)),
)

pub has_entry-requires-clause-shaped : goal.has_entry-requires-clause-shaped
has_entry-requires-clause-shaped g c clean =
    let clean_0 : IsClean (g.S.Store.view c.rows.store) = omega (arith, clean, c.next.ensures.quiet.clean) in
    let clean_old : IsClean (g.S.Store.view c.args.store.now) = omega (arith, clean_0, c.rows.invariant.3.clean) in
    let kept : (g.S.Store.view c.next.new.self).shape c.args.tree ≡ (g.S.Store.view c.args.store.now).shape c.args.tree =
    ap (λ (v : View). v.shape c.args.tree) (c.in-Ok-true.ensures.moves clean).same ∙ ap (λ (v : View). v.shape c.args.tree) (c.rows.invariant.2 clean_0).0 in
    subst IsIndexShape (sym kept) (c.requires.index clean_old)

pub returns-in-Ok-false-clause-told : goal.returns-in-Ok-false-clause-told
returns-in-Ok-false-clause-told g c clean =
    let done = c.rows.invariant.5 (omega (arith, clean, c.next.ensures.quiet.clean)) in
    let whole = done.1 ∙ ap (λ l. done.0 ++ l) (lemma.ended _ _ 0 c.next.new.row (rw c.in-Ok-false.field-0-test at (c.in-Ok-false.ensures.ok clean))) ∙ append-nil done.0 in
    rw whole (done.2, done.3)

pub returns-in_err-has_entry-clause-looks : goal.returns-in_err-has_entry-clause-looks
returns-in_err-has_entry-clause-looks g c = record { reads = search rules; quiet = still_quiet (still_quiet c.rows.invariant.3 c.next.ensures.quiet) c.has_entry.ensures.looks.quiet }

pub returns-then-not-branch-clause-looks : goal.returns-then-not-branch-clause-looks
returns-then-not-branch-clause-looks g c = record { reads = search rules; quiet = still_quiet (still_quiet c.rows.invariant.3 c.next.ensures.quiet) c.has_entry.ensures.looks.quiet }

pub returns-in_err-count-clause-looks : goal.returns-in_err-count-clause-looks
returns-in_err-count-clause-looks g c = record { reads = search rules; quiet = still_quiet (still_quiet c.rows.invariant.3 c.next.ensures.quiet) c.has_entry.ensures.looks.quiet }

pub returns-then-not-branch-clause-told : goal.returns-then-not-branch-clause-told
returns-then-not-branch-clause-told g c clean all =
    let old = g.S.Store.view c.args.store.now in
    let clean_1 : IsClean (g.S.Store.view c.next.new.self) = omega (arith, clean, c.has_entry.ensures.looks.quiet.clean) in
    let clean_0 : IsClean (g.S.Store.view c.rows.store) = omega (arith, clean_1, c.next.ensures.quiet.clean) in
    let done = c.rows.invariant.5 clean_0 in
    let split = done.1 ∙ ap (λ l. done.0 ++ l) (lemma.stepped _ _ 0 c.next.new.row (rw c.in-Ok-true.field-0-test at (c.in-Ok-true.ensures.ok clean_1))) in
    let moves = c.in-Ok-true.ensures.moves clean_1 in
    let tree : (g.S.Store.view c.next.new.self).trees ≡ old.trees = ap (λ (v : View). v.trees) moves.same ∙ ap (λ (v : View). v.trees) (c.rows.invariant.2 clean_0).0 in
    let left : left_of (g.S.Store.view c.next.new.self) 1 ≡ left_of (g.S.Store.view c.rows.store) 1 = rw (moves.others 1 (omega arith)) refl in
    let among = rw (← tree, ← left) at (c.rows.invariant.4 clean_0) in
    let missing = rw (tree, c.in_ok-make_entry.ensures) at (c.in_ok-has_entry.ensures.told clean among) in
    iff_false missing c.if-not-branch.true (lemma.middle (Contains (old.trees c.args.tree)) _ _ _ (rw (split, map-append) at all))

pub rows-preserved : goal.rows-preserved
rows-preserved g c =
    let old = g.S.Store.view c.args.store.now in (
      search rules,
      search rules,
      search rules,
      still_quiet (still_quiet c.rows.invariant.3 c.next.ensures.quiet) c.has_entry.ensures.looks.quiet,
      (λ clean x there.
          let clean_1 : IsClean (g.S.Store.view c.next.new.self) = omega (arith, clean, c.has_entry.ensures.looks.quiet.clean) in
          let clean_0 : IsClean (g.S.Store.view c.rows.store) = omega (arith, clean_1, c.next.ensures.quiet.clean) in
          let moves = c.in-Ok-true.ensures.moves clean_1 in
          let tree : (g.S.Store.view c.next.new.self).trees ≡ old.trees = ap (λ (v : View). v.trees) moves.same ∙ ap (λ (v : View). v.trees) (c.rows.invariant.2 clean_0).0 in
          let left : left_of (g.S.Store.view c.next.new.self) 1 ≡ left_of (g.S.Store.view c.rows.store) 1 = rw (moves.others 1 (omega arith)) refl in
          let among = rw (← tree, ← left) at (c.rows.invariant.4 clean_0) in
          subst (λ (db : Trees). Contains (db c.args.tree) x) tree (c.in_ok-has_entry.ensures.left clean among x there)),
      (λ clean.
          let clean_1 : IsClean (g.S.Store.view c.next.new.self) = omega (arith, clean, c.has_entry.ensures.looks.quiet.clean) in
          let clean_0 : IsClean (g.S.Store.view c.rows.store) = omega (arith, clean_1, c.next.ensures.quiet.clean) in
          let done = c.rows.invariant.5 clean_0 in
          let split = done.1 ∙ ap (λ l. done.0 ++ l) (lemma.stepped _ _ 0 c.next.new.row (rw c.in-Ok-true.field-0-test at (c.in-Ok-true.ensures.ok clean_1))) in
          let moves = c.in-Ok-true.ensures.moves clean_1 in
          let tree : (g.S.Store.view c.next.new.self).trees ≡ old.trees = ap (λ (v : View). v.trees) moves.same ∙ ap (λ (v : View). v.trees) (c.rows.invariant.2 clean_0).0 in
          let left : left_of (g.S.Store.view c.next.new.self) 1 ≡ left_of (g.S.Store.view c.rows.store) 1 = rw (moves.others 1 (omega arith)) refl in
          let among = rw (← tree, ← left) at (c.rows.invariant.4 clean_0) in
          let stays = c.in_ok-has_entry.ensures.rows clean in
          let found = (rw (tree, c.in_ok-make_entry.ensures) at (c.in_ok-has_entry.ensures.told clean among)).0 c.if-not-branch.false in
          let more : c.in_ok-count.count ≡ c.rows.count + 1 = search rules in
          let long : length (done.0 ++ c.next.new.row ∷ []) ≡ length done.0 + 1 = length-append done.0 (c.next.new.row ∷ []) in
          (done.0 ++ c.next.new.row ∷ [], rw stays (split ∙ sym (append_assoc done.0 (c.next.new.row ∷ []) _)), more ∙ ap (λ n. n + 1) done.2 ∙ sym long, rw map_push (All-push (Contains (old.trees c.args.tree)) _ _ done.3 found))),
    )

pub returns-in-Ok-false-clause-looks : goal.returns-in-Ok-false-clause-looks
returns-in-Ok-false-clause-looks g c = record { reads = search rules; quiet = still_quiet c.rows.invariant.3 c.next.ensures.quiet }

pub returns-in-Err-next-clause-looks : goal.returns-in-Err-next-clause-looks
returns-in-Err-next-clause-looks g c = record { reads = search rules; quiet = still_quiet c.rows.invariant.3 c.next.ensures.quiet }

pub returns-in_err-make_entry-clause-looks : goal.returns-in_err-make_entry-clause-looks
returns-in_err-make_entry-clause-looks g c = record { reads = search rules; quiet = still_quiet c.rows.invariant.3 c.next.ensures.quiet }
