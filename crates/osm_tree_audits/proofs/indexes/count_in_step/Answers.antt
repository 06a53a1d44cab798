use Rattle.std.proofs.Common.{rules, arith, ◌≡◌, ◌+◌, ◌∙◌, [], ◌∷◌, ◌++◌, map, length, length-append, refl, sym, ap, append_assoc}
use Rattle.std.proofs.lemmas.List.{map-append}
use Rattle.sqlite_trees.specs.View.{IsClean}
use Rattle.sqlite_sql.specs.Catalog.{entry_of}
use Rattle.sqlite_exec.specs.Loops.{left_of}
use Rattle.sqlite_exec.proofs.CheckLemmas as lemma
use Rattle.sqlite_rules.proofs.ViewLemmas.{still_quiet}
use Rattle.osm_tree_audits.proofs.InStep.{at_end, all_done, ok_then, some_then}
use Rattle.osm_tree_audits.proofs.indexes.count_in_step.Goals as goal

pub rows-init : goal.rows-init
rows-init g c = (
  search rules,
  search rules,
  search rules,
  search rules,
  (λ clean.
      let clean_1 : IsClean (g.S.Store.view c.seek.new.self) = omega (arith, clean, c.seek-2.ensures.quiet.clean) in
      ([], rw (c.in_default-seek.ensures.ok clean, c.in_default.ensures.ok clean_1, c.new-row.ensures, lemma.from_no_key) refl, refl, rw (c.in_default-seek.ensures.ok clean, c.in_default.ensures.ok clean_1, c.new-found.ensures, lemma.from_no_key) refl)),
)

pub returns-in-Ok-false-clause-looks : goal.returns-in-Ok-false-clause-looks
returns-in-Ok-false-clause-looks g c = record { reads = search rules; quiet = still_quiet (still_quiet c.rows.invariant.3 c.next.ensures.quiet) c.count_if_ended.ensures.looks.quiet }

pub returns-in_err-count-clause-looks : goal.returns-in_err-count-clause-looks
returns-in_err-count-clause-looks g c = record { reads = search rules; quiet = still_quiet (still_quiet c.rows.invariant.3 c.next.ensures.quiet) c.next_is_of.ensures.looks.quiet }

pub returns-in-Ok-false-clause-told : goal.returns-in-Ok-false-clause-told
returns-in-Ok-false-clause-told g c =
    let rows = (g.S.Store.view c.args.store.now).trees c.args.table in
    ok_then c.count_if_ended.result (λ told ends clean.
    let clean_1 : IsClean (g.S.Store.view c.next.new.self) = omega (arith, clean, c.count_if_ended.ensures.looks.quiet.clean) in
    let clean_0 : IsClean (g.S.Store.view c.rows.store) = omega (arith, clean_1, c.next.ensures.quiet.clean) in
    let done = c.rows.invariant.4 clean_0 in
    let no_more = lemma.ended _ _ 0 c.next.new.row (rw c.in-Ok-false.field-0-test at (c.in-Ok-false.ensures.ok clean_1)) in
    let all = all_done rows done.0 _ done.1 no_more in
    let moves = c.in-Ok-false.ensures.moves clean_1 in
    let there : left_of (g.S.Store.view c.next.new.self) 1 ≡ left_of (g.S.Store.view c.rows.store) 1 = rw (moves.others 1 (omega arith)) refl in
    some_then told (λ n end. (end.0 ∙ done.2 ∙ ap length (sym all), at_end _ rows done.0 _ _ _ done.1 no_more done.3 (sym there ∙ end.1))) (ends clean)) c.count_if_ended.ensures.told

pub rows-preserved : goal.rows-preserved
rows-preserved g c =
    let old = g.S.Store.view c.args.store.now in (
      search rules,
      search rules,
      search rules,
      still_quiet (still_quiet c.rows.invariant.3 c.next.ensures.quiet) c.next_is_of.ensures.looks.quiet,
      (λ clean.
          let row = c.next.new.row in
          let entry = entry_of c.args.columns.now in
          let clean_1 : IsClean (g.S.Store.view c.next.new.self) = omega (arith, clean, c.next_is_of.ensures.looks.quiet.clean) in
          let clean_0 : IsClean (g.S.Store.view c.rows.store) = omega (arith, clean_1, c.next.ensures.quiet.clean) in
          let done = c.rows.invariant.4 clean_0 in
          let split = done.1 ∙ ap (λ l. done.0 ++ l) (lemma.stepped _ _ 0 row (rw c.in-Ok-true.field-0-test at (c.in-Ok-true.ensures.ok clean_1))) in
          let moves = c.in-Ok-true.ensures.moves clean_1 in
          let more : c.in_ok-count.count ≡ c.rows.count + 1 = search rules in
          let long : length (done.0 ++ row ∷ []) ≡ length done.0 + 1 = length-append done.0 (row ∷ []) in
          let left : left_of (g.S.Store.view c.next.new.self) 1 ≡ left_of (g.S.Store.view c.rows.store) 1 = rw (moves.others 1 (omega arith)) refl in
          let stays = c.in_ok-next_is_of.ensures.others clean 0 (omega arith) in
          let next = sym left ∙ c.in_ok-next_is_of.ensures.told clean c.if-not-branch.false in (
            done.0 ++ row ∷ [],
            rw stays (split ∙ sym (append_assoc done.0 (row ∷ []) _)),
            more ∙ ap (λ n. n + 1) done.2 ∙ sym long,
            ap (λ l. l ++ left_of (g.S.Store.view c.next_is_of.new.store) 1) (map-append entry done.0 (row ∷ [])) ∙ append_assoc (map entry done.0) (entry row ∷ []) _ ∙ ap (λ l. map entry done.0 ++ l) (sym next) ∙ done.3,
          )),
    )

pub returns-in_err-next_is_of-clause-looks : goal.returns-in_err-next_is_of-clause-looks
returns-in_err-next_is_of-clause-looks g c = record { reads = search rules; quiet = still_quiet (still_quiet c.rows.invariant.3 c.next.ensures.quiet) c.next_is_of.ensures.looks.quiet }

pub returns-then-not-branch-clause-looks : goal.returns-then-not-branch-clause-looks
returns-then-not-branch-clause-looks g c = record { reads = search rules; quiet = still_quiet (still_quiet c.rows.invariant.3 c.next.ensures.quiet) c.next_is_of.ensures.looks.quiet }
