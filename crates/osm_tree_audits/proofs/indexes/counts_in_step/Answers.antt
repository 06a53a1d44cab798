use Rattle.std.proofs.Common.{rules, arith, ◌≡◌, ◌+◌, ◌∙◌, [], ◌∷◌, ◌++◌, length, length-append, refl, sym, ap, append_assoc}
use Rattle.sqlite_trees.specs.View.{IsClean}
use Rattle.sqlite_exec.specs.Loops.{left_of}
use Rattle.sqlite_exec.proofs.CheckLemmas as lemma
use Rattle.sqlite_rules.proofs.ViewLemmas.{still_quiet}
use Rattle.osm_tree_audits.proofs.InStep.{one_more, at_end, all_done, ok_then, some_then}
use Rattle.osm_tree_audits.proofs.indexes.counts_in_step.Goals as goal

pub rows-init : goal.rows-init
rows-init g c = (
  search rules,
  search rules,
  search rules,
  search rules,
  search rules,
  (λ clean.
      let clean_2 : IsClean (g.S.Store.view c.seek-2.new.self) = omega (arith, clean, c.seek-3.ensures.quiet.clean) in
      let clean_1 : IsClean (g.S.Store.view c.seek.new.self) = omega (arith, clean_2, c.seek-2.ensures.quiet.clean) in (
        [],
        rw (c.in_default-seek-2.ensures.ok clean, c.in_default-seek.ensures.ok clean_2, c.in_default.ensures.ok clean_1, c.new-row.ensures, lemma.from_no_key) refl,
        refl,
        (λ so. rw (c.in_default-seek-2.ensures.ok clean, c.in_default-seek.ensures.ok clean_2, c.in_default.ensures.ok clean_1, c.new-row.ensures, lemma.from_no_key) refl),
        (λ so. rw (c.in_default-seek-2.ensures.ok clean, c.in_default-seek.ensures.ok clean_2, c.in_default.ensures.ok clean_1, c.new-row.ensures, lemma.from_no_key) refl),
      )),
)

pub returns-in-Ok-false-clause-told : goal.returns-in-Ok-false-clause-told
returns-in-Ok-false-clause-told g c =
    let old = g.S.Store.view c.args.store.now in
    let rows = old.trees c.args.table in
    ok_then c.counts_at_end.result (λ told ends clean.
    let clean_1 : IsClean (g.S.Store.view c.next.new.self) = omega (arith, clean, c.counts_at_end.ensures.looks.quiet.clean) in
    let clean_0 : IsClean (g.S.Store.view c.rows.store) = omega (arith, clean_1, c.next.ensures.quiet.clean) in
    let done = c.rows.invariant.5 clean_0 in
    let no_more = lemma.ended _ _ 0 c.next.new.row (rw c.in-Ok-false.field-0-test at (c.in-Ok-false.ensures.ok clean_1)) in
    let all = all_done rows done.0 _ done.1 no_more in
    let moves = c.in-Ok-false.ensures.moves clean_1 in
    let one_there : left_of (g.S.Store.view c.next.new.self) 1 ≡ left_of (g.S.Store.view c.rows.store) 1 = rw (moves.others 1 (omega arith)) refl in
    let other_there : left_of (g.S.Store.view c.next.new.self) 2 ≡ left_of (g.S.Store.view c.rows.store) 2 = rw (moves.others 2 (omega arith)) refl in (
      some_then told.0 (λ n end. (end.0 ∙ done.2 ∙ ap length (sym all), at_end _ rows done.0 _ _ _ done.1 no_more (done.3 end.1) (sym one_there ∙ end.2))) (ends clean).0,
      some_then told.1 (λ n end. (end.0 ∙ done.2 ∙ ap length (sym all), at_end _ rows done.0 _ _ _ done.1 no_more (done.4 end.1) (sym other_there ∙ end.2))) (ends clean).1,
    )) c.counts_at_end.ensures.told

pub returns-in-Ok-false-clause-looks : goal.returns-in-Ok-false-clause-looks
returns-in-Ok-false-clause-looks g c = record { reads = search rules; quiet = still_quiet (still_quiet c.rows.invariant.4 c.next.ensures.quiet) c.counts_at_end.ensures.looks.quiet }

pub returns-in_err-other_in_step-clause-looks : goal.returns-in_err-other_in_step-clause-looks
returns-in_err-other_in_step-clause-looks g c = record { reads = search rules; quiet = still_quiet (still_quiet (still_quiet c.rows.invariant.4 c.next.ensures.quiet) c.goes_on.ensures.looks.quiet) c.goes_on-in-rows.ensures.looks.quiet }

pub returns-then-not-other_in_step-clause-looks : goal.returns-then-not-other_in_step-clause-looks
returns-then-not-other_in_step-clause-looks g c = record { reads = search rules; quiet = still_quiet (still_quiet (still_quiet c.rows.invariant.4 c.next.ensures.quiet) c.goes_on.ensures.looks.quiet) c.goes_on-in-rows.ensures.looks.quiet }

pub rows-preserved : goal.rows-preserved
rows-preserved g c =
    let old = g.S.Store.view c.args.store.now in (
      search rules,
      search rules,
      search rules,
      search rules,
      still_quiet (still_quiet (still_quiet c.rows.invariant.4 c.next.ensures.quiet) c.goes_on.ensures.looks.quiet) c.goes_on-in-rows.ensures.looks.quiet,
      (λ clean.
          let row = c.next.new.row in
          let clean_2 : IsClean (g.S.Store.view c.goes_on.new.store) = omega (arith, clean, c.goes_on-in-rows.ensures.looks.quiet.clean) in
          let clean_1 : IsClean (g.S.Store.view c.next.new.self) = omega (arith, clean_2, c.goes_on.ensures.looks.quiet.clean) in
          let clean_0 : IsClean (g.S.Store.view c.rows.store) = omega (arith, clean_1, c.next.ensures.quiet.clean) in
          let done = c.rows.invariant.5 clean_0 in
          let split = done.1 ∙ ap (λ l. done.0 ++ l) (lemma.stepped _ _ 0 row (rw c.in-Ok-true.field-0-test at (c.in-Ok-true.ensures.ok clean_1))) in
          let moves = c.in-Ok-true.ensures.moves clean_1 in
          let one_there : left_of (g.S.Store.view c.next.new.self) 1 ≡ left_of (g.S.Store.view c.rows.store) 1 = rw (moves.others 1 (omega arith)) refl in
          let other_there : left_of (g.S.Store.view c.next.new.self) 2 ≡ left_of (g.S.Store.view c.rows.store) 2 = rw (moves.others 2 (omega arith)) refl in
          let one_moves = c.in_ok-one_in_step.ensures.others clean_2 in
          let other_moves = c.in_ok-other_in_step.ensures.others clean in
          let more : c.in_ok-count.count ≡ c.rows.count + 1 = search rules in
          let long : length (done.0 ++ row ∷ []) ≡ length done.0 + 1 = length-append done.0 (row ∷ []) in
          let rows_left : left_of (g.S.Store.view c.goes_on-in-rows.new.store) 0 ≡ left_of (g.S.Store.view c.next.new.self) 0 = rw (other_moves 0 (omega arith), one_moves 0 (omega arith)) refl in
          let one_left : left_of (g.S.Store.view c.goes_on-in-rows.new.store) 1 ≡ left_of (g.S.Store.view c.goes_on.new.store) 1 = rw (other_moves 1 (omega arith)) refl in
          let other_left : left_of (g.S.Store.view c.goes_on.new.store) 2 ≡ left_of (g.S.Store.view c.next.new.self) 2 = rw (one_moves 2 (omega arith)) refl in (
            done.0 ++ row ∷ [],
            split ∙ sym (append_assoc done.0 (row ∷ []) _) ∙ ap (λ l. (done.0 ++ row ∷ []) ++ l) (sym rows_left),
            more ∙ ap (λ n. n + 1) done.2 ∙ sym long,
            (λ so.
                let told = c.in_ok-one_in_step.ensures.told clean_2 so in
                one_more _ done.0 _ _ _ _ row (done.3 told.0) (sym one_there ∙ told.1) one_left),
            (λ so.
                let told = c.in_ok-other_in_step.ensures.told clean so in
                one_more _ done.0 _ _ _ _ row (done.4 told.0) (sym other_there ∙ sym other_left ∙ told.1) refl),
          )),
    )

pub returns-in_err-count-clause-looks : goal.returns-in_err-count-clause-looks
returns-in_err-count-clause-looks g c = record { reads = search rules; quiet = still_quiet (still_quiet (still_quiet c.rows.invariant.4 c.next.ensures.quiet) c.goes_on.ensures.looks.quiet) c.goes_on-in-rows.ensures.looks.quiet }
