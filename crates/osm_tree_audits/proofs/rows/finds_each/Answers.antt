use Rattle.std.proofs.Common.{◌≡◌, ◌++◌, ◌+◌, ◌-◌, IsTrue, length, true≢false, ◌∙◌, ap, refl, sym, subst, rules, arith, append_assoc}
use Rattle.std.specs.Prelude.{◌↔◌}
use Rattle.std.proofs.lemmas.Bool.Decides.{nat_tests}
use Rattle.std.proofs.lemmas.List.{length-append}
use Rattle.sqlite_trees.specs.View.{IsClean}
use Rattle.sqlite_rules.proofs.ViewLemmas.{still_quiet}
use Rattle.osm_rows.specs.Rows.{placed}
use Rattle.osm_rows.proofs.AuditLemmas.Telling.{ok_told}
use Rattle.osm_tree_audits.specs.ElementTables.{rows_in}
use Rattle.osm_tree_audits.specs.Walking.{reached_by}
use Rattle.osm_tree_audits.proofs.InParts.{no_rows, more_found, not_found, all_found, all_done}
use Rattle.osm_tree_audits.proofs.rows.finds_each.Goals as goal

pub loop-rest-init : goal.loop-rest-init
loop-rest-init g c =
    let of = c.args.of in
    let now = reached_by c.args.way (g.S.Store.view c.args.store.now) of c.args.key.now in
    let done = c.split_at.result.0.now in
    let none : length done ≡ 0 = c.split_at.ensures.front_len in (
      done,
      record {
        whole = c.split_at.ensures.by_index.0;
        entries = c.requires.ready.entries;
        rows = c.requires.ready.rows;
        reads = λ clean. (refl, c.requires.ready.sound clean);
        quiet = search rules;
        found = λ clean walk. (walk, ap (λ l. l ++ now) (sym (no_rows of c.args.off done none)));
      },
    )

pub loop-rest-preserved : goal.loop-rest-preserved
loop-rest-preserved g c =
    let done = c.loop-rest.invariant.0 in
    let it = c.loop-rest.invariant.1 in
    let rest = c.loop-rest.rest.now in
    let some = c.split_at-in-loop-rest.result.0.now in
    let after = c.split_at-in-loop-rest.result.1.now in
    let split = c.split_at-in-loop-rest.ensures.by_index.0 in
    let lengths : length c.args.elements.now ≡ length done + length rest = ap length it.whole ∙ length-append done rest in
    let first : length c.args.elements.now - length rest ≡ 0 + length done = omega (arith, lengths) in (
      done ++ some,
      record {
        whole = it.whole ∙ ap (λ l. done ++ l) split ∙ sym (append_assoc done some after);
        entries = search rules;
        rows = search rules;
        reads = search rules;
        quiet = still_quiet it.quiet c.finds_some.ensures.looks.quiet;
        found = λ clean walk.
            let clean_0 : IsClean (g.S.Store.view c.loop-rest.store) = omega (arith, clean, c.finds_some.ensures.looks.quiet.clean) in
            let here = it.found clean_0 walk in
            let next = rw (first, c.if-not-branch.false) at (c.in_ok-finds_some.ensures.told clean here.0) in
            (c.in_ok-finds_some.ensures.walk clean here.0, more_found c.args.of c.args.off done some _ _ _ here.1 next);
      },
    )

pub returns-then-not-branch-clause-told : goal.returns-then-not-branch-clause-told
returns-then-not-branch-clause-told g c clean walk =
    let done = c.loop-rest.invariant.0 in
    let it = c.loop-rest.invariant.1 in
    let rest = c.loop-rest.rest.now in
    let some = c.split_at-in-loop-rest.result.0.now in
    let after = c.split_at-in-loop-rest.result.1.now in
    let split = c.split_at-in-loop-rest.ensures.by_index.0 in
    let lengths : length c.args.elements.now ≡ length done + length rest = ap length it.whole ∙ length-append done rest in
    let first : length c.args.elements.now - length rest ≡ 0 + length done = omega (arith, lengths) in
    let clean_0 : IsClean (g.S.Store.view c.loop-rest.store) = omega (arith, clean, c.finds_some.ensures.looks.quiet.clean) in
    let here = it.found clean_0 walk in
    let other = rw (first, c.if-not-branch.true) at (c.in_ok-finds_some.ensures.told clean here.0) in
    let all : c.args.elements.now ≡ done ++ (some ++ after) = it.whole ∙ ap (λ l. done ++ l) split in
    ((λ no. absurd (true≢false (sym no))), λ same. absurd (not_found c.args.of c.args.off done some after _ _ here.1 other (same ∙ ap (λ es. rows_in c.args.of (placed c.args.off 0 es)) all)))

pub returns-clause-told : goal.returns-clause-told
returns-clause-told g c =
    let of = c.args.of in
    let it = c.loop-rest.invariant.1 in
    let old = g.S.Store.view c.args.store.now in
    let now = g.S.Store.view c.loop-rest.store in
    let none : length c.loop-rest.rest.now ≡ 0 = grind (arith, nat_tests) in
    let whole = all_done c.loop-rest.rest.now c.loop-rest.invariant.0 c.args.elements.now none it.whole in
    ok_told c.finds_no_more.result (λ b told clean walk.
    let clean_0 : IsClean now = omega (arith, clean, c.finds_no_more.ensures.looks.quiet.clean) in
    let here = it.found clean_0 walk in
    subst (λ es. IsTrue b ↔ (reached_by c.args.way old of c.args.key.now ≡ rows_in of (placed c.args.off 0 es))) (sym whole) (all_found _ _ _ here.1 (told clean here.0))) c.finds_no_more.ensures.told
