use Rattle.std.proofs.Common.{rules, arith, ◌≡◌, ◌∙◌, [], ◌∷◌, ◌++◌, All, FitsSigned, to_z, of_z, w64, append-nil, append_assoc, refl, sym, ap, subst}
use Rattle.std.proofs.lemmas.Int.{to_z-of_z}
use Rattle.std.proofs.lemmas.List.Elements.{All-nil, All-push}
use Rattle.sqlite_value.specs.Order.{column}
use Rattle.sqlite_value.specs.declared.value.Value.TheVariants.{Int}
use Rattle.sqlite_trees.specs.View.{View, IsClean}
use Rattle.sqlite_exec.specs.Loops.{left_of}
use Rattle.sqlite_exec.proofs.CheckLemmas as lemma
use Rattle.sqlite_rules.proofs.ViewLemmas.{still_quiet}
use Rattle.osm_tree_audits.specs.ElementTables.{table_of}
use Rattle.osm_tree_audits.specs.Strays.{HasBlob}
use Rattle.osm_tree_audits.proofs.StrayRows.{any_next}
use Rattle.osm_tree_audits.proofs.strays.stray_in.Goals as goal

pub rows-init : goal.rows-init
rows-init g c =
    let old = g.S.Store.view c.args.store.now in (
      search rules,
      search rules,
      search rules,
      (λ clean. tt),
      (λ clean. ([], rw (c.in_default.ensures.ok clean, c.new-row.ensures, lemma.from_no_key, c.table.ensures) refl, All-nil (HasBlob old.trees))),
    )

pub returns-in-Ok-false-clause-told : goal.returns-in-Ok-false-clause-told
returns-in-Ok-false-clause-told g c clean =
    let old = g.S.Store.view c.args.store.now in
    let clean_0 : IsClean (g.S.Store.view c.rows.store) = omega (arith, clean, c.next.ensures.quiet.clean) in
    let done = c.rows.invariant.4 clean_0 in
    let none = lemma.ended _ _ 0 c.next.new.row (rw c.in-Ok-false.field-0-test at (c.in-Ok-false.ensures.ok clean)) in
    let all : old.trees (table_of c.args.of) ≡ done.0 = done.1 ∙ ap (λ l. done.0 ++ l) none ∙ append-nil done.0 in
    subst (All (HasBlob old.trees)) (sym all) done.2

pub returns-in-Some-clause-told : goal.returns-in-Some-clause-told
returns-in-Some-clause-told g c clean =
    let old = g.S.Store.view c.args.store.now in
    let row = c.next.new.row in
    let clean_1 : IsClean (g.S.Store.view c.next.new.self) = omega (arith, clean, c.stray_offset.ensures.looks.quiet.clean) in
    let clean_0 : IsClean (g.S.Store.view c.rows.store) = omega (arith, clean_1, c.next.ensures.quiet.clean) in
    let done = c.rows.invariant.4 clean_0 in
    let moves = c.in-Ok-true.ensures.moves clean_1 in
    let trees : (g.S.Store.view c.next.new.self).trees ≡ old.trees = ap (λ (v : View). v.trees) moves.same ∙ ap (λ (v : View). v.trees) (c.rows.invariant.1 clean_0).0 in
    let split = done.1 ∙ ap (λ l. done.0 ++ l) (lemma.stepped _ _ 0 row (rw c.in-Ok-true.field-0-test at (c.in-Ok-true.ensures.ok clean_1))) in
    let stray = (rw (trees, c.in-Some.is) at (c.in_ok-off.ensures.told clean)) (c.rows.invariant.3 clean_0) in
    let fits : FitsSigned w64 c.in-Some.off = search rules in
    let off : to_z w64 (of_z w64 c.in-Some.off) ≡ c.in-Some.off = to_z-of_z w64 _ fits in
    rw off (rw split (any_next (λ r. column r 1 ≡ Int c.in-Some.off) done.0 _ row stray.0), stray.1)

pub rows-preserved : goal.rows-preserved
rows-preserved g c =
    let old = g.S.Store.view c.args.store.now in (
      search rules,
      search rules,
      still_quiet (still_quiet c.rows.invariant.2 c.next.ensures.quiet) c.stray_offset.ensures.looks.quiet,
      (λ clean.
          let clean_1 : IsClean (g.S.Store.view c.next.new.self) = omega (arith, clean, c.stray_offset.ensures.looks.quiet.clean) in
          let clean_0 : IsClean (g.S.Store.view c.rows.store) = omega (arith, clean_1, c.next.ensures.quiet.clean) in
          let moves = c.in-Ok-true.ensures.moves clean_1 in
          let trees : (g.S.Store.view c.next.new.self).trees ≡ old.trees = ap (λ (v : View). v.trees) moves.same ∙ ap (λ (v : View). v.trees) (c.rows.invariant.1 clean_0).0 in
          (rw trees at (c.in_ok-off.ensures.held clean)) (c.rows.invariant.3 clean_0)),
      (λ clean.
          let row = c.next.new.row in
          let clean_1 : IsClean (g.S.Store.view c.next.new.self) = omega (arith, clean, c.stray_offset.ensures.looks.quiet.clean) in
          let clean_0 : IsClean (g.S.Store.view c.rows.store) = omega (arith, clean_1, c.next.ensures.quiet.clean) in
          let done = c.rows.invariant.4 clean_0 in
          let moves = c.in-Ok-true.ensures.moves clean_1 in
          let trees : (g.S.Store.view c.next.new.self).trees ≡ old.trees = ap (λ (v : View). v.trees) moves.same ∙ ap (λ (v : View). v.trees) (c.rows.invariant.1 clean_0).0 in
          let split = done.1 ∙ ap (λ l. done.0 ++ l) (lemma.stepped _ _ 0 row (rw c.in-Ok-true.field-0-test at (c.in-Ok-true.ensures.ok clean_1))) in
          let stays : left_of (g.S.Store.view c.stray_offset.new.store) 0 ≡ left_of (g.S.Store.view c.next.new.self) 0 = ap (λ v. left_of v 0) (c.in_ok-off.ensures.same clean) in
          let held = (rw (trees, c.in_default-2.is) at (c.in_ok-off.ensures.told clean)) (c.rows.invariant.3 clean_0) in (
            done.0 ++ row ∷ [],
            rw stays (split ∙ sym (append_assoc done.0 (row ∷ []) _)),
            All-push (HasBlob old.trees) done.0 row done.2 held,
          )),
    )
