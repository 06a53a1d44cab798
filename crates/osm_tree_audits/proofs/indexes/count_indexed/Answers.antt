use Rattle.std.proofs.Common.{rules, arith, ◌≡◌, ◌∙◌, false, sym, ap, subst}
use Rattle.sqlite_trees.specs.declared.store.Shape.TheVariants.{Table}
use Rattle.sqlite_trees.specs.View.{View, IsClean, IsShaped}
use Rattle.sqlite_exec.proofs.CheckLemmas as lemma
use Rattle.osm_tree_audits.proofs.indexes.count_indexed.Goals as goal

pub returns-in_default-clause-told : goal.returns-in_default-clause-told
returns-in_default-clause-told g c clean =
    let lacks = rw c.in_default.is at (c.in_ok-rows.ensures.told clean) in
    λ complete. lacks (lemma.each_if_complete _ _ _ complete)

pub returns-then-rows-entries-clause-told : goal.returns-then-rows-entries-clause-told
returns-then-rows-entries-clause-told g c clean complete =
    let old = g.S.Store.view c.args.store.now in
    let clean_1 : IsClean (g.S.Store.view c.count_entered.new.store) = omega (arith, clean, c.count.ensures.looks.quiet.clean) in
    let counted = rw c.in-Some.is at (c.in_ok-rows.ensures.told clean_1) in
    let kept = c.count_entered.ensures.looks.reads clean_1 (c.in_ok-rows.ensures.sound clean_1) in
    let same : (g.S.Store.view c.count_entered.new.store).trees ≡ old.trees = ap (λ (v : View). v.trees) kept in
    let entries = rw same at (c.in_ok-entries.ensures.count clean) in
    c.if-rows-entries.true (counted.0 ∙ lemma.count_if_complete _ _ _ complete ∙ sym entries)

pub returns-clause-told : goal.returns-clause-told
returns-clause-told g c clean =
    let old = g.S.Store.view c.args.store.now in
    let clean_1 : IsClean (g.S.Store.view c.count_entered.new.store) = omega (arith, clean, c.count.ensures.looks.quiet.clean) in
    let counted = rw c.in-Some.is at (c.in_ok-rows.ensures.told clean_1) in
    let kept = c.count_entered.ensures.looks.reads clean_1 (c.in_ok-rows.ensures.sound clean_1) in
    let up : old.is_broken ≡ false = sym (ap (λ (v : View). v.is_broken) kept) ∙ c.in_ok-rows.ensures.sound clean_1 in
    let same : (g.S.Store.view c.count_entered.new.store).trees ≡ old.trees = ap (λ (v : View). v.trees) kept in
    let entries = rw same at (c.in_ok-entries.ensures.count clean) in
    let shape : old.shape c.args.table ≡ Table = search rules in
    let table = subst (λ s. IsShaped s (old.trees c.args.table)) shape (g.met.S.Store.ordered c.args.store.now up c.args.table) in
    (counted.0, lemma.complete_if _ _ _ table.0 counted.1 (sym counted.0 ∙ c.if-rows-entries.false ∙ entries))
