use Rattle.std.proofs.Common.{rules, arith, ◌≡◌, ◌∙◌, [], ◌∷◌, ◌++◌, map, take, drop, sym, ap, append_assoc}
use Rattle.std.proofs.lemmas.Bool.{iff_false}
use Rattle.std.proofs.lemmas.List.{take_all}
use Rattle.sqlite.specs.Values.{bound}
use Rattle.sqlite_trees.specs.View.{IsClean}
use Rattle.sqlite_rules.proofs.ViewLemmas.{still_quiet}
use Rattle.osm_tree_audits.specs.Walking.{reached_by}
use Rattle.osm_tree_audits.proofs.Reaching.{too_few, with_next, other}
use Rattle.osm_tree_audits.proofs.matching.finds_next.Goals as goal

pub returns-then-not-branch-clause-told : goal.returns-then-not-branch-clause-told
returns-then-not-branch-clause-told g c clean walk left same =
    let f = g.R.TableRow.columns in
    let clean_0 : IsClean (g.S.Store.view c.loop-at.store) = omega (arith, clean, c.next_by.ensures.looks.quiet.clean) in
    let here = c.loop-at.invariant.4 clean_0 walk in
    let none = rw c.if-not-branch.true at (c.in_ok-next_by.ensures.told clean here.0) in
    too_few f c.args.expected.now c.loop-at.at c.loop-at-test.true left (ap (λ l. map f (take c.loop-at.at c.args.expected.now) ++ l) (sym none) ∙ sym here.1 ∙ same)

pub returns-then-not-has_values-clause-told : goal.returns-then-not-has_values-clause-told
returns-then-not-has_values-clause-told g c clean walk left same =
    let f = g.R.TableRow.columns in
    let x = c.index-expected-at.result in
    let clean_0 : IsClean (g.S.Store.view c.loop-at.store) = omega (arith, clean, c.next_by.ensures.looks.quiet.clean) in
    let here = c.loop-at.invariant.4 clean_0 walk in
    let next = rw c.if-not-branch.false at (c.in_ok-next_by.ensures.told clean here.0) in
    let columns : bound c.deref.result.now ≡ f x = ap bound c.deref.ensures.value ∙ (rw c.clear.ensures.items at c.in_ok-push_values.ensures.pushed) in
    let differ = λ (same : drop 1 c.next_by.new.row ≡ f x). iff_false c.has_values.ensures c.if-not-has_values.true (same ∙ sym columns) in
    other f c.args.expected.now c.loop-at.at c.loop-at-test.true x _ c.index-expected-at.is (drop 1 c.next_by.new.row) _ left differ
    (ap (λ l. map f (take c.loop-at.at c.args.expected.now) ++ l) (sym next) ∙ sym here.1 ∙ same)

pub loop-at-preserved : goal.loop-at-preserved
loop-at-preserved g c = (
  search rules,
  search rules,
  search rules,
  still_quiet c.loop-at.invariant.3 c.next_by.ensures.looks.quiet,
  (λ clean walk.
      let f = g.R.TableRow.columns in
      let x = c.index-expected-at.result in
      let xs = c.args.expected.now in
      let at = c.loop-at.at in
      let new = reached_by c.args.way (g.S.Store.view c.next_by.new.store) c.args.of c.args.key.now in
      let clean_0 : IsClean (g.S.Store.view c.loop-at.store) = omega (arith, clean, c.next_by.ensures.looks.quiet.clean) in
      let here = c.loop-at.invariant.4 clean_0 walk in
      let next = rw c.if-not-branch.false at (c.in_ok-next_by.ensures.told clean here.0) in
      let columns : bound c.deref.result.now ≡ f x = ap bound c.deref.ensures.value ∙ (rw c.clear.ensures.items at c.in_ok-push_values.ensures.pushed) in
      let same : drop 1 c.next_by.new.row ≡ f x = c.has_values.ensures.0 c.if-not-has_values.false ∙ columns in (
        c.in_ok-next_by.ensures.walk clean here.0,
        here.1 ∙ ap (λ l. map f (take at xs) ++ l) (next ∙ ap (λ r. r ∷ new) same) ∙ sym (append_assoc (map f (take at xs)) (f x ∷ []) new) ∙ ap (λ l. l ++ new) (sym (with_next f xs at c.loop-at-test.true x _ c.index-expected-at.is)),
      )),
)

pub returns-clause-told : goal.returns-clause-told
returns-clause-told g c clean walk =
    let xs = c.args.expected.now in
    let here = c.loop-at.invariant.4 clean walk in
    here.1 ∙ ap (λ l. map g.R.TableRow.columns l ++ reached_by c.args.way (g.S.Store.view c.loop-at.store) c.args.of c.args.key.now) (take_all c.loop-at.at xs (omega (arith, c.loop-at-test.false)))
