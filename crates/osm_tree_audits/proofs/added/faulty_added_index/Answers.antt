use Rattle.std.proofs.Common.{rules, arith, ◌≡◌, ◌∙◌, ◌≤◌, length, sym, ap, subst}
use Rattle.std.proofs.lemmas.Bool.{iff_false}
use Rattle.std.proofs.lemmas.List.{drop_all}
use Rattle.std.proofs.lemmas.Option.{get_or_from_slice_get}
use Rattle.sqlite_trees.specs.View.{View, IsClean}
use Rattle.sqlite_rules.proofs.ViewLemmas.{still_quiet}
use Rattle.osm_tree_writes.proofs.AppendLemmas.{next_index}
use Rattle.osm_tree_audits.specs.Indexes.{AreWhole, IsWholeAdded}
use Rattle.osm_tree_audits.proofs.added.faulty_added_index.Goals as goal

pub loop-at-preserved : goal.loop-at-preserved
loop-at-preserved g c =
    let old = g.S.Store.view c.args.store.now in
    let more = c.args.indexes.now in
    let at = c.loop-at.at in (
      search rules,
      still_quiet c.loop-at.invariant.1 c.is_indexed.ensures.looks.quiet,
      (λ clean left.
          let clean_0 : IsClean (g.S.Store.view c.loop-at.store) = omega (arith, clean, c.is_indexed.ensures.looks.quiet.clean) in
          let same : (g.S.Store.view c.loop-at.store).trees ≡ old.trees = ap (λ (v : View). v.trees) (c.loop-at.invariant.0 clean_0).0 in
          let whole = (rw (same, c.as_slice-columns.ensures) at (c.in_ok-is_indexed.ensures.told clean)).0 c.if-not-branch.false in
          let split = next_index more at c.index-indexes-at.result c.loop-at-test.true c.index-indexes-at.is in
          c.loop-at.invariant.2 clean_0 (subst (AreWhole old.trees) (sym split) (whole, left))),
    )

pub returns-then-not-branch-clause-told : goal.returns-then-not-branch-clause-told
returns-then-not-branch-clause-told g c clean index there whole =
    let old = g.S.Store.view c.args.store.now in
    let clean_0 : IsClean (g.S.Store.view c.loop-at.store) = omega (arith, clean, c.is_indexed.ensures.looks.quiet.clean) in
    let same : (g.S.Store.view c.loop-at.store).trees ≡ old.trees = ap (λ (v : View). v.trees) (c.loop-at.invariant.0 clean_0).0 in
    let it : c.index-indexes-at.result ≡ index = c.index-indexes-at.is ∙ get_or_from_slice_get c.args.indexes.now c.loop-at.at index c.index-indexes-at.result there in
    iff_false (rw (same, c.as_slice-columns.ensures) at (c.in_ok-is_indexed.ensures.told clean)) c.if-not-branch.true (subst (IsWholeAdded old.trees) (sym it) whole)

pub returns-clause-told : goal.returns-clause-told
returns-clause-told g c clean =
    let old = g.S.Store.view c.args.store.now in
    let past : length c.args.indexes.now ≤ c.loop-at.at = omega (arith, c.loop-at-test.false) in
    c.loop-at.invariant.2 clean (subst (AreWhole old.trees) (sym (drop_all c.loop-at.at c.args.indexes.now past)) tt)
