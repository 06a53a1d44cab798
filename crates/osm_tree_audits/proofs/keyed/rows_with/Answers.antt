use Rattle.std.proofs.Common.{rules, arith, ◌≡◌, ◌∙◌, ◌++◌, map, sym, ap, subst, append-nil}
use Rattle.sqlite_trees.specs.declared.store.Shape.TheVariants.{Table, Index}
use Rattle.sqlite_trees.specs.View.{View, IsClean, IsShaped}
use Rattle.sqlite_rules.proofs.ViewLemmas.{still_quiet}
use Rattle.sqlite_value.specs.Keys.{plain}
use Rattle.osm_tree_audits.specs.Walking.{reached}
use Rattle.osm_tree_audits.proofs.Looking.{up_before}
use Rattle.osm_tree_audits.proofs.Reaching.{begins_with, one_shown}
use Rattle.osm_tree_audits.proofs.keyed.rows_with.Goals as goal

pub rows-init : goal.rows-init
rows-init g c = (
  search rules,
  search rules,
  search rules,
  search rules,
  λ clean.
      let old = g.S.Store.view c.args.store.now in
      let new = g.S.Store.view c.begin_walk.new.store in
      let gives = g.R.FromRow.from_row_gives in
      let trees : new.trees ≡ old.trees = ap (λ (v : View). v.trees) (c.begin_walk.ensures.looks.reads clean (c.in_ok-begin_walk.ensures.ready.sound clean)) in
      let all = begins_with old new c.args.index c.args.table c.args.width c.args.key.now trees (c.in_ok-begin_walk.ensures.placed clean) in
      (c.in_ok-begin_walk.ensures.walk clean, rw c.new-rows.ensures.items (ap (map gives) all)),
)

pub returns-then-not-branch-clause-rows : goal.returns-then-not-branch-clause-rows
returns-then-not-branch-clause-rows g c clean =
    let old = g.S.Store.view c.args.store.now in
    let gives = g.R.FromRow.from_row_gives in
    let table : old.shape c.args.table ≡ Table = search rules in
    let order : old.shape c.args.index ≡ Index plain = search rules in
    let clean_0 : IsClean (g.S.Store.view c.rows.store) = omega (arith, clean, c.next_row.ensures.looks.quiet.clean) in
    let kept = c.rows.invariant.2 clean_0 in
    let sorted = g.met.S.Store.ordered c.args.store.now (up_before old (g.S.Store.view c.rows.store) kept.0 kept.1) in
    let here = c.rows.invariant.4 clean_0 in
    let none = rw c.if-not-branch.true at (c.in_ok-next_row.ensures.told clean here.0) in
    record {
      shaped = subst (λ s. IsShaped s (old.trees c.args.table)) table (sorted c.args.table);
      ordered = subst (λ s. IsShaped s (old.trees c.args.index)) order (sorted c.args.index);
      are = sym (append-nil c.rows.rows.items) ∙ ap (λ l. c.rows.rows.items ++ map gives l) (sym none) ∙ here.1;
    }

pub rows-preserved : goal.rows-preserved
rows-preserved g c = (
  search rules,
  search rules,
  search rules,
  still_quiet c.rows.invariant.3 c.next_row.ensures.looks.quiet,
  λ clean.
      let gives = g.R.FromRow.from_row_gives in
      let new = reached (g.S.Store.view c.next_row.new.store) c.args.table c.args.width c.args.key.now in
      let clean_0 : IsClean (g.S.Store.view c.rows.store) = omega (arith, clean, c.next_row.ensures.looks.quiet.clean) in
      let here = c.rows.invariant.4 clean_0 in
      let next = rw c.if-not-branch.false at (c.in_ok-next_row.ensures.told clean here.0) in
      let shown = c.in_ok-from_row.ensures ∙ ap gives c.in_ok-copy_columns.ensures in
      (c.in_ok-next_row.ensures.walk clean here.0, one_shown gives _ _ _ _ c.next_row.new.row _ new c.in_ok-push.ensures.items shown next here.1),
)

pub returns-in_err-push-clause-looks : goal.returns-in_err-push-clause-looks
returns-in_err-push-clause-looks g c = record { reads = search rules; quiet = still_quiet c.rows.invariant.3 c.next_row.ensures.looks.quiet }

pub returns-in_err-copy_columns-clause-looks : goal.returns-in_err-copy_columns-clause-looks
returns-in_err-copy_columns-clause-looks g c = record { reads = search rules; quiet = still_quiet c.rows.invariant.3 c.next_row.ensures.looks.quiet }

pub returns-in_err-from_row-clause-looks : goal.returns-in_err-from_row-clause-looks
returns-in_err-from_row-clause-looks g c = record { reads = search rules; quiet = still_quiet c.rows.invariant.3 c.next_row.ensures.looks.quiet }
