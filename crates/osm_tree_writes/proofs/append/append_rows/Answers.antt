use Rattle.std.proofs.Common.{◌≡◌, ◌∙◌, ◌∷◌, ◌++◌, List, pos, ◌+ℤ◌, sym, ap, subst, rules, arith, FitsSigned, w64, to_z}
use Rattle.std.proofs.lemmas.Int.{to_z-of_z}
use Rattle.sqlite_value.specs.declared.value.Value.TheVariants.{Int}
use Rattle.sqlite_value.specs.declared.value.ValueRef.{ValueRef}
use Rattle.sqlite_value.specs.Order.{Row}
use Rattle.sqlite.specs.Values.{bound}
use Rattle.sqlite_trees.specs.Tree.{rowid}
use Rattle.sqlite_trees.specs.View.{View, IsClean}
use Rattle.osm_tree_writes.specs.Appending.{IsAfter}
use Rattle.osm_tree_writes.proofs.AppendLemmas.{after_more, appends_next, appends_nothing}
use Rattle.osm_tree_writes.proofs.append.append_rows.Goals as goal

pub returns-in_err-push_values-clause-harmless : goal.returns-in_err-push_values-clause-harmless
returns-in_err-push_values-clause-harmless g c = record { kept = search rules; schema = search rules; ours = search rules; quiet = search rules }

pub returns-in_err-make_row-clause-harmless : goal.returns-in_err-make_row-clause-harmless
returns-in_err-make_row-clause-harmless g c = record { kept = search rules; schema = search rules; ours = search rules; quiet = search rules }

pub returns-in_err-append_row-clause-harmless : goal.returns-in_err-append_row-clause-harmless
returns-in_err-append_row-clause-harmless g c = record { kept = search rules; schema = search rules; ours = search rules; quiet = search rules }

pub loop-written-init : goal.loop-written-init
loop-written-init g c = record {
  appended = λ clean.
      let fits : FitsSigned w64 c.in_ok-rowid.rowid = search rules in (
        appends_nothing c.args.table.now c.args.more.now (g.S.Store.view c.args.store.now) (g.S.Store.view c.next_rowid.new.store) (c.in_ok-rowid.ensures.sound clean) (c.in_ok-rowid.ensures.same clean),
        subst (λ n. IsAfter n ((g.S.Store.view c.next_rowid.new.store).trees c.args.table.now.tree)) (sym (to_z-of_z w64 c.in_ok-rowid.rowid fits)) (subst (λ (v : View). IsAfter c.in_ok-rowid.rowid (v.trees c.args.table.now.tree)) (sym (c.in_ok-rowid.ensures.same clean)) (c.in_ok-rowid.ensures.after clean)),
      );
  schema = search rules;
  quiet = search rules;
}

pub loop-written-preserved : goal.loop-written-preserved
loop-written-preserved g c = record {
  appended = λ clean.
      let table = c.args.table.now in
      let rows = c.args.rows.now in
      let written = c.written-item.result in
      let columns = g.R.TableRow.columns written in
      let id = to_z w64 c.loop-written.rowid-bits in
      let next = c.in-Some.next in
      let start = g.S.Store.view c.args.store.now in
      let old = g.S.Store.view c.loop-written.store in
      let new = g.S.Store.view c.append_row.new.store in
      let row = c.make_row.new.row in
      let clean_old : IsClean old = omega (arith, clean, c.append_row.ensures.harmless.quiet.clean) in
      let before = c.loop-written.invariant.appended clean_old in
      let values : bound c.deref.result.now ≡ columns = ap bound c.deref.ensures.value ∙ c.in_ok-push_values.ensures.pushed ∙ ap (λ (vs : List ValueRef). bound vs ++ columns) c.clear.ensures.items in
      let is : row ≡ Int id ∷ columns = subst (λ (r : Row). row ≡ Int id ∷ r) values c.in_ok-make_row.ensures in
      let step = c.in_ok-append_row.ensures.appended clean id columns is before.1 in
      let fits : FitsSigned w64 next = search rules in
      let up : next ≡ id +ℤ pos 1 = c.in-Some.ensures.1 in
      let after : IsAfter next (new.trees table.tree) = subst (IsAfter next) (sym step.1) (after_more id next row (old.trees table.tree) (ap rowid is) up before.1) in (
        appends_next g.R.TableRow.columns rows c.loop-written.written-index written table c.args.more.now start old new c.loop-written-test.true c.written-item.is before.0 step.0,
        subst (λ n. IsAfter n (new.trees table.tree)) (sym (to_z-of_z w64 next fits)) after,
      );
  schema = search rules;
  quiet = search rules;
}

pub returns-in_default-clause-harmless : goal.returns-in_default-clause-harmless
returns-in_default-clause-harmless g c = record { kept = search rules; schema = search rules; ours = search rules; quiet = search rules }
