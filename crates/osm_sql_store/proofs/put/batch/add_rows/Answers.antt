use Rattle.std.proofs.Common.{◌≡◌, List, [], ◌∷◌, ◌++◌, map, length, rules, refl, ◌∙◌, sym, ap, subst, arith, append-nil, append_assoc}
use Rattle.std.proofs.lemmas.Bool.Decides.{nat_tests}
use Rattle.std.proofs.lemmas.List.{map-append}
use Rattle.sqlite.specs.Order.{Row}
use Rattle.sqlite.specs.Held.{state}
use Rattle.osm_rows.specs.declared.schema.layout.Layout.TheVariants.{Tables}
use Rattle.osm_sql_store.specs.Put.Steps.{AddsRows}
use Rattle.osm_sql_store.proofs.PutLemmas.RowSteps.{no_rows, rows_more}
use Rattle.osm_sql_store.proofs.StepLemmas.{clean_at, stays, goes_on_then}
use Rattle.osm_sql_store.proofs.put.batch.add_rows.Goals as goal

pub loop-rest-init : goal.loop-rest-init
loop-rest-init g c =
    let start = state g.S.Store c.args.transaction.now.conn.now in (
      [],
      record {
        whole = refl;
        goes_on = stays g.S.Store c.args.transaction.now.conn;
        inside = λ clean inside. inside;
        added = λ clean over. no_rows Tables g.R.InsertedRow.tree start over;
      },
    )

pub loop-rest-preserved : goal.loop-rest-preserved
loop-rest-preserved g c =
    let start = state g.S.Store c.args.transaction.now.conn.now in
    let now = c.loop-rest.transaction.conn in
    let next = c.add_batch.new.transaction.conn in
    let columns = g.R.TableRow.columns in
    let it = c.loop-rest.invariant.1 in
    let done = c.loop-rest.invariant.0 in
    let chunk = map columns c.split_at.result.0.now in
    let rest = map columns c.split_at.result.1.now in
    let step = c.in_ok-add_batch.ensures.step in
    let before = clean_at g.S.Store now next step.goes_on in (
      done ++ chunk,
      record {
        whole = it.whole ∙ ap (λ l. done ++ l) (ap (map columns) c.split_at.ensures.by_index.0 ∙ map-append columns c.split_at.result.0.now c.split_at.result.1.now) ∙ sym (append_assoc done chunk rest);
        goes_on = goes_on_then g.S.Store c.args.transaction.now.conn now next it.goes_on step.goes_on;
        inside = λ clean inside. step.inside clean (it.inside (before clean) inside);
        added = λ clean over.
            let added = it.added (before clean) over in
            rows_more Tables g.R.InsertedRow.tree start (state g.S.Store now.now) (state g.S.Store next.now) done chunk added (c.in_ok-add_batch.ensures.added clean added.over);
      },
    )

pub returns-in_err-add_batch-clause-step : goal.returns-in_err-add_batch-clause-step
returns-in_err-add_batch-clause-step g c = record {
  goes_on = goes_on_then g.S.Store c.args.transaction.now.conn c.loop-rest.transaction.conn c.add_batch.new.transaction.conn c.loop-rest.invariant.1.goes_on c.add_batch.ensures.step.goes_on;
  inside = search rules;
  ours = search (rules, c.add_batch.ensures.step.ours);
}

pub returns-clause-step : goal.returns-clause-step
returns-clause-step g c = record { goes_on = c.loop-rest.invariant.1.goes_on; inside = c.loop-rest.invariant.1.inside; ours = search rules }

-- once no row is left, all are added
all_done : {X : Type 0} (columns : X → Row) (rest : List X) (done all : List Row) → length rest ≡ 0 → all ≡ done ++ map columns rest → all ≡ done
all_done columns [] done all none whole = rw append-nil at whole
all_done columns (x ∷ rest) done all none whole = absurd (omega arith)

pub returns-clause-added : goal.returns-clause-added
returns-clause-added g c clean over =
    let it = c.loop-rest.invariant.1 in
    let columns = g.R.TableRow.columns in
    let none : length c.loop-rest.rest.now ≡ 0 = grind (arith, nat_tests) in
    let whole = all_done columns c.loop-rest.rest.now c.loop-rest.invariant.0 _ none it.whole in
    subst (AddsRows Tables g.R.InsertedRow.tree (state g.S.Store c.args.transaction.now.conn.now) (state g.S.Store c.loop-rest.transaction.conn.now)) (sym whole) (it.added clean over)
