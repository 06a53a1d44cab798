use Rattle.std.proofs.Common.{◌<◌, map, take, length, rules, subst, sym}
use Rattle.sqlite.specs.Held.{state}
use Rattle.osm_rows.specs.Rows.{HasBlock, body_row, placed}
use Rattle.osm_rows.specs.declared.schema.layout.Layout.TheVariants.{Bodies}
use Rattle.osm_sql_store.specs.Put.Steps.{AddsRows}
use Rattle.osm_sql_store.proofs.PutLemmas.RowSteps.{no_rows, one_more}
use Rattle.osm_rows.proofs.PutLemmas.Placing.{first_rows_more, all_more}
use Rattle.osm_sql_store.proofs.StepLemmas.{clean_at, stays, goes_on_then}
use Rattle.osm_old_store.proofs.put.bodies.add_bodies.Goals as goal

pub loop-position-init : goal.loop-position-init
loop-position-init g c =
    let start = state g.S.Store c.args.transaction.now.conn.now in
    record {
      goes_on = stays g.S.Store c.args.transaction.now.conn;
      inside = λ clean inside. inside;
      have_blocks = tt;
      added = λ clean over. no_rows Bodies 2 start over;
    }

pub loop-position-preserved : goal.loop-position-preserved
loop-position-preserved g c =
    let start = state g.S.Store c.args.transaction.now.conn.now in
    let now = c.loop-position.transaction.conn in
    let next = c.add_element.new.transaction.conn in
    let es = c.args.elements.now in
    let at = c.loop-position.position in
    let e = c.index-elements-position.result in
    let low : c.loop-position.position < length c.args.elements.now = search rules in
    let so_far = first_rows_more body_row c.args.off es at e low c.index-elements-position.is in
    let step = c.in_ok-add_element.ensures.step in
    let before = clean_at g.S.Store now next step.goes_on in
    record {
      goes_on = goes_on_then g.S.Store c.args.transaction.now.conn now next c.loop-position.invariant.goes_on step.goes_on;
      inside = λ clean inside. step.inside clean (c.loop-position.invariant.inside (before clean) inside);
      have_blocks = all_more HasBlock es at e low c.index-elements-position.is c.loop-position.invariant.have_blocks c.in_ok-add_element.ensures.has_block;
      added = λ clean over.
          let added = c.loop-position.invariant.added (before clean) over in
          subst (AddsRows Bodies 2 start (state g.S.Store next.now)) (sym so_far) (one_more Bodies 2 start (state g.S.Store now.now) (state g.S.Store next.now) (map body_row (placed c.args.off 0 (take at es))) (body_row (c.args.off, at, e)) added (c.in_ok-add_element.ensures.added clean added.over));
    }

pub returns-in_err-add_element-clause-step : goal.returns-in_err-add_element-clause-step
returns-in_err-add_element-clause-step g c = record {
  goes_on = goes_on_then g.S.Store c.args.transaction.now.conn c.loop-position.transaction.conn c.add_element.new.transaction.conn c.loop-position.invariant.goes_on c.add_element.ensures.step.goes_on;
  inside = search rules;
  ours = search (rules, c.add_element.ensures.step.ours);
}

pub returns-clause-step : goal.returns-clause-step
returns-clause-step g c = record { goes_on = c.loop-position.invariant.goes_on; inside = c.loop-position.invariant.inside; ours = search rules }
