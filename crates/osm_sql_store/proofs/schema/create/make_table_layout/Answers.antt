use Rattle.std.proofs.lemmas.Result.{on_ok_weaker}
use Rattle.sqlite.specs.Held.{state}
use Rattle.osm_sql_store.proofs.SchemaLemmas.MakeSteps.{makes_tables}
use Rattle.osm_sql_store.proofs.StepLemmas.{clean_at, goes_on_then}
use Rattle.osm_sql_store.proofs.schema.create.make_table_layout.Goals as goal

pub make-requires-2 : goal.make-requires-2
make-requires-2 g c clean = (c.in_ok-make.ensures.made clean).becomes.over

pub make-requires-3 : goal.make-requires-3
make-requires-3 g c clean = (c.in_ok-make-2.ensures.made clean).becomes.over

pub make-requires-4 : goal.make-requires-4
make-requires-4 g c clean = (c.in_ok-make-3.ensures.made clean).becomes.over

pub returns-in_err-make-2-clause-goes_on : goal.returns-in_err-make-2-clause-goes_on
returns-in_err-make-2-clause-goes_on g c = goes_on_then g.S.Store _ _ _ c.make.ensures.goes_on c.make-2.ensures.goes_on

pub returns-in_err-make-3-clause-goes_on : goal.returns-in_err-make-3-clause-goes_on
returns-in_err-make-3-clause-goes_on g c = goes_on_then g.S.Store _ _ _ (goes_on_then g.S.Store _ _ _ c.make.ensures.goes_on c.make-2.ensures.goes_on) c.make-3.ensures.goes_on

pub returns-clause-goes_on : goal.returns-clause-goes_on
returns-clause-goes_on g c = goes_on_then g.S.Store _ _ _ (goes_on_then g.S.Store _ _ _ (goes_on_then g.S.Store _ _ _ c.make.ensures.goes_on c.make-2.ensures.goes_on) c.make-3.ensures.goes_on) c.make-4.ensures.goes_on

pub returns-clause-made : goal.returns-clause-made
returns-clause-made g c clean_new =
    let old = state g.S.Store c.args.transaction.now.conn.now in
    let one = c.make.new.transaction.conn in
    let two = c.make-2.new.transaction.conn in
    let three = c.make-3.new.transaction.conn in
    let new = c.make-4.new.transaction.conn in
    let clean_three = clean_at g.S.Store three new c.make-4.ensures.goes_on clean_new in
    let clean_two = clean_at g.S.Store two three c.make-3.ensures.goes_on clean_three in
    let clean_one = clean_at g.S.Store one two c.make-2.ensures.goes_on clean_two in
    let all = makes_tables old (state g.S.Store one.now) (state g.S.Store two.now) (state g.S.Store three.now) (state g.S.Store new.now) (c.in_ok-make.ensures.made clean_one) (c.in_ok-make-2.ensures.made clean_two) (c.in_ok-make-3.ensures.made clean_three) in
    on_ok_weaker c.make-4.result all (c.make-4.ensures.made clean_new)
