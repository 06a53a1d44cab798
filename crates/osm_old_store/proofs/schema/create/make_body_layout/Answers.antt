use Rattle.std.proofs.lemmas.Result.{on_ok_weaker}
use Rattle.sqlite.specs.Held.{state}
use Rattle.osm_sql_store.proofs.StepLemmas.{clean_at, goes_on_then}
use Rattle.osm_old_store.proofs.SchemaLemmas.MakeBodies.{makes_bodies}
use Rattle.osm_old_store.proofs.schema.create.make_body_layout.Goals as goal

pub make_index-requires : goal.make_index-requires
make_index-requires g c clean = (c.in_ok-make_body.ensures.made clean).becomes.over

pub returns-clause-goes_on : goal.returns-clause-goes_on
returns-clause-goes_on g c = goes_on_then g.S.Store c.args.transaction.now.conn c.make_body.new.transaction.conn c.make_index.new.transaction.conn c.make_body.ensures.goes_on c.make_index.ensures.goes_on

pub returns-clause-made : goal.returns-clause-made
returns-clause-made g c clean =
    let old = state g.S.Store c.args.transaction.now.conn.now in
    let mid = state g.S.Store c.make_body.new.transaction.conn.now in
    let new = state g.S.Store c.make_index.new.transaction.conn.now in
    let first = c.in_ok-make_body.ensures.made (clean_at g.S.Store c.make_body.new.transaction.conn c.make_index.new.transaction.conn c.make_index.ensures.goes_on clean) in
    on_ok_weaker c.make_index.result (makes_bodies old mid new first) (c.make_index.ensures.made clean)
