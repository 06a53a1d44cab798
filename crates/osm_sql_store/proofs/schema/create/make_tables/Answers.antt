use Rattle.std.proofs.lemmas.Result.{on_ok_weaker}
use Rattle.sqlite.specs.Held.{state}
use Rattle.osm_sql_store.proofs.SchemaLemmas.MakeSteps.{makes_empty_store}
use Rattle.osm_sql_store.specs.Schema.Making.{WritesVersion}
use Rattle.osm_sql_store.proofs.StepLemmas.{clean_at, goes_on_then}
use Rattle.osm_sql_store.proofs.schema.create.make_tables.Goals as goal

pub make-requires-2 : goal.make-requires-2
make-requires-2 g c clean = (c.in_ok-make.ensures.made clean).becomes.over

pub make_layout-requires : goal.make_layout-requires
make_layout-requires g c clean = (c.in_ok-make-2.ensures.made clean).becomes.over

pub write_version-requires : goal.write_version-requires
write_version-requires g c clean = (c.in_ok-make_layout.ensures.made clean).becomes.over

pub returns-in_err-make-2-clause-goes_on : goal.returns-in_err-make-2-clause-goes_on
returns-in_err-make-2-clause-goes_on g c = goes_on_then g.S.Store _ _ _ c.make.ensures.goes_on c.make-2.ensures.goes_on

pub returns-in_err-make_layout-clause-goes_on : goal.returns-in_err-make_layout-clause-goes_on
returns-in_err-make_layout-clause-goes_on g c = goes_on_then g.S.Store _ _ _ (goes_on_then g.S.Store _ _ _ c.make.ensures.goes_on c.make-2.ensures.goes_on) c.make_layout.ensures.goes_on

pub returns-clause-goes_on : goal.returns-clause-goes_on
returns-clause-goes_on g c = goes_on_then g.S.Store _ _ _ (goes_on_then g.S.Store _ _ _ (goes_on_then g.S.Store _ _ _ c.make.ensures.goes_on c.make-2.ensures.goes_on) c.make_layout.ensures.goes_on) c.write_version.ensures.goes_on

pub returns-clause-over : goal.returns-clause-over
returns-clause-over g c clean =
    let three = state g.S.Store c.make_layout.new.transaction.conn.now in
    let new = state g.S.Store c.write_version.new.transaction.conn.now in
    on_ok_weaker c.write_version.result (λ (w : WritesVersion g.L.StoreLayout.LAYOUT three new). w.becomes.over) (c.write_version.ensures.made clean)

pub returns-clause-made : goal.returns-clause-made
returns-clause-made g c clean_new =
    let old = state g.S.Store c.args.transaction.now.conn.now in
    let one = c.make.new.transaction.conn in
    let two = c.make-2.new.transaction.conn in
    let three = c.make_layout.new.transaction.conn in
    let new = c.write_version.new.transaction.conn in
    let clean_three = clean_at g.S.Store three new c.write_version.ensures.goes_on clean_new in
    let clean_two = clean_at g.S.Store two three c.make_layout.ensures.goes_on clean_three in
    let clean_one = clean_at g.S.Store one two c.make-2.ensures.goes_on clean_two in
    let all = makes_empty_store g.L.StoreLayout.LAYOUT old (state g.S.Store one.now) (state g.S.Store two.now) (state g.S.Store three.now) (state g.S.Store new.now) (c.in_ok-make.ensures.made clean_one) (c.in_ok-make-2.ensures.made clean_two) (c.in_ok-make_layout.ensures.made clean_three) in
    on_ok_weaker c.write_version.result all (c.write_version.ensures.made clean_new)
