use Rattle.std.proofs.Common.{arith}
use Rattle.sqlite.specs.Held.{state}
use Rattle.osm_sql_store.proofs.SchemaLemmas.MakeSteps.{writes_version}
use Rattle.osm_sql_store.proofs.StepLemmas.{runs_on}
use Rattle.osm_sql_store.proofs.schema.create.write_version.Goals as goal

pub returns-clause-goes_on : goal.returns-clause-goes_on
returns-clause-goes_on g c =
    runs_on g.S.Store c.args.transaction.now.conn c.execute.new.self.conn _ _ _ _ c.execute.ensures.same_reference c.execute.ensures.ended c.execute.ensures.runs c.execute.ensures.survives

pub returns-in_err-execute-clause-goes_on : goal.returns-in_err-execute-clause-goes_on
returns-in_err-execute-clause-goes_on g c =
    runs_on g.S.Store c.args.transaction.now.conn c.execute.new.self.conn _ _ _ _ c.execute.ensures.same_reference c.execute.ensures.ended c.execute.ensures.runs c.execute.ensures.survives

pub returns-clause-made : goal.returns-clause-made
returns-clause-made g c clean =
    let over = c.requires (omega (arith, c.execute.ensures.survives.clean)) in
    let ran = rw (c.version_text.ensures, c.LAYOUT.ensures) at c.in_ok-execute.ensures.runs clean over.inside in
    writes_version (state g.S.Store c.args.transaction.now.conn.now) (state g.S.Store c.execute.new.self.conn.now) c.in_ok-execute.field-0 g.L.StoreLayout.LAYOUT over ran
