use Rattle.sqlite.specs.Held.{state}
use Rattle.osm_sql_store.proofs.LoadLemmas.AnswerLemmas.{answered, shown_keeps, failed_keeps, commits_nothing}
use Rattle.osm_sql_store.proofs.load.asking.ask.Goals as goal

pub returns-in-Ok-clause-rows : goal.returns-in-Ok-clause-rows
returns-in-Ok-clause-rows g c clean = answered _ _ (state g.S.Store c.args.connection.now) (state g.S.Store c.query_all.new.self) c.requires _ (c.in-Ok.ensures.ok clean)

pub returns-in-Ok-clause-asks : goal.returns-in-Ok-clause-asks
returns-in-Ok-clause-asks g c =
    let old = state g.S.Store c.args.connection.now in
    let new = state g.S.Store c.query_all.new.self in
    record {
      keeps = λ clean. shown_keeps _ _ old new c.requires _ (c.in-Ok.ensures.ok clean);
      mode = c.query_all.ensures.mode;
      crash = commits_nothing _ _ old new c.requires c.query_all.ensures.survives;
    }

pub returns-in-Err-clause-asks : goal.returns-in-Err-clause-asks
returns-in-Err-clause-asks g c =
    let old = state g.S.Store c.args.connection.now in
    let new = state g.S.Store c.query_all.new.self in
    record {
      keeps = λ clean. failed_keeps _ _ old new c.requires _ (c.in-Err.ensures.err clean);
      mode = c.query_all.ensures.mode;
      crash = commits_nothing _ _ old new c.requires c.query_all.ensures.survives;
    }
