use Rattle.std.proofs.Common.{◌≡◌, pos, rules, subst}
use Rattle.sqlite.specs.Held.{state}
use Rattle.osm_rows.specs.Faults.{NamesNoVersion}
use Rattle.osm_sql_store.specs.Load.Asking.{NamesVersion}
use Rattle.osm_rows.specs.Schema.Layouts.{version_of}
use Rattle.osm_sql_store.proofs.MapLemmas.AfterCalls.{asks_holds}
use Rattle.osm_sql_store.proofs.schema.opening.adopt_store.Goals as goal

pub returns-in-Err-clause-other : goal.returns-in-Err-clause-other
returns-in-Err-clause-other g c found is = absurd (subst NamesNoVersion is c.in-Err.ensures.unnamed)

pub returns-in-Err-clause-held : goal.returns-in-Err-clause-held
returns-in-Err-clause-held g c held holds clean = c.in-Err.ensures.held g.L.StoreLayout.LAYOUT held clean holds

pub returns-then-has_tables-clause-held : goal.returns-then-has_tables-clause-held
returns-then-has_tables-clause-held g c held holds clean =
    let told = c.in-Ok.ensures.held g.L.StoreLayout.LAYOUT held clean holds in
    asks_holds g.L.StoreLayout.LAYOUT (state g.S.Store c.args.connection) (state g.S.Store c.version.new.connection) c.version.ensures.asks held holds clean told.1

pub returns-then-has_tables-clause-ours : goal.returns-then-has_tables-clause-ours
returns-then-has_tables-clause-ours g c clean =
    let same : c.in-Ok.found ≡ pos (version_of g.L.StoreLayout.LAYOUT) = search rules in
    subst (NamesVersion (state g.S.Store c.args.connection) (state g.S.Store c.version.new.connection)) same (c.in-Ok.ensures.named clean)
