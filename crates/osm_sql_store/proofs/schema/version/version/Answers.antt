use Rattle.std.proofs.Common.{pos, refl, ◌∙◌, subst}
use Rattle.std.proofs.lemmas.Result.{MatchResult-weaker}
use Rattle.sqlite_tied.specs.Compute.{everything}
use Rattle.sqlite.specs.Held.{state}
use Rattle.osm_rows.specs.Keeping.{IsForeign}
use Rattle.osm_rows.specs.Schema.Layouts.{version_of}
use Rattle.osm_sql_store.proofs.LoadLemmas.CauseLemmas.{cause_ours}
use Rattle.osm_sql_store.proofs.SchemaLemmas.VersionLemmas.{names_version}
use Rattle.osm_sql_store.proofs.MapLemmas.HeldTables.{has_version}
use Rattle.osm_sql_store.proofs.LoadLemmas.ReadLemmas.{version_read, version_fails}
use Rattle.osm_sql_store.proofs.schema.version.version.Goals as goal

pub ask-requires : goal.ask-requires
unfolding everything
ask-requires g c = refl

pub returns-in-Err-clause-held : goal.returns-in-Err-clause-held
returns-in-Err-clause-held g c layout held clean holds foreign =
    cause_ours c.in-Err.error (version_fails layout (state g.S.Store c.args.connection.now) (state g.S.Store c.ask.new.connection) holds.schema c.in-Err.error (c.in-Err.ensures.cause clean)) (subst IsForeign c.fault_over_unknown.ensures.exact foreign)

pub returns-clause-held : goal.returns-clause-held
returns-clause-held g c layout held clean holds =
    let old = state g.S.Store c.args.connection.now in
    let answered = c.in-Ok.ensures.rows clean in
    let read = version_read layout old (state g.S.Store c.ask.new.connection) _ (pos (version_of layout)) (has_version layout old.now held holds.schema holds.tables) answered.shown in
    MatchResult-weaker c.only_version.result (c.only_version.ensures.found (pos (version_of layout)) (c.deref.ensures.value ∙ read)) (λ v same. (same, answered.is_open)) (λ fault is foreign. subst IsForeign is foreign)

pub returns-clause-named : goal.returns-clause-named
returns-clause-named g c clean = names_version _ _ _ c.only_version.result (c.deref.ensures.value) (c.in-Ok.ensures.rows clean) c.only_version.ensures.named
