use Rattle.std.proofs.Common.{refl, ◌∙◌, subst}
use Rattle.std.proofs.lemmas.Result.{MatchResult-weaker}
use Rattle.sqlite_tied.specs.Compute.{everything}
use Rattle.sqlite.specs.Held.{state}
use Rattle.osm_rows.specs.Keeping.{extents_of, IsForeign}
use Rattle.osm_sql_store.proofs.MapLemmas.HeldTables.{has_extents}
use Rattle.osm_rows.proofs.LoadLemmas.ExtentLaws.{extents_kept, held_apart}
use Rattle.osm_sql_store.proofs.LoadLemmas.ReadLemmas.{extents_read}
use Rattle.osm_sql_store.proofs.load.extents.all_extents.Goals as goal

pub answer-requires : goal.answer-requires
unfolding everything
answer-requires g c = refl

pub returns-clause-held : goal.returns-clause-held
returns-clause-held g c clean layout held holds =
    let old = state g.S.Store c.args.connection.now in
    let answered = c.in_ok-rows.ensures.rows clean in
    let read = extents_read layout old (state g.S.Store c.answer.new.connection) _ (extents_of held) (has_extents layout old.now held holds.schema holds.tables) answered.shown in
    MatchResult-weaker c.read_apart.result (c.read_apart.ensures.exact (extents_of held) (extents_kept layout held holds.kept) (held_apart held holds.kept.apart) (c.deref.ensures.value ∙ read)) (λ v same. (same, answered.is_open)) (λ fault is foreign. subst IsForeign is foreign)
