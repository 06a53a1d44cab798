use Rattle.std.proofs.Common.{refl, ◌∙◌}
use Rattle.std.proofs.lemmas.Result.{MatchResult-weaker}
use Rattle.sqlite_tied.specs.Compute.{everything}
use Rattle.sqlite.specs.Held.{state}
use Rattle.osm_rows.specs.Keeping.{extents_of}
use Rattle.osm_sql_store.proofs.LoadLemmas.Starts.{Starts, held_starts, start_found}
use Rattle.osm_sql_store.proofs.MapLemmas.HeldTables.{has_extents}
use Rattle.osm_sql_store.proofs.LoadLemmas.ReadLemmas.{last_start_read}
use Rattle.osm_sql_store.proofs.load.extents.last_start.Goals as goal

pub answer-requires : goal.answer-requires
unfolding everything
answer-requires g c = refl

pub returns-clause-held : goal.returns-clause-held
returns-clause-held g c layout held clean holds =
    let old = state g.S.Store c.args.connection.now in
    let answered = c.in_ok-rows.ensures.rows clean in
    let shown = rw c.number.ensures at answered.shown in
    let each = last_start_read layout old (state g.S.Store c.answer.new.connection) _ (extents_of held) (has_extents layout old.now held holds.schema holds.tables) c.args.from (Starts c.args.from (extents_of held)) (held_starts c.args.from held holds.kept.apart) shown in
    let found = start_found c.args.from (extents_of held) _ c.first_offset.result each (λ none. c.first_offset.ensures.none (c.deref.ensures.value ∙ none)) (λ off more is. c.first_offset.ensures.first off more (c.deref.ensures.value ∙ is)) in
    MatchResult-weaker c.first_offset.result found (λ start is. (is, answered.is_open)) (λ fault ours. ours)
