use Rattle.std.proofs.Common.{◌≡◌, pos, map, refl, ◌∙◌, ap, SFits, w64, rules}
use Rattle.std.proofs.lemmas.Int.{to_z-of_z}
use Rattle.sqlite.specs.declared.types.Value.TheVariants.{Int}
use Rattle.sqlite.specs.Value.{owned}
use Rattle.sqlite.specs.State.{HasCleanDisk}
use Rattle.sqlite.specs.Held.{state}
use Rattle.sqlite_tied.specs.Compute.{everything}
use Rattle.osm_rows.specs.declared.schema.layout.Layout.TheVariants.{Tables}
use Rattle.osm_rows.specs.Rows.{placed_in}
use Rattle.osm_rows.specs.TableRows.{tag_row, link_row}
use Rattle.osm_sql_store.proofs.LoadLemmas.AnswerLemmas.{asks_then}
use Rattle.osm_sql_store.proofs.MapLemmas.AfterCalls.{clean_before, asks_holds}
use Rattle.osm_sql_store.proofs.LoadLemmas.TableReads.{its_tags_read, its_links_read}
use Rattle.osm_sql_store.proofs.MapLemmas.HeldTables.{has_tables}
use Rattle.osm_sql_store.proofs.load.tables.search.parts_of.Goals as goal

pub answer-requires : goal.answer-requires
unfolding everything
answer-requires g c = refl

pub answer-requires-2 : goal.answer-requires-2
unfolding everything
answer-requires-2 g c = refl

pub returns-clause-held : goal.returns-clause-held
returns-clause-held g c held p is alone clean holds =
    let old = state g.S.Store c.args.connection.now in
    let one = state g.S.Store c.answer.new.connection in
    let two = state g.S.Store c.answer-2.new.connection in
    let clean_one : HasCleanDisk one = clean_before one two c.answer-2.ensures.asks clean in
    let first = c.in_ok-tags.ensures.rows clean_one in
    let second = c.in_ok-links.ensures.rows clean in
    let still = asks_holds Tables old one c.answer.ensures.asks held holds clean_one first.is_open in
    let place = c.in_ok-place.ensures p is in
    let off_fits : SFits w64 c.in_ok-place.place.0 = search rules in
    let position_fits : SFits w64 c.in_ok-place.place.1 = search rules in
    let off : owned c.integer.result ≡ Int (pos p.0) = c.integer.ensures ∙ ap Int (to_z-of_z w64 c.in_ok-place.place.0 off_fits ∙ place.0) in
    let position : owned c.integer-2.result ≡ Int (pos p.1) = c.integer-2.ensures ∙ ap Int (to_z-of_z w64 c.in_ok-place.place.1 position_fits ∙ place.1) in
    let off_again : owned c.integer-3.result ≡ Int (pos p.0) = c.integer-3.ensures ∙ ap Int (to_z-of_z w64 c.in_ok-place.place.0 off_fits ∙ place.0) in
    let position_again : owned c.integer-4.result ≡ Int (pos p.1) = c.integer-4.ensures ∙ ap Int (to_z-of_z w64 c.in_ok-place.place.1 position_fits ∙ place.1) in
    let tags_shown = rw (off, position) at first.shown in
    let links_shown = rw (off_again, position_again) at second.shown in
    let tags = its_tags_read old one _ (placed_in held) (has_tables old.now held holds.schema holds.tables) p.0 p.1 tags_shown in
    let links = its_links_read one two _ (placed_in held) (has_tables one.now held still.schema still.tables) p.0 p.1 links_shown in
    ((c.in_ok-all.ensures ∙ tags ∙ ap (map tag_row) alone.tags, c.in_ok-all-2.ensures ∙ links ∙ ap (map link_row) alone.links), second.is_open)

pub returns-clause-asks : goal.returns-clause-asks
returns-clause-asks g c = asks_then _ _ _ c.answer.ensures.asks c.answer-2.ensures.asks

pub returns-in_err-all-clause-asks : goal.returns-in_err-all-clause-asks
returns-in_err-all-clause-asks g c = asks_then _ _ _ c.answer.ensures.asks c.answer-2.ensures.asks

pub returns-in_err-all-2-clause-asks : goal.returns-in_err-all-2-clause-asks
returns-in_err-all-2-clause-asks g c = asks_then _ _ _ c.answer.ensures.asks c.answer-2.ensures.asks
