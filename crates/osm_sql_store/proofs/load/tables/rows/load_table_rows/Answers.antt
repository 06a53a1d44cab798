use Rattle.osm_sql_store.proofs.LoadLemmas.AnswerLemmas.{asks_then}
use Rattle.std.proofs.Common.{refl, ◌∙◌, ap, map}
use Rattle.std.proofs.lemmas.List.Elements.{All-from_recursion}
use Rattle.sqlite.specs.State.{HasCleanDisk}
use Rattle.sqlite.specs.Held.{state}
use Rattle.sqlite_tied.specs.Compute.{everything}
use Rattle.sqlite_trees.proofs.ListLemmas.{all-filter, ascending-filter}
use Rattle.osm_value.specs.Elements.{tags_of_element}
use Rattle.osm_rows.specs.declared.schema.layout.Layout.TheVariants.{Tables}
use Rattle.osm_rows.specs.Rows.{Placed, IsBefore, is_in, placed_in}
use Rattle.osm_rows.specs.TableRows.{links_of, tag_row, link_row}
use Rattle.osm_sql_store.proofs.MapLemmas.AfterCalls.{clean_before, asks_holds}
use Rattle.osm_sql_store.proofs.LoadLemmas.TableReads.{elements_read, tags_read, links_read}
use Rattle.osm_rows.proofs.MapLemmas.PlacedLaws.{placed_in_rise}
use Rattle.osm_rows.proofs.MapLemmas.StoredElements.{all_stored}
use Rattle.osm_sql_store.proofs.MapLemmas.HeldTables.{has_tables}
use Rattle.osm_rows.proofs.MapLemmas.TableHeld.{parts_of_blob}
use Rattle.osm_sql_store.proofs.load.tables.rows.load_table_rows.Goals as goal

pub answer-requires : goal.answer-requires
unfolding everything
answer-requires g c = refl

pub answer-requires-2 : goal.answer-requires-2
unfolding everything
answer-requires-2 g c = refl

pub answer-requires-3 : goal.answer-requires-3
unfolding everything
answer-requires-3 g c = refl

pub returns-clause-held : goal.returns-clause-held
returns-clause-held g c held clean holds =
    let old = state g.S.Store c.args.connection.now in
    let one = state g.S.Store c.answer.new.connection in
    let two = state g.S.Store c.answer-2.new.connection in
    let three = state g.S.Store c.answer-3.new.connection in
    let clean_two : HasCleanDisk two = clean_before two three c.answer-3.ensures.asks clean in
    let clean_one : HasCleanDisk one = clean_before one two c.answer-2.ensures.asks clean_two in
    let first = c.in_ok-elements.ensures.rows clean_one in
    let second = c.in_ok-tags.ensures.rows clean_two in
    let third = c.in_ok-links.ensures.rows clean in
    let still = asks_holds Tables old one c.answer.ensures.asks held holds clean_one first.is_open in
    let later = asks_holds Tables one two c.answer-2.ensures.asks held still clean_two second.is_open in
    let shown = rw c.number.ensures at first.shown in
    let tags_shown = rw c.number-2.ensures at second.shown in
    let links_shown = rw c.number-3.ensures at third.shown in
    let elements = elements_read old one _ (placed_in held) (has_tables old.now held holds.schema holds.tables) c.args.off shown in
    let tags = tags_read one two _ (placed_in held) (has_tables one.now held still.schema still.tables) c.args.off tags_shown in
    let links = links_read two three _ (placed_in held) (has_tables two.now held later.schema later.tables) c.args.off links_shown in (
      record {
        elements = elements;
        tags = c.in_ok-all.ensures ∙ tags ∙ ap (map tag_row) (parts_of_blob (λ (p : Placed). tags_of_element p.2) c.args.off (placed_in held));
        links = c.in_ok-all-2.ensures ∙ links ∙ ap (map link_row) (parts_of_blob (λ (p : Placed). links_of p.2) c.args.off (placed_in held));
        ascending = ascending-filter IsBefore (is_in c.args.off) (placed_in held) (placed_in_rise held);
        stored = All-from_recursion _ _ (all-filter _ (is_in c.args.off) (placed_in held) (all_stored Tables held holds.kept));
      },
      third.is_open,
    )

pub returns-clause-asks : goal.returns-clause-asks
returns-clause-asks g c = asks_then _ _ _ (asks_then _ _ _ c.answer.ensures.asks c.answer-2.ensures.asks) c.answer-3.ensures.asks

pub returns-in_err-tags-clause-asks : goal.returns-in_err-tags-clause-asks
returns-in_err-tags-clause-asks g c = asks_then _ _ _ c.answer.ensures.asks c.answer-2.ensures.asks

pub returns-in_err-links-clause-asks : goal.returns-in_err-links-clause-asks
returns-in_err-links-clause-asks g c = asks_then _ _ _ (asks_then _ _ _ c.answer.ensures.asks c.answer-2.ensures.asks) c.answer-3.ensures.asks

pub returns-in_err-all-clause-asks : goal.returns-in_err-all-clause-asks
returns-in_err-all-clause-asks g c = asks_then _ _ _ (asks_then _ _ _ c.answer.ensures.asks c.answer-2.ensures.asks) c.answer-3.ensures.asks

pub returns-in_err-all-2-clause-asks : goal.returns-in_err-all-2-clause-asks
returns-in_err-all-2-clause-asks g c = asks_then _ _ _ (asks_then _ _ _ c.answer.ensures.asks c.answer-2.ensures.asks) c.answer-3.ensures.asks
