use Rattle.std.proofs.Common.{◌≡◌, refl, ◌∙◌, ap, w64}
use Rattle.std.specs.Prelude.{filter}
use Rattle.std.proofs.lemmas.Int.{to_z-of_z}
use Rattle.std.proofs.lemmas.List.Elements.{All-from_recursion}
use Rattle.std.proofs.lemmas.Result.{err_from_is_err_and}
use Rattle.sqlite.specs.declared.types.Value.TheVariants.{Int}
use Rattle.sqlite.specs.Value.{owned}
use Rattle.sqlite.specs.State.{HasCleanDisk}
use Rattle.sqlite.specs.Held.{state}
use Rattle.sqlite_tied.specs.Compute.{everything}
use Rattle.sqlite_trees.proofs.ListLemmas.{all-filter, ascending-filter}
use Rattle.osm_rows.specs.declared.schema.layout.Layout.TheVariants.{Tables}
use Rattle.osm_rows.specs.Rows.{IsBefore, is_of, placed_in}
use Rattle.osm_sql_store.proofs.LoadLemmas.AnswerLemmas.{asks_then}
use Rattle.osm_sql_store.proofs.MapLemmas.AfterCalls.{clean_before, asks_holds}
use Rattle.osm_sql_store.proofs.LoadLemmas.TableReads.{found_read}
use Rattle.osm_sql_store.proofs.MapLemmas.HeldTables.{has_tables}
use Rattle.osm_rows.proofs.MapLemmas.PlacedLaws.{placed_in_rise}
use Rattle.osm_rows.proofs.MapLemmas.StoredElements.{all_stored}
use Rattle.osm_rows.proofs.LoadLemmas.TableFinds.{all_alone}
use Rattle.osm_sql_store.proofs.load.tables.search.find_table_rows.Goals as goal

pub answer-requires : goal.answer-requires
unfolding everything
answer-requires g c = refl

pub returns-clause-asks : goal.returns-clause-asks
returns-clause-asks g c = asks_then _ _ _ c.answer.ensures.asks c.all_parts.ensures.asks

pub returns-clause-held : goal.returns-clause-held
returns-clause-held g c held clean holds =
    let old = state g.S.Store c.args.connection.now in
    let one = state g.S.Store c.answer.new.connection in
    let two = state g.S.Store c.all_parts.new.connection in
    let clean_one : HasCleanDisk one = clean_before one two c.all_parts.ensures.asks clean in
    let answered = c.in_ok-elements.ensures.rows clean_one in
    let still = asks_holds Tables old one c.answer.ensures.asks held holds clean_one answered.is_open in
    let id : owned c.integer.result ≡ Int c.args.id = c.integer.ensures ∙ ap Int (to_z-of_z w64 c.args.id c.ranges.id) in
    let shown = rw (c.number.ensures, c.from-code.ensures, c.element_code.ensures, id) at answered.shown in
    let read = found_read old one _ (placed_in held) (has_tables old.now held holds.schema holds.tables) c.args.kind c.args.id shown in
    let found = filter (is_of c.args.kind c.args.id) (placed_in held) in
    let told = c.in_ok-tags.ensures.held held found (c.deref.ensures.value ∙ read) (all-filter _ (is_of c.args.kind c.args.id) (placed_in held) (all_alone held)) clean still in
    let parts = told.0 in (
      record {
        elements = read;
        tags = parts.0;
        links = parts.1;
        ascending = ascending-filter IsBefore (is_of c.args.kind c.args.id) (placed_in held) (placed_in_rise held);
        stored = All-from_recursion _ _ (all-filter _ (is_of c.args.kind c.args.id) (placed_in held) (all_stored Tables held holds.kept));
      },
      told.1,
    )

pub returns-in_err-tags-clause-held : goal.returns-in_err-tags-clause-held
returns-in_err-tags-clause-held g c held clean holds =
    let old = state g.S.Store c.args.connection.now in
    let one = state g.S.Store c.answer.new.connection in
    let two = state g.S.Store c.all_parts.new.connection in
    let p = err_from_is_err_and c.from_residual-in_err-tags.result c.from_residual-in_err-tags.ensures.1 in
    let clean_one : HasCleanDisk one = clean_before one two c.all_parts.ensures.asks clean in
    let answered = c.in_ok-elements.ensures.rows clean_one in
    let still = asks_holds Tables old one c.answer.ensures.asks held holds clean_one answered.is_open in
    let id : owned c.integer.result ≡ Int c.args.id = c.integer.ensures ∙ ap Int (to_z-of_z w64 c.args.id c.ranges.id) in
    let shown = rw (c.number.ensures, c.from-code.ensures, c.element_code.ensures, id) at answered.shown in
    let read = found_read old one _ (placed_in held) (has_tables old.now held holds.schema holds.tables) c.args.kind c.args.id shown in
    let found = filter (is_of c.args.kind c.args.id) (placed_in held) in
    rw (p.1, p.2) (c.in_err-tags.ensures.held held found (c.deref.ensures.value ∙ read) (all-filter _ (is_of c.args.kind c.args.id) (placed_in held) (all_alone held)) clean still)

pub returns-in_err-tags-clause-asks : goal.returns-in_err-tags-clause-asks
returns-in_err-tags-clause-asks g c = asks_then _ _ _ c.answer.ensures.asks c.all_parts.ensures.asks
