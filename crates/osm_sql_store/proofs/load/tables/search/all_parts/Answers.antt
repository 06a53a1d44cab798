use Rattle.std.proofs.Common.{take}
use Rattle.std.proofs.lemmas.List.Elements.{All-from_recursion}
use Rattle.std.proofs.lemmas.Result.{err_from_is_err_and}
use Rattle.sqlite.specs.State.{HasCleanDisk}
use Rattle.sqlite.specs.Held.{state}
use Rattle.osm_rows.specs.declared.schema.layout.Layout.TheVariants.{Tables}
use Rattle.osm_rows.specs.Load.TableParts.{IsAlone}
use Rattle.osm_rows.specs.TableRows.{element_row, tag_row, tags_at, link_row, links_at}
use Rattle.osm_rows.specs.Rows.{placed_in}
use Rattle.osm_rows.proofs.LoadLemmas.TableFinds.{several_more}
use Rattle.osm_sql_store.proofs.LoadLemmas.AnswerLemmas.{asks_then}
use Rattle.osm_sql_store.proofs.MapLemmas.AfterCalls.{clean_before, asks_holds}
use Rattle.osm_rows.proofs.LoadLemmas.RowLoops.{row_at}
use Rattle.osm_sql_store.proofs.load.tables.search.all_parts.Goals as goal

pub loop-row-preserved : goal.loop-row-preserved
loop-row-preserved g c =
    let old = state g.S.Store c.args.connection.now in
    let now = state g.S.Store c.loop-row.connection in
    let next = state g.S.Store c.parts_of.new.connection in
    let asks = c.parts_of.ensures.asks in
    record {
      asks = asks_then old now next c.loop-row.invariant.asks asks;
      read = λ clean held found holds is alone.
          let clean_now : HasCleanDisk now = clean_before now next asks clean in
          let before = c.loop-row.invariant.read clean_now held found holds is alone in
          let it = row_at (IsAlone (placed_in held)) element_row found _ _ _ (All-from_recursion _ _ alone) is c.loop-row-test.true c.row-item.is in
          let read = c.in_ok-its_tags.ensures.held held it.item it.is it.fits clean before.0 in
          let parts = read.0 in (
            asks_holds Tables now next asks held before.0 clean read.1,
            several_more tag_row tags_at (take c.loop-row.row-index found) _ it.item _ _ _ it.more before.1 parts.0 c.in_ok-append.ensures.items,
            several_more link_row links_at (take c.loop-row.row-index found) _ it.item _ _ _ it.more before.2 parts.1 c.in_ok-append-2.ensures.items,
          );
    }

pub returns-in_err-its_tags-clause-held : goal.returns-in_err-its_tags-clause-held
returns-in_err-its_tags-clause-held g c held found is alone clean holds =
    let now = state g.S.Store c.loop-row.connection in
    let next = state g.S.Store c.parts_of.new.connection in
    let p = err_from_is_err_and c.from_residual.result c.from_residual.ensures.1 in
    let clean_now : HasCleanDisk now = clean_before now next c.parts_of.ensures.asks clean in
    let before = c.loop-row.invariant.read clean_now held found holds is alone in
    let it = row_at (IsAlone (placed_in held)) element_row found _ _ _ (All-from_recursion _ _ alone) is c.loop-row-test.true c.row-item.is in
    rw (p.1, p.2) (c.in_err-its_tags.ensures.held held it.item it.is it.fits clean before.0)
