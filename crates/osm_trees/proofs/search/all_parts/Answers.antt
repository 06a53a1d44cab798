use Rattle.std.proofs.Common.{take}
use Rattle.std.proofs.lemmas.List.Elements.{All-from_recursion}
use Rattle.std.proofs.lemmas.Result.{err_from_is_err_and}
use Rattle.sqlite_trees.specs.View.{IsClean}
use Rattle.osm_rows.specs.declared.schema.layout.Layout.TheVariants.{Tables}
use Rattle.osm_rows.specs.Load.TableParts.{IsAlone}
use Rattle.osm_rows.specs.TableRows.{element_row, tag_row, tags_at, link_row, links_at}
use Rattle.osm_rows.specs.Rows.{placed_in}
use Rattle.osm_rows.proofs.LoadLemmas.TableFinds.{several_more}
use Rattle.osm_rows.proofs.LoadLemmas.RowLoops.{row_at}
use Rattle.osm_tree_audits.proofs.Looking.{looks_then, clean_before}
use Rattle.osm_trees.proofs.Looking.{holds_after}
use Rattle.osm_trees.proofs.search.all_parts.Goals as goal

pub loop-row-preserved : goal.loop-row-preserved
loop-row-preserved g c =
    let now = g.S.Store.view c.loop-row.store in
    let next = g.S.Store.view c.parts_of.new.store in
    let looks = c.parts_of.ensures.looks in
    record {
      looks = looks_then g.S.Store _ _ _ c.loop-row.invariant.looks looks;
      read = λ clean held found holds is alone.
          let clean_now : IsClean now = clean_before g.S.Store _ _ looks clean in
          let before = c.loop-row.invariant.read clean_now held found holds is alone in
          let it = row_at (IsAlone (placed_in held)) element_row found _ _ _ (All-from_recursion _ _ alone) is c.loop-row-test.true c.row-item.is in
          let parts = c.in_ok-its_tags.ensures.held clean held it.item before.0 it.is it.fits in (
            holds_after Tables now next held (looks.reads clean parts.1) clean parts.1 before.0,
            several_more tag_row tags_at (take c.loop-row.row-index found) _ it.item _ _ _ it.more before.1 parts.0.are_tags c.in_ok-append.ensures.items,
            several_more link_row links_at (take c.loop-row.row-index found) _ it.item _ _ _ it.more before.2 parts.0.are_links c.in_ok-append-2.ensures.items,
          );
    }

pub returns-in_err-its_tags-clause-held : goal.returns-in_err-its_tags-clause-held
returns-in_err-its_tags-clause-held g c clean held found holds is alone =
    let p = err_from_is_err_and c.from_residual.result c.from_residual.ensures.1 in
    let clean_now : IsClean (g.S.Store.view c.loop-row.store) = clean_before g.S.Store _ _ c.parts_of.ensures.looks clean in
    let before = c.loop-row.invariant.read clean_now held found holds is alone in
    let it = row_at (IsAlone (placed_in held)) element_row found _ _ _ (All-from_recursion _ _ alone) is c.loop-row-test.true c.row-item.is in
    rw (p.1, p.2) (c.in_err-its_tags.ensures.held clean held it.item before.0 it.is it.fits)
