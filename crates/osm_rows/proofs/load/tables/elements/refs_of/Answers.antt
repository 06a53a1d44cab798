use Rattle.std.proofs.Common.{rules, ◌≡◌, ◌∙◌, Some, None, Option, ℤ, sym, subst, FitsSigned, w64}
use Rattle.std.proofs.lemmas.Int.{to_z-of_z}
use Rattle.osm_value.specs.Ranges.{IsWide}
use Rattle.osm_value.specs.Value.{MemberValue}
use Rattle.osm_rows.specs.TableRows.{Part, link_row}
use Rattle.osm_rows.specs.Load.TableElements.{IsNodePart}
use Rattle.osm_rows.proofs.LoadLemmas.RowLoops.{row_at, items_more, each_more}
use Rattle.osm_rows.proofs.LoadLemmas.StoredRows.{some_is}
use Rattle.osm_rows.proofs.load.tables.elements.refs_of.Goals as goal

pub returns-in-None-clause-exact : goal.returns-in-None-clause-exact
returns-in-None-clause-exact c parts fit is =
    let it = row_at IsNodePart link_row parts _ _ _ fit is c.loop-row-test.true c.row-item.is in
    let both : ◌≡◌ {A = Option ℤ} None (Some it.item.item.id) = c.in-None.ensures.exact it.item it.fits it.is in
    absurd (cc)

pub loop-row-preserved : goal.loop-row-preserved
loop-row-preserved c = record {
  so_far = λ parts fit is.
      let it = row_at IsNodePart link_row parts _ _ _ fit is c.loop-row-test.true c.row-item.is in
      let fits : FitsSigned w64 c.in-Some.node = search rules in
      items_more (λ (p : Part MemberValue). p.item.id) _ _ _ parts _ it.item c.in_ok-push-in-Some.ensures.items (c.loop-row.invariant.so_far parts fit is) (to_z-of_z w64 c.in-Some.node fits ∙ some_is _ _ (c.in-Some.ensures.exact it.item it.fits it.is)) it.more;
  in_range =
      let fits : FitsSigned w64 c.in-Some.node = search rules in
      each_more IsWide _ _ _ c.in_ok-push-in-Some.ensures.items c.loop-row.invariant.in_range (subst (λ (n : ℤ). IsWide n) (sym (to_z-of_z w64 c.in-Some.node fits)) c.in-Some.ensures.in_range);
}
