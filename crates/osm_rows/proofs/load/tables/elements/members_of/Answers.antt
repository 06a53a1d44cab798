use Rattle.std.proofs.Common.{◌≡◌, Some, None, Option}
use Rattle.osm_value.specs.Ranges.{IsMember}
use Rattle.osm_value.specs.Value.{MemberValue}
use Rattle.osm_rows.specs.TableRows.{link_row}
use Rattle.osm_rows.specs.Load.TableElements.{IsMemberPart, item_of}
use Rattle.osm_rows.proofs.LoadLemmas.RowLoops.{row_at, items_more, each_more}
use Rattle.osm_rows.proofs.LoadLemmas.StoredRows.{some_is}
use Rattle.osm_rows.proofs.load.tables.elements.members_of.Goals as goal

pub returns-in-None-clause-exact : goal.returns-in-None-clause-exact
returns-in-None-clause-exact c parts fits is =
    let it = row_at IsMemberPart link_row parts _ _ _ fits is c.loop-row-test.true c.row-item.is in
    let both : ◌≡◌ {A = Option MemberValue} None (Some it.item.item) = c.in-None.ensures.exact it.item it.fits it.is in
    absurd (cc)

pub loop-row-preserved : goal.loop-row-preserved
loop-row-preserved c = record {
  so_far = λ parts fits is.
      let it = row_at IsMemberPart link_row parts _ _ _ fits is c.loop-row-test.true c.row-item.is in
      items_more item_of _ _ _ parts _ it.item c.in_ok-push-in-Some.ensures.items (c.loop-row.invariant.so_far parts fits is) (some_is _ _ (c.in-Some.ensures.exact it.item it.fits it.is)) it.more;
  in_range = each_more (λ (m : MemberValue). IsMember m) _ _ _ c.in_ok-push-in-Some.ensures.items c.loop-row.invariant.in_range c.in-Some.ensures.in_range;
}
