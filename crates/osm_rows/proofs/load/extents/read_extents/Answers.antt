use Rattle.std.proofs.Common.{rules}
use Rattle.std.proofs.lemmas.Result.{err_from_is_err_and}
use Rattle.osm_rows.specs.LayoutHolding.{IsKeptExtent}
use Rattle.osm_rows.specs.Rows.{extent_columns}
use Rattle.osm_rows.proofs.LoadLemmas.RowLoops.{row_at}
use Rattle.osm_rows.proofs.load.extents.read_extents.Goals as goal

pub returns-in_err-extent_of-clause-exact : goal.returns-in_err-extent_of-clause-exact
returns-in_err-extent_of-clause-exact c held fit is =
    let p = err_from_is_err_and c.from_residual.result c.from_residual.ensures.1 in
    let it = row_at IsKeptExtent extent_columns held _ _ _ fit is c.loop-row-test.true c.row-item.is in
    rw (p.1, p.2) (c.in_err-extent_of.ensures.exact it.item it.fits it.is)

pub loop-row-preserved : goal.loop-row-preserved
loop-row-preserved c = record {
  exact = λ held fit is. (
      let it = row_at IsKeptExtent extent_columns held _ _ _ fit is c.loop-row-test.true c.row-item.is in
      let same = c.in_ok-extent_of.ensures.exact it.item it.fits it.is in
      let before = c.loop-row.invariant.exact held fit is in
      rw (it.more, ← same, ← before) c.in_ok-push.ensures.items);
  ranges = search rules;
}
