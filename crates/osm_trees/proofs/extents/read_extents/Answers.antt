use Rattle.std.proofs.Common.{rules, arith, ◌≡◌}
use Rattle.std.proofs.lemmas.List.Elements.{All-push}
use Rattle.sqlite_exec.proofs.CheckLemmas.{from_no_key, stepped, ended}
use Rattle.osm_rows.specs.Keeping.{IsRange}
use Rattle.osm_rows.specs.LayoutHolding.{IsKeptExtent}
use Rattle.osm_rows.specs.Rows.{extent_row}
use Rattle.osm_trees.proofs.Rest.{first_rest, next_item, all_read}
use Rattle.osm_trees.proofs.extents.read_extents.Goals as goal

pub rows-init : goal.rows-init
rows-init g c = (
  search rules,
  search rules,
  search rules,
  λ clean extents fit is. rw (c.new-extents.ensures.items, c.in_default.ensures.ok clean, c.new-row.ensures, from_no_key) (first_rest IsKeptExtent extent_row extents _ fit is),
  search rules,
)

pub returns-in-Ok-false-clause-rows : goal.returns-in-Ok-false-clause-rows
returns-in-Ok-false-clause-rows g c clean extents fit is =
    let before = c.rows.invariant.3 (omega (arith, c.next.ensures.quiet.clean)) extents fit is in
    let none = ended _ _ 0 c.next.new.row (rw c.in-Ok-false.field-0-test at (c.in-Ok-false.ensures.ok clean)) in
    all_read IsKeptExtent extent_row extents _ (rw none at before)

pub returns-in_default-extent_of-clause-rows : goal.returns-in_default-extent_of-clause-rows
returns-in_default-extent_of-clause-rows g c clean extents fit is foreign =
    let before = c.rows.invariant.3 (omega (arith, c.next.ensures.quiet.clean)) extents fit is in
    let step = stepped _ _ 0 c.next.new.row (rw c.in-Ok-true.field-0-test at (c.in-Ok-true.ensures.ok clean)) in
    let it = next_item IsKeptExtent extent_row extents _ _ _ (rw step at before) in
    c.in_default-extent_of.not-Some it.item (c.extent_of.ensures.exact it.item it.fits it.is)

pub rows-preserved : goal.rows-preserved
rows-preserved g c = (
  search rules,
  search rules,
  search rules,
  λ clean extents fit is.
      let before = c.rows.invariant.3 (omega (arith, c.next.ensures.quiet.clean)) extents fit is in
      let step = stepped _ _ 0 c.next.new.row (rw c.in-Ok-true.field-0-test at (c.in-Ok-true.ensures.ok clean)) in
      let it = next_item IsKeptExtent extent_row extents _ _ _ (rw step at before) in
      let same : c.in-Some.extent ≡ it.item = let e = c.extent_of.ensures.exact it.item it.fits it.is in let f = c.in-Some.is in cc in
      rw (c.in_ok-push.ensures.items, same) it.after,
  rw c.in_ok-push.ensures.items (All-push IsRange _ _ c.rows.invariant.4 c.in-Some.ensures.range),
)
