use Rattle.std.proofs.Common.{rules, arith, ◌≡◌, ◌<◌, subst}
use Rattle.std.proofs.lemmas.List.Elements.{All-push}
use Rattle.sqlite_trees.specs.declared.store.Shape.TheVariants.{Table}
use Rattle.sqlite_trees.specs.View.{IsShaped}
use Rattle.sqlite_exec.proofs.CheckLemmas.{stepped, ended}
use Rattle.osm_rows.specs.declared.keeper.Extent.{Extent as Held}
use Rattle.osm_rows.specs.Keeping.{IsRange}
use Rattle.osm_rows.specs.LayoutHolding.{IsKeptExtent}
use Rattle.osm_rows.specs.Rows.{extent_row}
use Rattle.osm_trees.proofs.Downward.{downward, downward_kept, rows_below, stopped, walked}
use Rattle.osm_trees.proofs.Rest.{first_rest, next_item, all_read}
use Rattle.osm_trees.proofs.extents.read_touched.Goals as goal

pub rows-init : goal.rows-init
rows-init g c = (
  search rules,
  search rules,
  search rules,
  λ clean extents fit apart is.
      let old = g.S.Store.view c.args.store.now in
      let shape : old.shape 1 ≡ Table = search rules in
      let table = subst (λ s. IsShaped s (old.trees 1)) shape (g.met.S.Store.ordered c.args.store.now (c.in_default.ensures.sound clean) 1) in
      let left = rows_below c.args.to extents (omega (arith, c.requires.0)) (old.trees 1) table.0 is in
      rw (c.new-extents.ensures.items, c.in_default.ensures.ok clean, shape, c.in_ok-key.ensures) (first_rest IsKeptExtent extent_row (downward c.args.to extents) _ (downward_kept c.args.to extents fit) left),
  search rules,
  search rules,
)

pub returns-in-Ok-false-clause-rows : goal.returns-in-Ok-false-clause-rows
returns-in-Ok-false-clause-rows g c clean extents fit apart is =
    let before = c.rows.invariant.3 (omega (arith, c.next.ensures.quiet.clean)) extents fit apart is in
    let none = ended _ _ 0 c.next.new.row (rw c.in-Ok-false.field-0-test at (c.in-Ok-false.ensures.ok clean)) in
    walked c.args.from c.args.to extents _ (all_read IsKeptExtent extent_row (downward c.args.to extents) _ (rw none at before)) c.rows.invariant.5

pub returns-in_default-extent_of-clause-rows : goal.returns-in_default-extent_of-clause-rows
returns-in_default-extent_of-clause-rows g c clean extents fit apart is foreign =
    let before = c.rows.invariant.3 (omega (arith, c.next.ensures.quiet.clean)) extents fit apart is in
    let step = stepped _ _ 0 c.next.new.row (rw c.in-Ok-true.field-0-test at (c.in-Ok-true.ensures.ok clean)) in
    let it = next_item IsKeptExtent extent_row (downward c.args.to extents) _ _ _ (rw step at before) in
    c.in_default-extent_of.not-Some it.item (c.extent_of.ensures.exact it.item it.fits it.is)

pub returns-then-extent-from-clause-rows : goal.returns-then-extent-from-clause-rows
returns-then-extent-from-clause-rows g c clean extents fit apart is =
    let before = c.rows.invariant.3 (omega (arith, c.next.ensures.quiet.clean)) extents fit apart is in
    let step = stepped _ _ 0 c.next.new.row (rw c.in-Ok-true.field-0-test at (c.in-Ok-true.ensures.ok clean)) in
    let it = next_item IsKeptExtent extent_row (downward c.args.to extents) _ _ _ (rw step at before) in
    let same : c.in-Some.extent ≡ it.item = let e = c.extent_of.ensures.exact it.item it.fits it.is in let f = c.in-Some.is in cc in
    let ends = rw same at c.if-extent-from.true in
    stopped c.args.from c.args.to extents _ it.item it.after.rest apart it.after.whole c.rows.invariant.5 it.fits.range (omega (arith, ends))

pub rows-preserved : goal.rows-preserved
rows-preserved g c = (
  search rules,
  search rules,
  search rules,
  λ clean extents fit apart is.
      let before = c.rows.invariant.3 (omega (arith, c.next.ensures.quiet.clean)) extents fit apart is in
      let step = stepped _ _ 0 c.next.new.row (rw c.in-Ok-true.field-0-test at (c.in-Ok-true.ensures.ok clean)) in
      let it = next_item IsKeptExtent extent_row (downward c.args.to extents) _ _ _ (rw step at before) in
      let same : c.in-Some.extent ≡ it.item = let e = c.extent_of.ensures.exact it.item it.fits it.is in let f = c.in-Some.is in cc in
      rw (c.in_ok-push.ensures.items, same) it.after,
  rw c.in_ok-push.ensures.items (All-push IsRange _ _ c.rows.invariant.4 c.in-Some.ensures.range),
  rw c.in_ok-push.ensures.items (All-push (λ (e : Held). c.args.from < e.fin) _ _ c.rows.invariant.5 (search rules)),
)
