use Rattle.std.proofs.Common.{◌≡◌, ◌∙◌, List, arith, sym, subst}
use Rattle.std.proofs.lemmas.Result.{on_ok_weaker}
use Rattle.sqlite_schema.specs.declared.schema.Index.{Index}
use Rattle.sqlite_trees.specs.View.{IsClean}
use Rattle.osm_rows.specs.Rows.{placed}
use Rattle.osm_tree_writes.specs.Appending.{AreBehind, AreIndexesAt, IsStoreAt}
use Rattle.osm_tree_writes.specs.Putting.{WritesUncommitted, WritesElements}
use Rattle.osm_tree_writes.proofs.Writing.{rise_behind, written, written_after}
use Rattle.osm_tree_writes.proofs.put.write_rows.Goals as goal

pub append_elements-requires-clause-more : goal.append_elements-requires-clause-more
append_elements-requires-clause-more g c clean =
    let before = g.S.Store.view c.args.store.now in
    let v1 = g.S.Store.view c.put_extent.new.store in
    let shape : v1.shape ≡ before.shape = c.put_extent.ensures.harmless.schema.shape ∙ c.are_places_free.ensures.harmless.schema.shape in
    let shaped = rw c.in-Some.is at c.in_ok-more.ensures.shaped in
    subst (λ s. AreIndexesAt s c.as_slice.result.now) (sym shape) (subst (AreIndexesAt before.shape) (sym c.as_slice.ensures.value) (rise_behind before.shape c.in-Some.more.items shaped.1).0)

pub append_elements-requires-clause-behind : goal.append_elements-requires-clause-behind
append_elements-requires-clause-behind g c =
    let before = g.S.Store.view c.args.store.now in
    let shaped = rw c.in-Some.is at c.in_ok-more.ensures.shaped in
    subst AreBehind (sym c.as_slice.ensures.value) (rise_behind before.shape c.in-Some.more.items shaped.1).1

pub returns-clause-written : goal.returns-clause-written
returns-clause-written g c =
    let before = g.S.Store.view c.args.store.now in
    let v0 = g.S.Store.view c.are_places_free.new.store in
    let v1 = g.S.Store.view c.put_extent.new.store in
    let extent = c.args.extent.now in
    let ps = placed extent.off 0 c.args.elements.now in
    let more = c.in-Some.more.items in
    let shaped = rw c.in-Some.is at c.in_ok-more.ensures.shaped in
    let all = rw c.in-Some.is at c.in_ok-more.ensures.all in
    let behind : AreBehind more = (rise_behind before.shape more shaped.1).1 in
    on_ok_weaker c.append_elements.result (λ done clean.
    let v2 = g.S.Store.view c.append_elements.new.store in
    let clean_1 : IsClean v1 = omega (arith, clean, c.append_elements.ensures.harmless.quiet.clean) in
    let clean_0 : IsClean v0 = omega (arith, clean_1, c.put_extent.ensures.harmless.quiet.clean) in
    let clean_before : IsClean before = omega (arith, clean_0, c.are_places_free.ensures.harmless.quiet.clean) in
    let shape : v0.shape ≡ before.shape = c.are_places_free.ensures.harmless.schema.shape in
    let elements : WritesElements more v1 v2 ps = subst (λ (m : List Index). WritesElements m v1 v2 ps) c.as_slice.ensures.value (done clean) in
    let wrote : WritesUncommitted more before v2 extent ps =
    written_after more before v0 v2 extent ps (c.in_ok-are_free.ensures.reads clean_0)
    (written more behind v0 v1 v2 extent ps (c.in_ok-put_extent.ensures.ok clean_1) elements (subst IsStoreAt (sym shape) shaped.0) (λ up. g.met.S.Store.ordered c.append_elements.new.store up)) in
    subst (λ (m : List Index). WritesUncommitted m before v2 extent ps) (all clean_before).1 wrote)
    c.append_elements.ensures.written
