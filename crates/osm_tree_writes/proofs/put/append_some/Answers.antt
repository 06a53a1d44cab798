use Rattle.std.proofs.Common.{arith}
use Rattle.std.proofs.lemmas.Result.{on_ok_weaker}
use Rattle.sqlite_trees.specs.View.{IsClean}
use Rattle.osm_rows.specs.Rows.{placed}
use Rattle.osm_tree_writes.proofs.Writing.{appended, elements_apart, tags_apart, links_apart}
use Rattle.osm_tree_writes.proofs.put.append_some.Goals as goal

pub returns-clause-written : goal.returns-clause-written
returns-clause-written g c =
    let v0 = g.S.Store.view c.args.store.now in
    let v1 = g.S.Store.view c.append_rows.new.store in
    let v2 = g.S.Store.view c.append_rows-2.new.store in
    on_ok_weaker c.append_rows-3.result (λ done clean.
    let v3 = g.S.Store.view c.append_rows-3.new.store in
    let clean_2 : IsClean v2 = omega (arith, clean, c.append_rows-3.ensures.harmless.quiet.clean) in
    let clean_1 : IsClean v1 = omega (arith, clean_2, c.append_rows-2.ensures.harmless.quiet.clean) in
    appended c.args.more.now c.requires.behind v0 v1 v2 v3 (placed c.args.off c.args.first c.args.elements.now)
    (rw (c.deref.ensures.value, c.in_ok-rows.ensures) at (c.in_ok-append_rows.ensures.appended clean_1))
    (rw (c.deref-2.ensures.value, c.in_ok-tags.ensures) at (c.in_ok-append_rows-2.ensures.appended clean_2))
    (rw (c.deref-3.ensures.value, c.in_ok-links.ensures) at (done clean)))
    c.append_rows-3.ensures.appended

pub append_rows-requires-clause-apart_of : goal.append_rows-requires-clause-apart_of
append_rows-requires-clause-apart_of g c = elements_apart c.args.more.now c.requires.behind

pub append_rows-requires-2-clause-apart_of : goal.append_rows-requires-2-clause-apart_of
append_rows-requires-2-clause-apart_of g c = tags_apart c.args.more.now c.requires.behind

pub append_rows-requires-3-clause-apart_of : goal.append_rows-requires-3-clause-apart_of
append_rows-requires-3-clause-apart_of g c = links_apart c.args.more.now c.requires.behind
