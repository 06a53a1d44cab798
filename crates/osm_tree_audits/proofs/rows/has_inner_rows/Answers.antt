use Rattle.std.proofs.Common.{arith, ◌≡◌, ◌∙◌, ap}
use Rattle.sqlite_trees.specs.View.{View, IsClean}
use Rattle.osm_rows.proofs.AuditLemmas.Telling.{ok_told}
use Rattle.osm_tree_audits.proofs.rows.has_inner_rows.Goals as goal

pub returns-clause-told : goal.returns-clause-told
returns-clause-told g c clean indexed look =
    let old = g.S.Store.view c.args.store.now in
    let first = g.S.Store.view c.has_rows_in.new.store in
    let second = g.S.Store.view c.has_rows_in-2.new.store in
    let clean_2 : IsClean second = omega (arith, clean, c.has_rows_in-3.ensures.looks.quiet.clean) in
    let clean_1 : IsClean first = omega (arith, clean_2, c.has_rows_in-2.ensures.looks.quiet.clean) in
    let one : first.trees ≡ old.trees = ap (λ (v : View). v.trees) (c.has_rows_in.ensures.looks.reads clean_1 (c.in_ok-has_rows_in.ensures.sound clean_1)) in
    let two : second.trees ≡ old.trees = ap (λ (v : View). v.trees) (c.has_rows_in-2.ensures.looks.reads clean_2 (c.in_ok-has_rows_in-2.ensures.sound clean_2)) ∙ one in
    let elements = (c.in_ok-has_rows_in.ensures.told clean_1 indexed look.elements.order).0 c.if-not-branch.false in
    let tagged = rw one at (c.in_ok-has_rows_in-2.ensures.told clean_2) in
    let tags = (tagged indexed look.tags.order).0 c.if-not-branch-2.false in
    let linked = rw two at (c.has_rows_in-3.ensures.told clean) in
    ok_told c.has_rows_in-3.result (λ b told. ((λ so. (elements, tags, told.0 so)), λ all. told.1 all.2)) (linked indexed look.links.order)
