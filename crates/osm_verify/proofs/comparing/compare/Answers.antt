use Rattle.std.proofs.Common.{◌≡◌, ◌≢◌, ◌==◌, ◌∙◌, true, false, true≢false, Some, None, ap, subst, sym, rules}
use Rattle.std.specs.Prelude.{find}
use Rattle.sqlite.specs.Tree.{Trees}
use Rattle.osm_rows.specs.declared.keeper.Extent.{Extent}
use Rattle.osm_verify.specs.Agreements.{IsSame}
use Rattle.osm_verify.specs.Audits.{IsEntryOf}
use Rattle.osm_verify.specs.declared.comparing.Depth.{Depth}
use Rattle.osm_verify.specs.declared.comparing.Depth.TheVariants.{Extents, Elements}
use Rattle.osm_verify.proofs.HeldThere.{held-at, missing-at, other-extent, same-extent, same-deep, other-deep}
use Rattle.osm_verify.proofs.TellLemmas.{told-true, told-false}
use Rattle.osm_verify.proofs.comparing.compare.Goals as goal

pub returns-in-None-clause-compared : goal.returns-in-None-clause-compared
returns-in-None-clause-compared g c = λ held holds honest.
    missing-at held c.args.off c.args.bytes.now c.args.good.now.kind c.args.good.now.elements.items c.in_ok-touched.touched.items c.requires (g.met.K.BlobReader.is_apart _ held holds)
    (c.in_ok-touched.ensures.touching held holds honest)
    (λ extent here. (let bad : None ≡ Some extent = c.in-None.ensures ∙ ap (find (λ (e : Extent). e.off == c.args.off)) c.deref.ensures.value ∙ here in cc))

pub returns-then-not-is_extent_of-clause-compared : goal.returns-then-not-is_extent_of-clause-compared
returns-then-not-is_extent_of-clause-compared g c = λ held holds honest.
    let at = held-at held c.args.off c.args.bytes.now c.args.good.now.kind c.args.good.now.elements.items c.in_ok-touched.touched.items c.in-Some.found c.requires (g.met.K.BlobReader.is_apart _ held holds)
    (c.in_ok-touched.ensures.touching held holds honest) (c.in-Some.ensures ∙ ap (find (λ (e : Extent). e.off == c.args.off)) c.deref.ensures.value) in
    let test : c.is_extent_of.result ≡ false = search rules in
    other-extent c.args.depth held c.args.off c.args.bytes.now c.args.good.now.kind c.args.good.now.elements.items c.in-Some.found c.requires at (told-false c.is_extent_of.result _ test c.is_extent_of.ensures)

pub returns-then-eq-clause-compared : goal.returns-then-eq-clause-compared
returns-then-eq-clause-compared g c = λ held holds honest.
    let at = held-at held c.args.off c.args.bytes.now c.args.good.now.kind c.args.good.now.elements.items c.in_ok-touched.touched.items c.in-Some.found c.requires (g.met.K.BlobReader.is_apart _ held holds)
    (c.in_ok-touched.ensures.touching held holds honest) (c.in-Some.ensures ∙ ap (find (λ (e : Extent). e.off == c.args.off)) c.deref.ensures.value) in
    let test : c.is_extent_of.result ≡ true = search rules in
    let shallow : c.args.depth ≡ Extents = search rules in
    subst (λ (d : Depth). IsSame d held c.args.off c.args.bytes.now) (sym shallow) (same-extent held c.args.off c.args.bytes.now c.args.good.now.kind c.args.good.now.elements.items c.in-Some.found c.requires at (told-true c.is_extent_of.result _ test c.is_extent_of.ensures))

pub returns-then-branch-clause-compared : goal.returns-then-branch-clause-compared
returns-then-branch-clause-compared g c = λ held holds honest.
    let asked = c.in_ok-has_frame.ensures in
    let earlier = asked.rereads.stays.honest honest in
    let told = asked.held held (c.in_ok-touched.ensures.reads.ok earlier held holds) honest in
    let deep : c.args.depth ≢ Extents = search rules in
    same-deep c.args.depth held c.args.off c.args.bytes.now deep (told.0 c.if-branch.true)

pub returns-clause-compared : goal.returns-clause-compared
returns-clause-compared g c = λ held holds honest.
    let asked = c.in_ok-has_frame.ensures in
    let earlier = asked.rereads.stays.honest honest in
    let at = held-at held c.args.off c.args.bytes.now c.args.good.now.kind c.args.good.now.elements.items c.in_ok-touched.touched.items c.in-Some.found c.requires (g.met.K.BlobReader.is_apart _ held holds)
    (c.in_ok-touched.ensures.touching held holds earlier) (c.in-Some.ensures ∙ ap (find (λ (e : Extent). e.off == c.args.off)) c.deref.ensures.value) in
    let deep : c.args.depth ≢ Extents = search rules in
    let told = asked.held held (c.in_ok-touched.ensures.reads.ok earlier held holds) honest in
    other-deep c.args.depth held c.args.off c.args.bytes.now c.args.good.now.kind c.args.good.now.elements.items c.in-Some.found c.requires at (λ same. true≢false (sym (told.1 same) ∙ c.if-branch.false)) deep

-- ---- whatever rows the tables have

pub returns-in-None-clause-rows : goal.returns-in-None-clause-rows
returns-in-None-clause-rows g c = λ honest up tables deep same. absurd (cc)

pub returns-then-not-is_extent_of-clause-rows : goal.returns-then-not-is_extent_of-clause-rows
returns-then-not-is_extent_of-clause-rows g c = λ honest up tables deep same. absurd (cc)

pub returns-then-eq-clause-rows : goal.returns-then-eq-clause-rows
returns-then-eq-clause-rows g c = λ honest up tables deep same.
    let shallow : c.args.depth ≡ Extents = search rules in
    let bad : Extents ≡ Elements = sym shallow ∙ deep in absurd (cc)

pub returns-then-branch-clause-rows : goal.returns-then-branch-clause-rows
returns-then-branch-clause-rows g c = λ honest up tables deep same.
    let K = g.K.Audited in
    let asked = c.in_ok-has_frame.ensures in
    let first = c.in_ok-touched.ensures.reads.same (asked.rereads.stays.honest honest) (asked.rereads.stays.open_if up) in
    subst (λ (db : Trees). IsEntryOf (K.has_rows db c.args.off) c.args.off c.args.bytes.now c.args.good.now.elements.items) (g.met.K.Audited.same_trees _ _ first) ((asked.told honest (g.met.K.Audited.same_has_tables _ _ first tables)).whether.0 c.if-branch.true)

pub returns-clause-rows : goal.returns-clause-rows
returns-clause-rows g c = λ honest up tables deep same. absurd (cc)

pub returns-then-branch-clause-same : goal.returns-then-branch-clause-same
returns-then-branch-clause-same g c = λ honest up.
    let asked = c.in_ok-has_frame.ensures in
    g.met.K.BlobReader.same_tables_then _ _ _ (c.in_ok-touched.ensures.reads.same (asked.rereads.stays.honest honest) (asked.rereads.stays.open_if up)) (asked.same honest up)

pub returns-clause-same : goal.returns-clause-same
returns-clause-same g c = λ honest up.
    let asked = c.in_ok-has_frame.ensures in
    g.met.K.BlobReader.same_tables_then _ _ _ (c.in_ok-touched.ensures.reads.same (asked.rereads.stays.honest honest) (asked.rereads.stays.open_if up)) (asked.same honest up)
