use Rattle.std.proofs.Common.{◌≡◌, ◌==◌, ◌∙◌, Some, length, sym, ap, rules}
use Rattle.std.specs.Prelude.{find}
use Rattle.std.proofs.lemmas.Slice.Eq.{bytes_eq-Decides}
use Rattle.std.proofs.lemmas.Bool.Decides.{not_from_Decides}
use Rattle.osm_rows.specs.declared.keeper.Extent.{Extent}
use Rattle.osm_import.proofs.Delivering.{found-at, free-of, met-of, unheld-at}
use Rattle.osm_import.proofs.place.place_of.Goals as goal

pub returns-then-eq-clause-place : goal.returns-then-eq-clause-place
returns-then-eq-clause-place g c = λ held holds honest.
    let same = (bytes_eq-Decides c.in-Some.extent.digest c.args.digest.now).0 (sym c.if-eq.ensures) in
    let found : Some c.in-Some.extent ≡ find (λ (extent : Extent). extent.off == c.args.off) c.in_ok-touched.touched.items
    = c.in-Some.ensures ∙ ap (find (λ (extent : Extent). extent.off == c.args.off)) c.deref.ensures.value in
    let it = found-at held c.args.off c.args.fin c.in_ok-touched.touched.items c.in-Some.extent (g.met.K.BlobReader.is_apart _ held holds) c.requires.order (c.in_ok-touched.ensures.touching held holds honest) found in
    (it.0, it.1, sym it.2 ∙ same)

pub returns-in-Some-clause-place : goal.returns-in-Some-clause-place
returns-in-Some-clause-place g c = λ held holds honest.
    let found : Some c.in-Some.extent ≡ find (λ (extent : Extent). extent.off == c.args.off) c.in_ok-touched.touched.items
    = c.in-Some.ensures ∙ ap (find (λ (extent : Extent). extent.off == c.args.off)) c.deref.ensures.value in
    let it = found-at held c.args.off c.args.fin c.in_ok-touched.touched.items c.in-Some.extent (g.met.K.BlobReader.is_apart _ held holds) c.requires.order (c.in_ok-touched.ensures.touching held holds honest) found in
    (it.0, it.1, λ same. not_from_Decides _ (bytes_eq-Decides c.in-Some.extent.digest c.args.digest.now) (sym c.if-eq.ensures) (it.2 ∙ same))

pub returns-then-is_empty-clause-place : goal.returns-then-is_empty-clause-place
returns-then-is_empty-clause-place g c = λ held holds honest.
    let none : length c.in_ok-touched.touched.items ≡ 0 = search rules in
    free-of held c.args.off c.args.fin c.in_ok-touched.touched.items (c.in_ok-touched.ensures.touching held holds honest) none

pub returns-clause-place : goal.returns-clause-place
returns-clause-place g c = λ held holds honest.
    let are = c.in_ok-touched.ensures.touching held holds honest in (
      unheld-at held c.args.off c.args.fin c.in_ok-touched.touched.items (g.met.K.BlobReader.is_apart _ held holds) c.requires.order are
          (λ extent here. c.in_default.not-Some extent (c.extent_at.ensures ∙ ap (find (λ (extent : Extent). extent.off == c.args.off)) c.deref.ensures.value ∙ here)),
      met-of held c.args.off c.args.fin c.in_ok-touched.touched.items are (search rules),
    )
