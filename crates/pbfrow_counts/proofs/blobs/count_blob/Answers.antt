use Rattle.std.proofs.Common.{◌≡◌, ◌∙◌, List, length, ap, subst, arith}
use Rattle.osm_value.specs.declared.element.Element.{Element}
use Rattle.osm_rows.proofs.LoadLemmas.ElementKinds.{found_as}
use Rattle.osm_import.proofs.WalkLemmas.{counted-by}
use Rattle.pbfrow_counts.specs.Counting.{CountsMore}
use Rattle.pbfrow_counts.proofs.blobs.count_blob.Goals as goal

pub returns-clause-held : goal.returns-clause-held
returns-clause-held g c = λ held blob holds honest found is.
    let same : c.deref.result.now ≡ blob.elements = c.deref.ensures.value ∙ found_as (λ made. made.items ≡ blob.elements) _ _ (c.in_ok-elements.ensures blob.elements (c.in_ok-loaded.ensures.rows held blob holds honest found)) c.in-Some.is in
    subst (λ (es : List Element). CountsMore c.args.counts.now es c.add.new.self) same c.add.ensures

pub returns-clause-complete : goal.returns-clause-complete
returns-clause-complete g c =
    let same = ap length c.deref.ensures.value in
    let counted : length c.deref.result.now ≡ c.args.extent.now.n = omega (arith, same, c.len.ensures, c.if-len-extent.false) in
    (c.deref.result.now, counted, c.add.ensures)

pub returns-then-len-extent-clause-own : goal.returns-then-len-extent-clause-own
returns-then-len-extent-clause-own g c = λ held blob holds honest found is.
    let counted = counted-by c.args.extent.now.off c.args.extent.now blob c.in-Some.elements.items is (found_as (λ made. made.items ≡ blob.elements) _ _ (c.in_ok-elements.ensures blob.elements (c.in_ok-loaded.ensures.rows held blob holds honest found)) c.in-Some.is) in
    absurd (omega (arith, c.len.ensures, c.if-len-extent.true, counted))

pub returns-in_default-clause-own : goal.returns-in_default-clause-own
returns-in_default-clause-own g c = λ held blob holds honest found is.
    absurd (found_as (λ made. made.items ≡ blob.elements) _ _ (c.in_ok-elements.ensures blob.elements (c.in_ok-loaded.ensures.rows held blob holds honest found)) c.in_default.is)
