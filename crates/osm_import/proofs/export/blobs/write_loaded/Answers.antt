use Rattle.std.proofs.Common.{◌≡◌, ◌∙◌, List, length, ap, subst, arith}
use Rattle.osm_value.specs.declared.element.Element.{Element}
use Rattle.osm_rows.proofs.LoadLemmas.ElementKinds.{found_as}
use Rattle.osm_import.proofs.WalkLemmas.{one-of, write-cause, write-own, complete-of, counted-by}
use Rattle.osm_import.proofs.export.blobs.write_loaded.Goals as goal

pub returns-clause-wrote : goal.returns-clause-wrote
returns-clause-wrote g c = λ blob rows counted.
    let same : c.deref.result.now ≡ blob.elements = c.deref.ensures.value ∙ found_as (λ made. made.items ≡ blob.elements) _ _ (c.in_ok-elements.ensures blob.elements rows) c.in-Some.is in
    one-of g.W.BlobStep.writes (g.S.Sink.written c.args.out.now) blob.elements (g.S.Sink.written c.write.new.out) c.write.result
    (subst (λ (es : List Element). g.W.BlobStep.writes (g.S.Sink.written c.args.out.now) es (g.S.Sink.written c.write.new.out) c.write.result) same c.write.ensures.wrote)

pub returns-clause-own : goal.returns-clause-own
returns-clause-own g c = write-own (g.S.Sink.has_failed c.write.new.out) c.write.result c.write.ensures.cause

pub returns-clause-cause : goal.returns-clause-cause
returns-clause-cause g c = λ before now. write-cause before now (g.S.Sink.has_failed c.write.new.out) c.write.result c.write.ensures.cause

pub returns-clause-complete : goal.returns-clause-complete
returns-clause-complete g c =
    let same = ap length c.deref.ensures.value in
    let counted : length c.deref.result.now ≡ c.args.extent.now.n = omega (arith, same, c.len.ensures, c.if-len-extent.false) in
    complete-of g.W.BlobStep.writes (g.S.Sink.written c.args.out.now) c.args.extent.now (g.S.Sink.written c.write.new.out) (g.S.Sink.has_failed c.write.new.out) c.write.result c.write.ensures.cause
    (c.deref.result.now, counted, c.write.ensures.wrote)

pub returns-then-len-extent-clause-wrote : goal.returns-then-len-extent-clause-wrote
returns-then-len-extent-clause-wrote g c = λ blob rows is.
    let counted = counted-by c.args.extent.now.off c.args.extent.now blob c.in-Some.elements.items is (found_as (λ made. made.items ≡ blob.elements) _ _ (c.in_ok-elements.ensures blob.elements rows) c.in-Some.is) in
    absurd (omega (arith, c.len.ensures, c.if-len-extent.true, counted))

pub returns-in_default-clause-wrote : goal.returns-in_default-clause-wrote
returns-in_default-clause-wrote g c = λ blob rows is.
    absurd (found_as (λ made. made.items ≡ blob.elements) _ _ (c.in_ok-elements.ensures blob.elements rows) c.in_default.is)
