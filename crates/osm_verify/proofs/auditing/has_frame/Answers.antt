use Rattle.std.proofs.Common.{◌+◌, ◌∙◌, IsTrue, List, length, refl, sym, subst}
use Rattle.std.specs.List.{AllByRecursion}
use Rattle.std.proofs.lemmas.Result.{IfOk-weaker}
use Rattle.osm_value.specs.declared.element.Element.{Element}
use Rattle.osm_value.specs.Elements.{IsElement}
use Rattle.osm_rows.specs.Held.{Blob}
use Rattle.osm_reading.specs.Good.{IsGood}
use Rattle.osm_import.specs.Step.{IsEntry}
use Rattle.osm_import.proofs.Delivering.{few-texts}
use Rattle.osm_verify.proofs.AuditLemmas.{frame-told, held-told, plain-each}
use Rattle.osm_verify.proofs.auditing.has_frame.Goals as goal

pub returns-clause-told : goal.returns-clause-told
returns-clause-told g c honest tables =
    let off = c.args.off in
    let bytes = c.args.bytes.now in
    let blob : Blob = record { fin = off + length bytes; digest = c.digest-digest.result; kind = c.args.good.now.kind; elements = c.deref-2.result.now } in
    let good : IsGood off bytes c.args.good.now.kind c.deref-2.result.now = subst (λ (es : List Element). IsGood off bytes c.args.good.now.kind es) (sym c.deref-2.ensures.value) c.requires in
    let entry : IsEntry off bytes blob = record { good = good; ends = refl; digested = c.digest-digest.ensures } in
    let A = g.K.Audited in
    let db = A.trees c.args.store.now in
    IfOk-weaker c.has_blob.result _ _
    (λ b told. frame-told (A.has_rows db off) A.layout db off bytes blob c.args.good.now.elements.items b (λ other has. g.met.K.Audited.shown db off other has) entry c.deref-2.ensures.value told) (c.has_blob.ensures.told honest tables)

pub returns-clause-held : goal.returns-clause-held
returns-clause-held g c held holds honest =
    let off = c.args.off in
    let bytes = c.args.bytes.now in
    let kind = c.args.good.now.kind in
    let elements = c.deref-2.result.now in
    let blob : Blob = record { fin = off + length bytes; digest = c.digest-digest.result; kind = kind; elements = elements } in
    let good : IsGood off bytes kind elements = subst (λ (es : List Element). IsGood off bytes kind es) (sym c.deref-2.ensures.value) c.requires in
    let entry : IsEntry off bytes blob = record { good = good; ends = refl; digested = c.digest-digest.ensures } in
    let in_range : AllByRecursion IsElement elements = subst (AllByRecursion IsElement) (c.deref.ensures.value ∙ sym c.deref-2.ensures.value) c.elements_in_range.ensures in
    IfOk-weaker c.has_blob.result _ _ (λ b told. held-told held off bytes blob (IsTrue b) entry told) (c.has_blob.ensures.held held holds honest (plain-each elements in_range (few-texts off bytes kind elements good)))
