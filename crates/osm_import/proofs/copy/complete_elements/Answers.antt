use Rattle.std.proofs.Common.{◌≡◌, ◌∙◌, List, length, ap, subst, arith}
use Rattle.osm_value.specs.declared.element.Element.{Element}
use Rattle.osm_rows.specs.Held.{HaveFewTexts}
use Rattle.osm_rows.proofs.LoadLemmas.ElementKinds.{found_as}
use Rattle.osm_import.proofs.CopiesLemmas.{never-many}
use Rattle.osm_import.proofs.copy.complete_elements.Goals as goal

pub returns-clause-complete : goal.returns-clause-complete
returns-clause-complete c = (omega (arith, c.len.ensures, c.if-len-extent.false), subst (λ (es : List Element). HaveFewTexts es) c.deref.ensures.value (c.in_ok-few.ensures.0 c.if-not-few.false))

pub returns-clause-held : goal.returns-clause-held
returns-clause-held c = λ blob rows few counted. found_as (λ made. made.items ≡ blob.elements) _ _ (c.in_ok-elements.ensures blob.elements rows) c.in-Some.is

pub returns-in_default-clause-held : goal.returns-in_default-clause-held
returns-in_default-clause-held c = λ blob rows few counted. absurd (found_as (λ made. made.items ≡ blob.elements) _ _ (c.in_ok-elements.ensures blob.elements rows) c.in_default.is)

pub returns-then-len-extent-clause-held : goal.returns-then-len-extent-clause-held
returns-then-len-extent-clause-held c = λ blob rows few counted.
    let same = ap length (found_as (λ made. made.items ≡ blob.elements) _ _ (c.in_ok-elements.ensures blob.elements rows) c.in-Some.is) in
    absurd (omega (arith, c.len.ensures, c.if-len-extent.true, counted, same))

pub returns-then-not-few-clause-held : goal.returns-then-not-few-clause-held
returns-then-not-few-clause-held c = λ blob rows few counted.
    let are = c.deref.ensures.value ∙ found_as (λ made. made.items ≡ blob.elements) _ _ (c.in_ok-elements.ensures blob.elements rows) c.in-Some.is in
    absurd (never-many _ c.in_ok-few.few blob.elements are few c.in_ok-few.ensures c.if-not-few.true)
