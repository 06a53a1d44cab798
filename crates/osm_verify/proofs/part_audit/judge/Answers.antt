use Rattle.std.proofs.Common.{List, Option, refl, sym, ◌∙◌, subst}
use Rattle.osm_value.specs.declared.element.Element.{Element}
use Rattle.osm_import.proofs.Delivering.{entry_at, entry_at-is}
use Rattle.osm_verify.specs.Audits.{CountsMore, IsEntryOf}
use Rattle.osm_verify.specs.Judging.{IsFound}
use Rattle.osm_verify.specs.declared.part_audit.Finding.{Finding}
use Rattle.osm_verify.proofs.JudgingLemmas.{agreement-found, finding-none, none-is, none-same}
use Rattle.osm_verify.proofs.part_audit.judge.Goals as goal

pub returns-in_ok-agreement-in-Ok-clause-found : goal.returns-in_ok-agreement-in-Ok-clause-found
returns-in_ok-agreement-in-Ok-clause-found g c = λ held holds honest.
    subst (λ (found : Option Finding). IsFound c.args.depth held c.args.off c.args.bytes.now found) (sym c.finding_of.ensures)
    (agreement-found c.args.depth held c.args.off c.args.bytes.now c.in_ok-agreement-in-Ok.agreement (c.in_ok-agreement-in-Ok.ensures.compared held holds honest))

pub returns-in_ok-agreement-in-Ok-clause-seen : goal.returns-in_ok-agreement-in-Ok-clause-seen
returns-in_ok-agreement-in-Ok-clause-seen g c = λ none.
    let off = c.args.off in
    let bytes = c.args.bytes.now in
    let kind = c.in-Ok.good.kind in
    let elements = c.in-Ok.good.elements.items in
    let entry : IsEntryOf (λ entry. Unit {0}) off bytes elements = record { entry = entry_at off bytes kind elements; is_entry = entry_at-is off bytes kind elements c.in-Ok.ensures.good; elements_are = refl; so = tt } in
    record {
      elements = elements;
      good = entry;
      counted = subst (λ (es : List Element). CountsMore c.args.rows.now es c.add.new.self) c.deref.ensures.value c.add.ensures;
      rows = λ honest up tables deep. c.in_ok-agreement-in-Ok.ensures.rows honest up tables deep (none-same off c.in_ok-agreement-in-Ok.agreement (sym c.finding_of.ensures ∙ none-is c.finding_of.result none));
    }

pub returns-in-Err-Bad-clause-found : goal.returns-in-Err-Bad-clause-found
returns-in-Err-Bad-clause-found g c = λ held holds honest. (refl, finding-none c.args.off c.args.bytes.now c.in-Err-Bad.field-0 _ c.in-Err-Bad.field-0-is c.in-Err-Bad.ensures.bad)
