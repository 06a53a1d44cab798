use Rattle.std.proofs.Common.{◌≡◌, List, refl, subst}
use Rattle.osm_value.specs.declared.element.Element.{Element}
use Rattle.osm_import.proofs.Delivering.{entry_at, entry_at-is}
use Rattle.osm_verify.specs.Audits.{CountsMore, IsEntryOf}
use Rattle.osm_verify.specs.declared.comparing.Agreement.TheVariants.{Same}
use Rattle.pbfrow_commands.proofs.verify.judge.Goals as goal

pub returns-in-Ok-compare-clause-judged : goal.returns-in-Ok-compare-clause-judged
returns-in-Ok-compare-clause-judged g c =
    let at = c.args.at in
    let bytes = c.args.bytes.now in
    let kind = c.in-Ok.good.kind in
    let elements = c.in-Ok.good.elements.items in
    let good = c.in-Ok.ensures.good bytes c.frame_of.ensures.whole in
    let entry : IsEntryOf (λ entry. Unit {0}) at bytes elements = record { entry = entry_at at bytes kind elements; is_entry = entry_at-is at bytes kind elements good; elements_are = refl; so = tt } in
    record {
      elements = elements;
      elements_are = entry;
      counted = subst (λ (es : List Element). CountsMore c.args.rows.now es c.add.new.self) c.deref.ensures.value c.add.ensures;
      compared = c.in-Ok-compare.ensures.compared;
      seen = λ honest up tables deep same. (let is : c.in-Ok-compare.agreement ≡ Same = cc in c.in-Ok-compare.ensures.rows honest up tables deep is);
    }
