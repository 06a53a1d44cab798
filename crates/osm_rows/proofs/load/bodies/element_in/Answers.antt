use Rattle.std.proofs.Common.{◌≡◌, None, Some, sym, ap, subst, ◌∙◌}
use Rattle.osm_block.specs.Block.{Block}
use Rattle.osm_block.specs.Phases.{fault}
use Rattle.osm_rows.proofs.MapLemmas.OneElement.{one_element, canon_faultless}
use Rattle.osm_rows.proofs.load.bodies.element_in.Goals as goal

pub returns-in-Ok : goal.returns-in-Ok
returns-in-Ok c e has few is = c.only_element.ensures e (one_element e _ has few (subst (Block c.in-Ok.elements.items) is c.in-Ok.ensures.1))

pub returns-in-Err-Fault : goal.returns-in-Err-Fault
returns-in-Err-Fault c e has few is =
    let none : fault c.args.block.now ≡ None = ap fault is ∙ canon_faultless e has few in
    let some = rw c.in-Err-Fault.field-0-is at c.in-Err-Fault.ensures in
    let both : None ≡ Some c.in-Err-Fault.field-0-0 = sym none ∙ some in
    absurd (cc)
