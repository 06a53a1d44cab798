use Rattle.std.proofs.Common.{rules, ◌≡◌, ◌∷◌, ◌∙◌, [], List, Some, None, ap, subst}
use Rattle.std.specs.Prelude.{option_map}
use Rattle.pbf_wire.specs.Field.{Entry}
use Rattle.pbf_wire.specs.Readings.{fields, wire}
use Rattle.osm_block.specs.declared.fault.BlockFault.TheVariants as faults
use Rattle.osm_block.specs.declared.fields.TheConstants.{ELEMENT_KEYS, ELEMENT_VALS}
use Rattle.osm_block.specs.Phases.{first, wire_phases}
use Rattle.osm_block.proofs.FieldLemmas.{field_first, message_fault, no_message}
use Rattle.osm_block.proofs.element_message.read_message.Goals as goal

pub loop-field-preserved : goal.loop-field-preserved
loop-field-preserved g c =
    let first = field_first _ _ _ _ c.in-Some.ensures.steps c.in_ok-field.was in
    record {
      can = search rules;
      ends = search rules;
      fault = search rules;
      so_far = c.in_ok-take.ensures _ _ (subst (λ (fs : List Entry). g.M.ElementMessage.left c.loop-field.message fs (fields c.args.payload.now)) first c.loop-field.invariant.so_far);
    }

pub returns-in_err-field-clause-phase : goal.returns-in_err-field-clause-phase
returns-in_err-field-clause-phase g c =
    let p = c.args.payload.now in
    let wired = ap (λ ws. first (wire_phases ws)) (g.met.M.ElementMessage.is_wired p) in
    let is : wire p ≡ Some c.in_err-field.field-0.0 = search rules in
    let refused = wired ∙ no_message (ELEMENT_KEYS ∷ ELEMENT_VALS ∷ g.M.ElementMessage.own) p _ (ap (option_map faults.BlockWire) is) in
    search rules

pub returns-in-None-fault-clause-phase : goal.returns-in-None-fault-clause-phase
returns-in-None-fault-clause-phase g c =
    let p = c.args.payload.now in
    let wired = ap (λ ws. first (wire_phases ws)) (g.met.M.ElementMessage.is_wired p) in
    let none : wire p ≡ None = search rules in
    let left : g.M.ElementMessage.left c.loop-field.message [] (fields p) = search rules in
    (wired ∙ message_fault (ELEMENT_KEYS ∷ ELEMENT_VALS ∷ g.M.ElementMessage.own) p _ none (c.fault.ensures _ left) ∙ ap (option_map faults.BlockWire) c.in-None-fault.is, tt)

pub returns-in-Some-fault-clause-phase : goal.returns-in-Some-fault-clause-phase
returns-in-Some-fault-clause-phase g c =
    let p = c.args.payload.now in
    let wired = ap (λ ws. first (wire_phases ws)) (g.met.M.ElementMessage.is_wired p) in
    let none : wire p ≡ None = search rules in
    let left : g.M.ElementMessage.left c.loop-field.message [] (fields p) = search rules in
    rw c.from.ensures (wired ∙ message_fault (ELEMENT_KEYS ∷ ELEMENT_VALS ∷ g.M.ElementMessage.own) p _ none (c.fault.ensures _ left) ∙ ap (option_map faults.BlockWire) c.in-Some-fault.is)
