use Rattle.std.proofs.Common.{rules, ◌∷◌, [], sym, subst, Err}
use Rattle.std.specs.Prelude.{⊤}
use Rattle.osm_value.specs.declared.element.Element.{Element}
use Rattle.osm_block.specs.Message.{wires}
use Rattle.osm_block.specs.Block.{MessageOf}
use Rattle.osm_block.specs.Fields.{context_of}
use Rattle.osm_block.specs.Phases.{Gives, Phase, first, message_phases, phases_after_wire, wire_phases}
use Rattle.osm_block.proofs.ReadingLemmas.{Gives-err, first-append_some, first-append_none}
use Rattle.osm_block.proofs.element_message.read_element.Goals as goal

pub returns-in_err-read_message : goal.returns-in_err-read_message
returns-in_err-read_message g c =
    let b = context_of c.args.scale.now in
    let m = g.M.ElementMessage.message c.args.payload.now in
    let refused : Gives (λ (e : Element). MessageOf b (e ∷ []) m) (first (message_phases b m)) (Err c.in_err-read_message.field-0.0) =
    Gives-err {A = Unit {0}} (λ _. ⊤) (λ (e : Element). MessageOf b (e ∷ []) m) _ _ _ (λ f s. first-append_some (wire_phases (wires m)) _ f s) c.in_err-read_message.ensures.phase in
    search rules

pub returns : goal.returns
returns g c =
    let b = context_of c.args.scale.now in
    let m = g.M.ElementMessage.message c.args.payload.now in
    let past = first-append_none (wire_phases (wires m)) (phases_after_wire b m) c.in_ok-read_message.ensures.phase.0 in
    subst (λ (phase : Phase). Gives (λ (e : Element). MessageOf b (e ∷ []) m) phase c.element.result) (sym past) (c.element.ensures _ c.in_ok-read_message.ensures.read)
