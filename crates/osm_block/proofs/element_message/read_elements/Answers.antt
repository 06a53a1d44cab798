use Rattle.std.proofs.Common.{rules, ◌∷◌, [], map}
use Rattle.std.specs.List.{flat_map}
use Rattle.osm_block.specs.Fields.{context_of}
use Rattle.osm_block.specs.Phases.{first, message_phases}
use Rattle.osm_block.specs.Reads.{Says}
use Rattle.osm_block.proofs.ReadingLemmas.{Refused, still_refused}
use Rattle.osm_block.proofs.LoopLemmas.{message_wire, phase-step, phase-stop, joins-step}
use Rattle.osm_block.proofs.element_message.read_elements.Goals as goal

pub returns-in_err-element-clause-phase : goal.returns-in_err-element-clause-phase
returns-in_err-element-clause-phase g c =
    let b = context_of c.args.scale.now in
    let message = g.M.ElementMessage.message in
    let refused : Refused (first (flat_map (message_phases b) (map message (map (λ p. p.now) c.args.payloads.now)))) c.in_err-element.field-0.0 =
    still_refused _ _ _ (phase-stop (message_phases b) message (λ p. p.now) c.args.payloads.now c.loop-payload.payload-index _ _ c.loop-payload-test.true c.loop-payload.invariant.phases) c.in_err-element.ensures in
    search rules

pub loop-payload-preserved : goal.loop-payload-preserved
loop-payload-preserved g c =
    let b = context_of c.args.scale.now in
    let message = g.M.ElementMessage.message in
    record {
      so_far = joins-step (Says b) message (λ p. p.now) c.args.payloads.now c.loop-payload.payload-index _ _ _ _ (c.in_ok-element.element ∷ []) c.loop-payload-test.true
          c.in_ok-push.ensures.items (message_wire b _ c.in_ok-element.ensures.0, c.in_ok-element.ensures.1) c.loop-payload.invariant.so_far;
      phases = phase-step (message_phases b) message (λ p. p.now) c.args.payloads.now c.loop-payload.payload-index _ _ c.loop-payload-test.true c.in_ok-element.ensures.0 c.loop-payload.invariant.phases;
    }
