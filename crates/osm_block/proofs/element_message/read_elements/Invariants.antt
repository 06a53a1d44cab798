use Rattle.std.proofs.Common.{◌≡◌, map, drop, take}
use Rattle.std.specs.List.{flat_map}
use Rattle.osm_block.specs.Fields.{context_of}
use Rattle.osm_block.specs.Phases.{first, message_phases}
use Rattle.osm_block.specs.Reads.{Says}
use Rattle.osm_block.proofs.LoopLemmas.{SoFar}
use Rattle.osm_block.proofs.element_message.read_elements.Given as goal

-- what was appended stands to the messages so far, and the first phase of the rest is that of all
abbrev pub invariant-loop-payload : goal.invariant-loop-payload
invariant-loop-payload g l =
    let b = context_of l.scale in
    let message = g.M.ElementMessage.message in
    record {
      so_far : SoFar (Says b) message (λ p. p.now) l.fn.out.items l.out.items (take l.payload-index l.payloads);
      phases : first (flat_map (message_phases b) (map message (map (λ p. p.now) (drop l.payload-index l.payloads)))) ≡ first (flat_map (message_phases b) (map message (map (λ p. p.now) l.payloads)));
    }
