use Rattle.std.proofs.Common.{rules, ◌≡◌, map, Some}
use Rattle.std.specs.List.{flat_map}
use Rattle.osm_block.specs.Phases.{first, text_phases}
use Rattle.osm_block.proofs.HeadLemmas.{texts_stop}
use Rattle.osm_block.proofs.texts.read_texts.Goals as goal

pub returns-in_err-read_text-clause-phase : goal.returns-in_err-read_text-clause-phase
returns-in_err-read_text-clause-phase c =
    let stopped : first (flat_map text_phases (map (λ p. p.now) c.args.payloads.now)) ≡ Some c.in_err-read_text.field-0.0 =
    texts_stop (λ p. p.now) c.args.payloads.now c.loop-payload.payload-index _ _ _ c.loop-payload-test.true c.loop-payload.invariant.phases c.in_err-read_text.ensures.phase in
    search rules
