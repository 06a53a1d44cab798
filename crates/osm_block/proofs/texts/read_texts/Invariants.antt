use Rattle.std.proofs.Common.{◌≡◌, map, drop, take}
use Rattle.std.specs.List.{flat_map, AllByRecursion}
use Rattle.osm_value.specs.Ranges.{IsText}
use Rattle.osm_block.specs.Phases.{first, text_phases}
use Rattle.osm_block.proofs.texts.read_texts.Given as goal

abbrev pub invariant-loop-payload : goal.invariant-loop-payload
invariant-loop-payload l = record {
  same : map (λ x. x.now) l.texts.items ≡ map (λ p. p.now) (take l.payload-index l.payloads);
  text : AllByRecursion IsText (map (λ p. p.now) (take l.payload-index l.payloads));
  phases : first (flat_map text_phases (map (λ p. p.now) (drop l.payload-index l.payloads))) ≡ first (flat_map text_phases (map (λ p. p.now) l.payloads));
}
