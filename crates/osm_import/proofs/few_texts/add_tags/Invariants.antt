use Rattle.std.proofs.Common.{map, take}
use Rattle.osm_write.specs.Canon.{tag_texts}
use Rattle.osm_import.specs.SeenTexts.{AddsTexts}
use Rattle.osm_import.proofs.few_texts.add_tags.Given as goal

abbrev pub invariant-loop-tag : goal.invariant-loop-tag
invariant-loop-tag l = AddsTexts l.fn.seen l.seen (tag_texts (map (λ t. (t.0.now, t.1.now)) (take l.tag-index l.tags)))
