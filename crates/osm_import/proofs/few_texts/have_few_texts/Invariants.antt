use Rattle.std.proofs.Common.{take}
use Rattle.osm_rows.specs.Held.{HaveFewTexts}
use Rattle.osm_import.proofs.few_texts.have_few_texts.Given as goal

abbrev pub invariant-loop-element : goal.invariant-loop-element
invariant-loop-element l = HaveFewTexts (take l.element-index l.elements)
