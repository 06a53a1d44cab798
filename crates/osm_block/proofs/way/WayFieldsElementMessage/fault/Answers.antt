use Rattle.std.proofs.Common.{◌∙◌, ◌∷◌, []}
use Rattle.osm_block.specs.declared.fields.TheConstants.{WAY_REFS}
use Rattle.osm_block.proofs.FieldLemmas.{array_fault, element_fault, last_array}
use Rattle.osm_block.proofs.way.WayFieldsElementMessage.fault.Goals as goal

pub returns : goal.returns
returns c = λ fs read. c.fault.ensures ∙ element_fault _ (WAY_REFS ∷ []) fs _ read.element (last_array WAY_REFS fs _ (array_fault _ WAY_REFS fs read.refs))
