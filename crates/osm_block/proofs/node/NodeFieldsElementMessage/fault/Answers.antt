use Rattle.std.proofs.Common.{◌∙◌, [], refl}
use Rattle.osm_block.proofs.FieldLemmas.{element_fault}
use Rattle.osm_block.proofs.node.NodeFieldsElementMessage.fault.Goals as goal

pub returns : goal.returns
returns c = λ fs read. c.fault.ensures ∙ element_fault _ [] fs _ read.element refl
