use Rattle.std.proofs.Common.{◌∙◌, ◌∷◌, [], ap}
use Rattle.std.specs.Option.{option_or}
use Rattle.osm_block.specs.declared.fields.TheConstants.{RELATION_MEMIDS, RELATION_ROLES_SID, RELATION_TYPES}
use Rattle.osm_block.proofs.FieldLemmas.{array_fault, array_then, element_fault, last_array}
use Rattle.osm_block.proofs.relation.RelationFieldsElementMessage.fault.Goals as goal

pub returns : goal.returns
returns c = λ fs read.
    let types = last_array RELATION_TYPES fs _ (array_fault _ RELATION_TYPES fs read.types) in
    let memids = array_then RELATION_MEMIDS (RELATION_TYPES ∷ []) fs _ _ (array_fault _ RELATION_MEMIDS fs read.memids) types in
    let roles = array_then RELATION_ROLES_SID (RELATION_MEMIDS ∷ RELATION_TYPES ∷ []) fs _ _ (array_fault _ RELATION_ROLES_SID fs read.roles) memids in
    let members = c.or-members.ensures ∙ ap (option_or _) c.or.ensures in
    c.fault.ensures ∙ element_fault _ (RELATION_ROLES_SID ∷ RELATION_MEMIDS ∷ RELATION_TYPES ∷ []) fs _ read.element (members ∙ roles)
