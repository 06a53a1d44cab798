use Rattle.std.proofs.Common.{rules}
use Rattle.osm_block.specs.declared.fields.TheConstants.{RELATION_MEMIDS, RELATION_ROLES_SID, RELATION_TYPES}
use Rattle.osm_block.proofs.FieldLemmas.{array_past}
use Rattle.osm_block.proofs.relation.RelationFieldsElementMessage.take.Goals as goal

pub returns-in_ok-take-in_default : goal.returns-in_ok-take-in_default
returns-in_ok-take-in_default c = λ rest whole before. record {
  element = c.in_ok-take-in_default.ensures rest whole before.element;
  roles = array_past _ RELATION_ROLES_SID _ rest whole (search rules) before.roles;
  memids = array_past _ RELATION_MEMIDS _ rest whole (search rules) before.memids;
  types = array_past _ RELATION_TYPES _ rest whole (search rules) before.types;
}
