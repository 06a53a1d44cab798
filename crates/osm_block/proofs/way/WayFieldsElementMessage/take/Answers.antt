use Rattle.std.proofs.Common.{rules}
use Rattle.osm_block.specs.declared.fields.TheConstants.{WAY_REFS}
use Rattle.osm_block.proofs.FieldLemmas.{array_past}
use Rattle.osm_block.proofs.way.WayFieldsElementMessage.take.Goals as goal

pub returns-in_ok-take-in_default : goal.returns-in_ok-take-in_default
returns-in_ok-take-in_default c = λ rest whole before. record {
  element = c.in_ok-take-in_default.ensures rest whole before.element;
  refs = array_past _ WAY_REFS _ rest whole (search rules) before.refs;
}
