use Rattle.std.proofs.Common.{rules}
use Rattle.osm_block.proofs.node.NodeFieldsElementMessage.take.Goals as goal
use Rattle.osm_block.proofs.node.NodeFieldsElementMessage.take.Goals.{in_default-via-in-8+in_default, in_default-via-in-9+in_default, in_default-via-in_default}

pub returns-in_ok-take-in_default : goal.returns-in_ok-take-in_default
returns-in_ok-take-in_default c = λ rest whole before. record {
  element = c.in_ok-take-in_default.ensures rest whole before.element;
  lat = elim c.in_default.branch [ in_default-via-in-8+in_default w ↦ search rules | in_default-via-in-9+in_default w ↦ search rules | in_default-via-in_default w ↦ search rules ];
  lon = elim c.in_default.branch [ in_default-via-in-8+in_default w ↦ search rules | in_default-via-in-9+in_default w ↦ search rules | in_default-via-in_default w ↦ search rules ];
}
