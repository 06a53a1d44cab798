-- What the code keeps of a message while it reads it, as the message.
use Rattle.std.specs.Prelude.{map, option_map}
use Rattle.osm_block.specs.declared.scale.Scale.{Scale}
use Rattle.osm_block.specs.declared.info.InfoNumbers.{InfoNumbers}
use Rattle.osm_block.specs.declared.node.NodeFields.{NodeFields}
use Rattle.osm_block.specs.declared.way.WayFields.{WayFields}
use Rattle.osm_block.specs.declared.relation.RelationFields.{RelationFields}
use Rattle.osm_block.specs.Message.{boolean, Context, InfoMessage, NodeMessage, WayMessage, RelationMessage}
use Rattle.pbf_wire.specs.Readings.{sint64, int32, int64, uint32}

abbrev pub context_of : Scale → Context
context_of s = record { table = map (λ t. t.now) s.table.items; granularity = s.granularity; date_granularity = s.date_granularity; lat_offset = s.lat_offset; lon_offset = s.lon_offset }

abbrev pub info_message_of : InfoNumbers → InfoMessage
info_message_of i = record {
  version = option_map int32 i.version;
  timestamp = option_map int64 i.timestamp;
  changeset = option_map int64 i.changeset;
  uid = option_map int32 i.uid;
  user_sid = option_map uint32 i.user_sid;
  visible = option_map boolean i.visible;
}

abbrev pub node_message_of : NodeFields → NodeMessage
node_message_of n = record {
  id = option_map sint64 n.element.id;
  keys = map uint32 n.element.keys.numbers.items;
  vals = map uint32 n.element.vals.numbers.items;
  info = info_message_of n.element.info.numbers;
  lat = option_map sint64 n.lat;
  lon = option_map sint64 n.lon;
}

abbrev pub way_message_of : WayFields → WayMessage
way_message_of w = record {
  id = option_map int64 w.element.id;
  keys = map uint32 w.element.keys.numbers.items;
  vals = map uint32 w.element.vals.numbers.items;
  info = info_message_of w.element.info.numbers;
  refs = map sint64 w.refs.numbers.items;
}

abbrev pub relation_message_of : RelationFields → RelationMessage
relation_message_of r = record {
  id = option_map int64 r.element.id;
  keys = map uint32 r.element.keys.numbers.items;
  vals = map uint32 r.element.vals.numbers.items;
  info = info_message_of r.element.info.numbers;
  roles_sid = map int32 r.roles.numbers.items;
  memids = map sint64 r.memids.numbers.items;
  types = map int32 r.types.numbers.items;
}
