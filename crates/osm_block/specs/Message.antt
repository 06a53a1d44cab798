-- The messages of osmformat.proto, as they are read from field lists: nothing is computed from them yet.
use Rattle.std.specs.Prelude.{ℕ, List, [], ◌∷◌, ◌++◌, map, Option, ℤ, pos, Bool, not, ◌==◌, option_map, unwrap_or}
use Rattle.std.specs.List.{flat_map}
use Rattle.pbf_wire.specs.declared.fault.WireFault.{WireFault}
use Rattle.osm_block.specs.declared.fields.TheConstants.{BLOCK_DATE_GRANULARITY, BLOCK_GRANULARITY, BLOCK_LAT_OFFSET, BLOCK_LON_OFFSET, BLOCK_STRINGTABLE, DENSEINFO_CHANGESET, DENSEINFO_TIMESTAMP, DENSEINFO_UID, DENSEINFO_USER_SID, DENSEINFO_VERSION, DENSEINFO_VISIBLE, DENSE_DENSEINFO, DENSE_ID, DENSE_KEYS_VALS, DENSE_LAT, DENSE_LON, ELEMENT_ID, ELEMENT_INFO, ELEMENT_KEYS, ELEMENT_VALS, GROUP_DENSE, GROUP_NODES, GROUP_RELATIONS, GROUP_WAYS, INFO_CHANGESET, INFO_TIMESTAMP, INFO_UID, INFO_USER_SID, INFO_VERSION, INFO_VISIBLE, NODE_LAT, NODE_LON, RELATION_MEMIDS, RELATION_ROLES_SID, RELATION_TYPES, STRINGTABLE_S, WAY_REFS}
use Rattle.osm_value.specs.Value.{Text}
use Rattle.pbf_wire.specs.Field.{Entry}
use Rattle.pbf_wire.specs.Readings.{fields, wire, packed, int64, int32, uint32, sint64, sint32, last, each, nums, sub}

-- ---- the messages (osmformat.proto)

-- a bool is true where its number isn't 0
abbrev pub boolean : ℕ → Bool
boolean n = not (n == 0)

pub record InfoMessage : Type 0 where
  pub version : Option ℤ
  pub timestamp : Option ℤ
  pub changeset : Option ℤ
  pub uid : Option ℤ
  pub user_sid : Option ℤ
  pub visible : Option Bool

abbrev pub info_message : List Entry → InfoMessage
info_message fs = record {
  version = option_map int32 (last fs INFO_VERSION);
  timestamp = option_map int64 (last fs INFO_TIMESTAMP);
  changeset = option_map int64 (last fs INFO_CHANGESET);
  uid = option_map int32 (last fs INFO_UID);
  user_sid = option_map uint32 (last fs INFO_USER_SID);
  visible = option_map boolean (last fs INFO_VISIBLE);
}

pub record DenseInfoMessage : Type 0 where
  pub version : List ℤ
  pub timestamp : List ℤ
  pub changeset : List ℤ
  pub uid : List ℤ
  pub user_sid : List ℤ
  pub visible : List Bool

abbrev pub dense_info_message : List Entry → DenseInfoMessage
dense_info_message fs = record {
  version = map int32 (nums fs DENSEINFO_VERSION);
  timestamp = map sint64 (nums fs DENSEINFO_TIMESTAMP);
  changeset = map sint64 (nums fs DENSEINFO_CHANGESET);
  uid = map sint32 (nums fs DENSEINFO_UID);
  user_sid = map sint32 (nums fs DENSEINFO_USER_SID);
  visible = map boolean (nums fs DENSEINFO_VISIBLE);
}

pub record NodeMessage : Type 0 where
  pub id : Option ℤ
  pub keys : List ℤ
  pub vals : List ℤ
  pub info : InfoMessage
  pub lat : Option ℤ
  pub lon : Option ℤ

abbrev pub node_message : List Entry → NodeMessage
node_message fs = record {
  id = option_map sint64 (last fs ELEMENT_ID);
  keys = map uint32 (nums fs ELEMENT_KEYS);
  vals = map uint32 (nums fs ELEMENT_VALS);
  info = info_message (sub fs ELEMENT_INFO);
  lat = option_map sint64 (last fs NODE_LAT);
  lon = option_map sint64 (last fs NODE_LON);
}

pub record DenseMessage : Type 0 where
  pub id : List ℤ
  pub info : DenseInfoMessage
  pub lat : List ℤ
  pub lon : List ℤ
  pub keys_vals : List ℤ

abbrev pub dense_message : List Entry → DenseMessage
dense_message fs = record {
  id = map sint64 (nums fs DENSE_ID);
  info = dense_info_message (sub fs DENSE_DENSEINFO);
  lat = map sint64 (nums fs DENSE_LAT);
  lon = map sint64 (nums fs DENSE_LON);
  keys_vals = map int32 (nums fs DENSE_KEYS_VALS);
}

pub record WayMessage : Type 0 where
  pub id : Option ℤ
  pub keys : List ℤ
  pub vals : List ℤ
  pub info : InfoMessage
  pub refs : List ℤ

abbrev pub way_message : List Entry → WayMessage
way_message fs = record {
  id = option_map int64 (last fs ELEMENT_ID);
  keys = map uint32 (nums fs ELEMENT_KEYS);
  vals = map uint32 (nums fs ELEMENT_VALS);
  info = info_message (sub fs ELEMENT_INFO);
  refs = map sint64 (nums fs WAY_REFS);
}

pub record RelationMessage : Type 0 where
  pub id : Option ℤ
  pub keys : List ℤ
  pub vals : List ℤ
  pub info : InfoMessage
  pub roles_sid : List ℤ
  pub memids : List ℤ
  pub types : List ℤ

abbrev pub relation_message : List Entry → RelationMessage
relation_message fs = record {
  id = option_map int64 (last fs ELEMENT_ID);
  keys = map uint32 (nums fs ELEMENT_KEYS);
  vals = map uint32 (nums fs ELEMENT_VALS);
  info = info_message (sub fs ELEMENT_INFO);
  roles_sid = map int32 (nums fs RELATION_ROLES_SID);
  memids = map sint64 (nums fs RELATION_MEMIDS);
  types = map int32 (nums fs RELATION_TYPES);
}

-- what a block says for all its elements
pub record Context : Type 0 where
  pub table : List Text
  pub granularity : ℤ
  pub date_granularity : ℤ
  pub lat_offset : ℤ
  pub lon_offset : ℤ

abbrev pub context : List Entry → Context
context fs = record {
  table = each (sub fs BLOCK_STRINGTABLE) STRINGTABLE_S;
  granularity = unwrap_or (option_map int32 (last fs BLOCK_GRANULARITY)) (pos 100);
  date_granularity = unwrap_or (option_map int32 (last fs BLOCK_DATE_GRANULARITY)) (pos 1000);
  lat_offset = unwrap_or (option_map int64 (last fs BLOCK_LAT_OFFSET)) (pos 0);
  lon_offset = unwrap_or (option_map int64 (last fs BLOCK_LON_OFFSET)) (pos 0);
}

-- ---- which payloads a message is read from

-- A message of a group: a node, a way or a relation by its payload, and all dense payloads as one.
pub data Message : Type 0 where
  Plain : List ℕ → Message
  Dense : List (List ℕ) → Message
  Way : List ℕ → Message
  Relation : List ℕ → Message

abbrev pub messages : List Entry → List Message
messages gs = map Plain (each gs GROUP_NODES) ++ (Dense (each gs GROUP_DENSE) ∷ (map Way (each gs GROUP_WAYS) ++ map Relation (each gs GROUP_RELATIONS)))

-- the packed payloads of the number arrays k of ks
abbrev pub arrays : List ℕ → List Entry → List (Option WireFault)
arrays ks fs = flat_map (λ k. map packed (each fs k)) ks

-- of each payload that the message is read from, why it isn't what it should be: the message, its info, its number arrays
abbrev pub wires_with : List ℕ → List ℕ → List (Option WireFault)
wires_with ks p = wire p ∷ map wire (each (fields p) ELEMENT_INFO) ++ arrays ks (fields p)

abbrev pub wires : Message → List (Option WireFault)
wires (Plain p) = wires_with (ELEMENT_KEYS ∷ ELEMENT_VALS ∷ []) p
wires (Dense ps) = let fs = flat_map fields ps in
    map wire ps ++ map wire (each fs DENSE_DENSEINFO) ++ arrays (DENSE_ID ∷ DENSE_LAT ∷ DENSE_LON ∷ DENSE_KEYS_VALS ∷ []) fs
    ++ arrays (DENSEINFO_VERSION ∷ DENSEINFO_TIMESTAMP ∷ DENSEINFO_CHANGESET ∷ DENSEINFO_UID ∷ DENSEINFO_USER_SID ∷ DENSEINFO_VISIBLE ∷ []) (sub fs DENSE_DENSEINFO)
wires (Way p) = wires_with (ELEMENT_KEYS ∷ ELEMENT_VALS ∷ WAY_REFS ∷ []) p
wires (Relation p) = wires_with (ELEMENT_KEYS ∷ ELEMENT_VALS ∷ RELATION_ROLES_SID ∷ RELATION_MEMIDS ∷ RELATION_TYPES ∷ []) p
