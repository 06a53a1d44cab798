-- What was read of a message so far, and what the fields that are left add to it.
use Rattle.std.specs.Prelude.{◌≡◌, ℕ, ◌%◌, ◌^◌, List, [], ◌∷◌, ◌++◌, map, Option, None, Bool, ◌&&◌, nat_lt}
use Rattle.std.specs.List.{flat_map, list_all}
use Rattle.std.specs.Option.{option_or}
use Rattle.pbf_wire.specs.declared.fault.WireFault.{WireFault}
use Rattle.pbf_wire.specs.Field.{Content, Number, Bytes, Entry}
use Rattle.pbf_wire.specs.FieldList.{last_or}
use Rattle.pbf_wire.specs.Readings.{fields, wire, numbers, packed, fitting, number_of, last, each, nums}
use Rattle.osm_value.specs.Ranges.{passes}
use Rattle.osm_block.specs.declared.fields.TheConstants.{ELEMENT_ID, ELEMENT_INFO, ELEMENT_KEYS, ELEMENT_VALS, INFO_CHANGESET, INFO_TIMESTAMP, INFO_UID, INFO_USER_SID, INFO_VERSION, INFO_VISIBLE, NODE_LAT, NODE_LON, RELATION_MEMIDS, RELATION_ROLES_SID, RELATION_TYPES, WAY_REFS}
use Rattle.osm_block.specs.declared.number_array.NumberArray.{NumberArray}
use Rattle.osm_block.specs.declared.info.InfoNumbers.{InfoNumbers}
use Rattle.osm_block.specs.declared.info.InfoFields.{InfoFields}
use Rattle.osm_block.specs.declared.element_fields.ElementFields.{ElementFields}
use Rattle.osm_block.specs.declared.node.NodeFields.{NodeFields}
use Rattle.osm_block.specs.declared.way.WayFields.{WayFields}
use Rattle.osm_block.specs.declared.relation.RelationFields.{RelationFields}

-- a number, or a packed array of them
abbrev pub numbers_in : Content → List ℕ
numbers_in (Number n) = n ∷ []
numbers_in (Bytes bs) = numbers bs
numbers_in _ = []

abbrev pub fault_in : Content → Option WireFault
fault_in (Bytes bs) = packed bs
fault_in _ = None

-- the first one that is there
abbrev pub first_there : {A : Type 0} → List (Option A) → Option A
first_there [] = None
first_there (x ∷ xs) = option_or x (first_there xs)

-- the numbers of an Info after further fields
abbrev pub info_after : InfoNumbers → List Entry → InfoNumbers
info_after i fs = record {
  version = last_or i.version (fitting number_of INFO_VERSION fs);
  timestamp = last_or i.timestamp (fitting number_of INFO_TIMESTAMP fs);
  changeset = last_or i.changeset (fitting number_of INFO_CHANGESET fs);
  uid = last_or i.uid (fitting number_of INFO_UID fs);
  user_sid = last_or i.user_sid (fitting number_of INFO_USER_SID fs);
  visible = last_or i.visible (fitting number_of INFO_VISIBLE fs);
}

abbrev pub no_info : InfoNumbers
no_info = record { version = None; timestamp = None; changeset = None; uid = None; user_sid = None; visible = None }

-- ---- with what the rest of the fields add, it is what all fields say

pub record NumberLeft (before : Option ℕ) (k : ℕ) (rest whole : List Entry) : Type 0 where
  pub number : last_or before (fitting number_of k rest) ≡ last whole k

pub record ArrayLeft (array : NumberArray) (k : ℕ) (rest whole : List Entry) : Type 0 where
  pub numbers : array.numbers.items ++ nums rest k ≡ nums whole k
  pub fault : option_or array.fault (first_there (map packed (each rest k))) ≡ first_there (map packed (each whole k))

pub record InfoLeft (info : InfoFields) (k : ℕ) (rest whole : List Entry) : Type 0 where
  pub numbers : info_after info.numbers (flat_map fields (each rest k)) ≡ info_after no_info (flat_map fields (each whole k))
  pub fault : option_or info.fault (first_there (map wire (each rest k))) ≡ first_there (map wire (each whole k))

pub record ElementLeft (element : ElementFields) (rest whole : List Entry) : Type 0 where
  pub id : NumberLeft element.id ELEMENT_ID rest whole
  pub keys : ArrayLeft element.keys ELEMENT_KEYS rest whole
  pub vals : ArrayLeft element.vals ELEMENT_VALS rest whole
  pub info : InfoLeft element.info ELEMENT_INFO rest whole

pub record NodeLeft (node : NodeFields) (rest whole : List Entry) : Type 0 where
  pub element : ElementLeft node.element rest whole
  pub lat : NumberLeft node.lat NODE_LAT rest whole
  pub lon : NumberLeft node.lon NODE_LON rest whole

pub record WayLeft (way : WayFields) (rest whole : List Entry) : Type 0 where
  pub element : ElementLeft way.element rest whole
  pub refs : ArrayLeft way.refs WAY_REFS rest whole

pub record RelationLeft (relation : RelationFields) (rest whole : List Entry) : Type 0 where
  pub element : ElementLeft relation.element rest whole
  pub roles : ArrayLeft relation.roles RELATION_ROLES_SID rest whole
  pub memids : ArrayLeft relation.memids RELATION_MEMIDS rest whole
  pub types : ArrayLeft relation.types RELATION_TYPES rest whole

-- ---- indexes of 32 bits in a table of that many texts

abbrev pub all_below : ℕ → List ℕ → Bool
all_below texts indexes = list_all (λ i. nat_lt (i % 2 ^ 32) texts) indexes

abbrev pub user_in : ℕ → Option ℕ → Bool
user_in texts user = passes (λ i. nat_lt (i % 2 ^ 32) texts) user

abbrev pub tag_indexes_in : ℕ → List ℕ → List ℕ → Bool
tag_indexes_in texts keys vals = all_below texts keys && all_below texts vals

abbrev pub indexes_in : ℕ → List ℕ → List ℕ → Option ℕ → Bool
indexes_in texts keys vals user = tag_indexes_in texts keys vals && user_in texts user
