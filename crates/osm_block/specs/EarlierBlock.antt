-- What a primitive block said before flags of visibility were read: one with a flag said nothing. It is kept for the law that such a block still says the same.
use Rattle.std.specs.Prelude.{◌≡◌, ℕ, ◌≤◌, List, [], ◌∷◌, ◌++◌, map, length, ℤ, pos, ◌≤ℤ◌, Option, Some, None, option_map, IsNone, Bool, true, false, unwrap_or, IsTrue}
use Rattle.std.specs.List.{AllByRecursion, flat_map}
use Rattle.osm_value.specs.declared.element.Element.{Element}
use Rattle.osm_value.specs.declared.element.Element.TheVariants as elements
use Rattle.osm_value.specs.Ranges.{IsWide, IsText, IsTextOrNone, AreTags, IsMember, passes, is_wide, is_version, is_uid}
use Rattle.osm_value.specs.Value.{InfoValue, NodeValue, WayValue, RelationValue}
use Rattle.pbf_wire.specs.declared.fault.WireFault.{WireFault}
use Rattle.pbf_wire.specs.Field.{Content, Number, Bytes, Entry}
use Rattle.pbf_wire.specs.Readings.{fields, wire, int64, int32, uint32, sint64, sint32, number_of, fitting, last, each, nums, sub, is_there}
use Rattle.osm_block.specs.declared.fields.TheConstants.{BLOCK_PRIMITIVEGROUP, BLOCK_STRINGTABLE, DENSEINFO_CHANGESET, DENSEINFO_TIMESTAMP, DENSEINFO_UID, DENSEINFO_USER_SID, DENSEINFO_VERSION, DENSEINFO_VISIBLE, DENSE_DENSEINFO, DENSE_ID, DENSE_KEYS_VALS, DENSE_LAT, DENSE_LON, ELEMENT_ID, ELEMENT_INFO, ELEMENT_KEYS, ELEMENT_VALS, INFO_CHANGESET, INFO_TIMESTAMP, INFO_UID, INFO_USER_SID, INFO_VERSION, INFO_VISIBLE, NODE_LAT, NODE_LON, RELATION_MEMIDS, RELATION_ROLES_SID, RELATION_TYPES, WAY_REFS}
use Rattle.osm_block.specs.Message.{Context, Message, Plain, Dense, Way, Relation, messages, context, arrays, wires_with}
use Rattle.osm_block.specs.Block.{coordinate, time, version, kind, text_at, texts_at, all_there, TagsAt, values_for, Stands, StandsOrNone, Joins, kinds_in}
use Rattle.osm_block.specs.Differences.{Diff}
use Rattle.osm_block.specs.DenseTags.{Pair, Tags}

-- ---- the ranges of values

-- an info inside its ranges; no flag of visibility is held yet
pub record IsInfo (i : InfoValue) : Type 0 where
  pub version : IsTrue (passes is_version i.version)
  pub time : IsTrue (passes is_wide i.time)
  pub changeset : IsTrue (passes is_wide i.changeset)
  pub uid : IsTrue (passes is_uid i.uid)
  pub user : IsTextOrNone i.user
  pub visible : i.visible ≡ None

pub record IsNode (n : NodeValue) : Type 0 where
  pub id : IsWide n.id
  pub lat : IsWide n.lat
  pub lon : IsWide n.lon
  pub tags : AreTags n.tags
  pub info : IsInfo n.info

pub record IsWay (w : WayValue) : Type 0 where
  pub id : IsWide w.id
  pub refs : AllByRecursion IsWide w.refs
  pub tags : AreTags w.tags
  pub info : IsInfo w.info

pub record IsRelation (r : RelationValue) : Type 0 where
  pub id : IsWide r.id
  pub members : AllByRecursion IsMember r.members
  pub tags : AreTags r.tags
  pub info : IsInfo r.info

-- ---- the messages

pub record InfoMessage : Type 0 where
  pub version : Option ℤ
  pub timestamp : Option ℤ
  pub changeset : Option ℤ
  pub uid : Option ℤ
  pub user_sid : Option ℤ
  pub is_visible_there : Bool

abbrev pub info_message : List Entry → InfoMessage
info_message fs = record {
  version = option_map int32 (last fs INFO_VERSION);
  timestamp = option_map int64 (last fs INFO_TIMESTAMP);
  changeset = option_map int64 (last fs INFO_CHANGESET);
  uid = option_map int32 (last fs INFO_UID);
  user_sid = option_map uint32 (last fs INFO_USER_SID);
  is_visible_there = is_there (fitting number_of INFO_VISIBLE fs);
}

-- a number, or a packed payload that isn't empty
abbrev pub some_visible : Content → Option Content
some_visible (Number n) = Some (Number n)
some_visible (Bytes (b ∷ bs)) = Some (Bytes (b ∷ bs))
some_visible _ = None

pub record DenseInfoMessage : Type 0 where
  pub version : List ℤ
  pub timestamp : List ℤ
  pub changeset : List ℤ
  pub uid : List ℤ
  pub user_sid : List ℤ
  pub is_visible_there : Bool

abbrev pub dense_info_message : List Entry → DenseInfoMessage
dense_info_message fs = record {
  version = map int32 (nums fs DENSEINFO_VERSION);
  timestamp = map sint64 (nums fs DENSEINFO_TIMESTAMP);
  changeset = map sint64 (nums fs DENSEINFO_CHANGESET);
  uid = map sint32 (nums fs DENSEINFO_UID);
  user_sid = map sint32 (nums fs DENSEINFO_USER_SID);
  is_visible_there = is_there (fitting some_visible DENSEINFO_VISIBLE fs);
}

pub record NodeMessage : Type 0 where
  pub id : Option ℤ
  pub keys : List ℤ
  pub vals : List ℤ
  pub info : InfoMessage
  pub lat : Option ℤ
  pub lon : Option ℤ

abbrev pub node_message : List Entry → NodeMessage
node_message fs = record {
  id = option_map sint64 (last fs ELEMENT_ID);
  keys = map uint32 (nums fs ELEMENT_KEYS);
  vals = map uint32 (nums fs ELEMENT_VALS);
  info = info_message (sub fs ELEMENT_INFO);
  lat = option_map sint64 (last fs NODE_LAT);
  lon = option_map sint64 (last fs NODE_LON);
}

pub record DenseMessage : Type 0 where
  pub id : List ℤ
  pub info : DenseInfoMessage
  pub lat : List ℤ
  pub lon : List ℤ
  pub keys_vals : List ℤ

abbrev pub dense_message : List Entry → DenseMessage
dense_message fs = record {
  id = map sint64 (nums fs DENSE_ID);
  info = dense_info_message (sub fs DENSE_DENSEINFO);
  lat = map sint64 (nums fs DENSE_LAT);
  lon = map sint64 (nums fs DENSE_LON);
  keys_vals = map int32 (nums fs DENSE_KEYS_VALS);
}

pub record WayMessage : Type 0 where
  pub id : Option ℤ
  pub keys : List ℤ
  pub vals : List ℤ
  pub info : InfoMessage
  pub refs : List ℤ

abbrev pub way_message : List Entry → WayMessage
way_message fs = record {
  id = option_map int64 (last fs ELEMENT_ID);
  keys = map uint32 (nums fs ELEMENT_KEYS);
  vals = map uint32 (nums fs ELEMENT_VALS);
  info = info_message (sub fs ELEMENT_INFO);
  refs = map sint64 (nums fs WAY_REFS);
}

pub record RelationMessage : Type 0 where
  pub id : Option ℤ
  pub keys : List ℤ
  pub vals : List ℤ
  pub info : InfoMessage
  pub roles_sid : List ℤ
  pub memids : List ℤ
  pub types : List ℤ

abbrev pub relation_message : List Entry → RelationMessage
relation_message fs = record {
  id = option_map int64 (last fs ELEMENT_ID);
  keys = map uint32 (nums fs ELEMENT_KEYS);
  vals = map uint32 (nums fs ELEMENT_VALS);
  info = info_message (sub fs ELEMENT_INFO);
  roles_sid = map int32 (nums fs RELATION_ROLES_SID);
  memids = map sint64 (nums fs RELATION_MEMIDS);
  types = map int32 (nums fs RELATION_TYPES);
}

abbrev pub wires : Message → List (Option WireFault)
wires (Plain p) = wires_with (ELEMENT_KEYS ∷ ELEMENT_VALS ∷ []) p
wires (Dense ps) = let fs = flat_map fields ps in
    map wire ps ++ map wire (each fs DENSE_DENSEINFO) ++ arrays (DENSE_ID ∷ DENSE_LAT ∷ DENSE_LON ∷ DENSE_KEYS_VALS ∷ []) fs
    ++ arrays (DENSEINFO_VERSION ∷ DENSEINFO_TIMESTAMP ∷ DENSEINFO_CHANGESET ∷ DENSEINFO_UID ∷ DENSEINFO_USER_SID ∷ []) (sub fs DENSE_DENSEINFO)
wires (Way p) = wires_with (ELEMENT_KEYS ∷ ELEMENT_VALS ∷ WAY_REFS ∷ []) p
wires (Relation p) = wires_with (ELEMENT_KEYS ∷ ELEMENT_VALS ∷ RELATION_ROLES_SID ∷ RELATION_MEMIDS ∷ RELATION_TYPES ∷ []) p

-- ---- nodes, ways and relations with a message of their own

pub record InfoOf (b : Context) (i : InfoValue) (m : InfoMessage) : Type 0 where
  pub version_is : i.version ≡ unwrap_or (option_map version m.version) None
  pub time_is : i.time ≡ option_map (time b.date_granularity) m.timestamp
  pub changeset_is : i.changeset ≡ m.changeset
  pub uid_is : i.uid ≡ m.uid
  pub user_is : option_map Some i.user ≡ option_map (text_at b.table) m.user_sid
  pub no_visible : m.is_visible_there ≡ false
  pub in_range : IsInfo i

pub record NodeOf (b : Context) (n : NodeValue) (m : NodeMessage) : Type 0 where
  pub id_is : Some n.id ≡ m.id
  pub lat_is : Some n.lat ≡ option_map (coordinate b.lat_offset b.granularity) m.lat
  pub lon_is : Some n.lon ≡ option_map (coordinate b.lon_offset b.granularity) m.lon
  pub tags_are : TagsAt b.table n.tags m.keys m.vals
  pub info_is : InfoOf b n.info m.info
  pub in_range : IsNode n

pub record WayOf (b : Context) (w : WayValue) (m : WayMessage) : Type 0 where
  pub id_is : Some w.id ≡ m.id
  pub refs_are : Diff w.refs m.refs
  pub tags_are : TagsAt b.table w.tags m.keys m.vals
  pub info_is : InfoOf b w.info m.info
  pub in_range : IsWay w

pub record RelationOf (b : Context) (r : RelationValue) (m : RelationMessage) : Type 0 where
  pub id_is : Some r.id ≡ m.id
  pub memids_are : Diff (map (λ x. x.id) r.members) m.memids
  pub roles_are : map (λ x. Some x.role) r.members ≡ map (text_at b.table) m.roles_sid
  pub types_are : map (λ x. Some x.kind) r.members ≡ map kind m.types
  pub tags_are : TagsAt b.table r.tags m.keys m.vals
  pub info_is : InfoOf b r.info m.info
  pub in_range : IsRelation r

-- ---- dense nodes

pub record DenseInfoOf (b : Context) (infos : List InfoValue) (m : DenseInfoMessage) : Type 0 where
  pub versions_are : map (λ i. i.version) infos ≡ values_for (length infos) (map version m.version)
  pub times_are : StandsOrNone (length infos) (map (λ i. i.time) infos) (time b.date_granularity) m.timestamp
  pub changesets_are : StandsOrNone (length infos) (map (λ i. i.changeset) infos) (λ v. v) m.changeset
  pub uids_are : StandsOrNone (length infos) (map (λ i. i.uid) infos) (λ v. v) m.uid
  pub users_are : StandsOrNone (length infos) (map (λ i. option_map Some i.user) infos) (text_at b.table) m.user_sid
  pub no_visible : m.is_visible_there ≡ false
  pub in_range : AllByRecursion IsInfo infos

pub record DenseOf (b : Context) (ns : List NodeValue) (m : DenseMessage) : Type 0 where
  pub ids_are : Diff (map (λ n. n.id) ns) m.id
  pub lats_are : Stands (map (λ n. n.lat) ns) (coordinate b.lat_offset b.granularity) m.lat
  pub lons_are : Stands (map (λ n. n.lon) ns) (coordinate b.lon_offset b.granularity) m.lon
  pub tags_are : (ts : List (List Pair)) × Tags ts m.keys_vals × (map (λ n. all_there n.tags) ns ≡ map (texts_at b.table) ts)
  pub infos_are : DenseInfoOf b (map (λ n. n.info) ns) m.info
  pub in_range : AllByRecursion IsNode ns

-- ---- a message, a group, a block

-- the payloads are field lists and packed arrays, as they should be
abbrev pub AllAreWire : Message → Type 0
AllAreWire m = AllByRecursion IsNone (wires m)

abbrev pub MessageOf : Context → List Element → Message → Type 0
MessageOf b es (Plain p) = (n : NodeValue) × (es ≡ elements.Node n ∷ []) × NodeOf b n (node_message (fields p))
MessageOf b es (Dense ps) = (ns : List NodeValue) × (es ≡ map elements.Node ns) × DenseOf b ns (dense_message (flat_map fields ps))
MessageOf b es (Way p) = (w : WayValue) × (es ≡ elements.Way w ∷ []) × WayOf b w (way_message (fields p))
MessageOf b es (Relation p) = (r : RelationValue) × (es ≡ elements.Relation r ∷ []) × RelationOf b r (relation_message (fields p))

pub record GroupOf (b : Context) (es : List Element) (g : List ℕ) : Type 0 where
  pub is_message : wire g ≡ None
  pub one_kind : kinds_in (fields g) ≤ 1
  pub elements_are : Joins (λ xs m. AllAreWire m × MessageOf b xs m) es (messages (fields g))

-- What a block said before flags of visibility were read: the same, but no info has a flag.
pub record Block (es : List Element) (w : List ℕ) : Type 0 where
  pub is_message : wire w ≡ None
  pub has_table : is_there (each (fields w) BLOCK_STRINGTABLE) ≡ true
  pub tables_are : AllByRecursion (λ p. wire p ≡ None) (each (fields w) BLOCK_STRINGTABLE)
  pub texts_are : AllByRecursion IsText (context (fields w)).table
  pub granularity : pos 1 ≤ℤ (context (fields w)).granularity
  pub date_granularity : pos 1 ≤ℤ (context (fields w)).date_granularity
  pub elements_are : Joins (GroupOf (context (fields w))) es (each (fields w) BLOCK_PRIMITIVEGROUP)
