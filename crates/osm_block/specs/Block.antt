-- What a primitive block says (osmformat.proto, PrimitiveBlock; OpenStreetMap Wiki, "PBF Format", "Definition of OSMData fileblock").
use Rattle.std.specs.Prelude.{◌≡◌, ℕ, zero, suc, ◌≤◌, List, [], ◌∷◌, ◌++◌, map, length, replicate, ℤ, pos, negsuc, ◌+ℤ◌, ◌*ℤ◌, ◌≤ℤ◌, Option, Some, None, option_map, IsNone, true, slice_get, unwrap_or}
use Rattle.std.specs.List.{AllByRecursion, flat_map, count_by}
use Rattle.osm_value.specs.declared.element.MemberKind.{MemberKind}
use Rattle.osm_value.specs.declared.element.MemberKind.TheVariants as kinds
use Rattle.osm_value.specs.declared.element.Element.{Element}
use Rattle.osm_value.specs.declared.element.Element.TheVariants as elements
use Rattle.osm_value.specs.Ranges.{IsText, IsInfo, IsNode, IsWay, IsRelation}
use Rattle.osm_value.specs.Value.{Text, InfoValue, NodeValue, WayValue, RelationValue}
use Rattle.pbf_wire.specs.Field.{Entry}
use Rattle.pbf_wire.specs.Readings.{fields, wire, each, is_there}
use Rattle.osm_block.specs.declared.fields.TheConstants.{BLOCK_PRIMITIVEGROUP, BLOCK_STRINGTABLE, GROUP_DENSE, GROUP_NODES, GROUP_RELATIONS, GROUP_WAYS}
use Rattle.osm_block.specs.Message.{InfoMessage, DenseInfoMessage, NodeMessage, DenseMessage, WayMessage, RelationMessage, Context, Message, Plain, Dense, Way, Relation, messages, wires, context, node_message, dense_message, way_message, relation_message}
use Rattle.osm_block.specs.Differences.{Diff}
use Rattle.osm_block.specs.DenseTags.{Pair, Tags}

-- ---- what numbers stand for

-- a latitude or a longitude, in nanodegrees
abbrev pub coordinate : ℤ → ℤ → ℤ → ℤ
coordinate offset granularity v = offset +ℤ granularity *ℤ v

-- milliseconds
abbrev pub time : ℤ → ℤ → ℤ
time date_granularity t = t *ℤ date_granularity

-- the default, -1, says nothing
abbrev pub version : ℤ → Option ℤ
version (negsuc zero) = None
version v = Some v

abbrev pub kind : ℤ → Option MemberKind
kind (pos zero) = Some kinds.Node
kind (pos (suc zero)) = Some kinds.Way
kind (pos (suc (suc zero))) = Some kinds.Relation
kind _ = None

abbrev pub text_at : List Text → ℤ → Option Text
text_at table (pos i) = slice_get table i
text_at table (negsuc i) = None

-- the texts at pairs of indexes
abbrev pub texts_at : List Text → List Pair → List (Option Text × Option Text)
texts_at table ps = map (λ p. (text_at table p.0, text_at table p.1)) ps

-- tags, each text there
abbrev pub all_there : List (Text × Text) → List (Option Text × Option Text)
all_there tags = map (λ t. (Some t.0, Some t.1)) tags

-- ---- nodes, ways and relations with a message of their own

pub record TagsAt (table : List Text) (tags : List (Text × Text)) (keys vals : List ℤ) : Type 0 where
  pub keys_are : map (λ t. Some t.0) tags ≡ map (text_at table) keys
  pub vals_are : map (λ t. Some t.1) tags ≡ map (text_at table) vals

pub record InfoOf (b : Context) (i : InfoValue) (m : InfoMessage) : Type 0 where
  pub version_is : i.version ≡ unwrap_or (option_map version m.version) None
  pub time_is : i.time ≡ option_map (time b.date_granularity) m.timestamp
  pub changeset_is : i.changeset ≡ m.changeset
  pub uid_is : i.uid ≡ m.uid
  pub user_is : option_map Some i.user ≡ option_map (text_at b.table) m.user_sid
  pub visible_is : i.visible ≡ m.visible
  pub in_range : IsInfo i

pub record NodeOf (b : Context) (n : NodeValue) (m : NodeMessage) : Type 0 where
  pub id_is : Some n.id ≡ m.id
  pub lat_is : Some n.lat ≡ option_map (coordinate b.lat_offset b.granularity) m.lat
  pub lon_is : Some n.lon ≡ option_map (coordinate b.lon_offset b.granularity) m.lon
  pub tags_are : TagsAt b.table n.tags m.keys m.vals
  pub info_is : InfoOf b n.info m.info
  pub in_range : IsNode n

pub record WayOf (b : Context) (w : WayValue) (m : WayMessage) : Type 0 where
  pub id_is : Some w.id ≡ m.id
  pub refs_are : Diff w.refs m.refs
  pub tags_are : TagsAt b.table w.tags m.keys m.vals
  pub info_is : InfoOf b w.info m.info
  pub in_range : IsWay w

pub record RelationOf (b : Context) (r : RelationValue) (m : RelationMessage) : Type 0 where
  pub id_is : Some r.id ≡ m.id
  pub memids_are : Diff (map (λ x. x.id) r.members) m.memids
  pub roles_are : map (λ x. Some x.role) r.members ≡ map (text_at b.table) m.roles_sid
  pub types_are : map (λ x. Some x.kind) r.members ≡ map kind m.types
  pub tags_are : TagsAt b.table r.tags m.keys m.vals
  pub info_is : InfoOf b r.info m.info
  pub in_range : IsRelation r

-- ---- dense nodes

-- the values for n nodes: none for any of them where the array is empty
abbrev pub values_for : {A : Type 0} → ℕ → List (Option A) → List (Option A)
values_for n [] = replicate n None
values_for n (x ∷ xs) = x ∷ xs

-- absolute numbers whose differences stand in the message, and what they stand for
abbrev pub Stands : {A : Type 0} → List A → (ℤ → A) → List ℤ → Type 0
Stands xs meaning ds = (vs : List ℤ) × Diff vs ds × (xs ≡ map meaning vs)

-- the same, for one value or none for each of n nodes
abbrev pub StandsOrNone : {A : Type 0} → ℕ → List (Option A) → (ℤ → A) → List ℤ → Type 0
StandsOrNone n xs meaning ds = (vs : List ℤ) × Diff vs ds × (xs ≡ values_for n (map (λ v. Some (meaning v)) vs))

pub record DenseInfoOf (b : Context) (infos : List InfoValue) (m : DenseInfoMessage) : Type 0 where
  pub versions_are : map (λ i. i.version) infos ≡ values_for (length infos) (map version m.version)
  pub times_are : StandsOrNone (length infos) (map (λ i. i.time) infos) (time b.date_granularity) m.timestamp
  pub changesets_are : StandsOrNone (length infos) (map (λ i. i.changeset) infos) (λ v. v) m.changeset
  pub uids_are : StandsOrNone (length infos) (map (λ i. i.uid) infos) (λ v. v) m.uid
  pub users_are : StandsOrNone (length infos) (map (λ i. option_map Some i.user) infos) (text_at b.table) m.user_sid
  pub visibles_are : map (λ i. i.visible) infos ≡ values_for (length infos) (map Some m.visible)
  pub in_range : AllByRecursion IsInfo infos

pub record DenseOf (b : Context) (ns : List NodeValue) (m : DenseMessage) : Type 0 where
  pub ids_are : Diff (map (λ n. n.id) ns) m.id
  pub lats_are : Stands (map (λ n. n.lat) ns) (coordinate b.lat_offset b.granularity) m.lat
  pub lons_are : Stands (map (λ n. n.lon) ns) (coordinate b.lon_offset b.granularity) m.lon
  pub tags_are : (ts : List (List Pair)) × Tags ts m.keys_vals × (map (λ n. all_there n.tags) ns ≡ map (texts_at b.table) ts)
  pub infos_are : DenseInfoOf b (map (λ n. n.info) ns) m.info
  pub in_range : AllByRecursion IsNode ns

-- ---- a message, a group, a block

-- the payloads are field lists and packed arrays, as they should be
abbrev pub AllAreWire : Message → Type 0
AllAreWire m = AllByRecursion IsNone (wires m)

abbrev pub MessageOf : Context → List Element → Message → Type 0
MessageOf b es (Plain p) = (n : NodeValue) × (es ≡ elements.Node n ∷ []) × NodeOf b n (node_message (fields p))
MessageOf b es (Dense ps) = (ns : List NodeValue) × (es ≡ map elements.Node ns) × DenseOf b ns (dense_message (flat_map fields ps))
MessageOf b es (Way p) = (w : WayValue) × (es ≡ elements.Way w ∷ []) × WayOf b w (way_message (fields p))
MessageOf b es (Relation p) = (r : RelationValue) × (es ≡ elements.Relation r ∷ []) × RelationOf b r (relation_message (fields p))

-- the list is the joining of one list for each x, which stands in R to it
abbrev pub Joins : {A B : Type 0} → (List A → B → Type 0) → List A → List B → Type 0
Joins R es [] = es ≡ []
Joins {A} R es (x ∷ xs) = (front rest : List A) × (es ≡ front ++ rest) × R front x × Joins R rest xs

-- how many kinds of elements a group has fields of
abbrev pub kinds_in : List Entry → ℕ
kinds_in gs = count_by (λ k. is_there (each gs k)) (GROUP_NODES ∷ GROUP_DENSE ∷ GROUP_WAYS ∷ GROUP_RELATIONS ∷ [])

pub record GroupOf (b : Context) (es : List Element) (g : List ℕ) : Type 0 where
  pub is_message : wire g ≡ None
  pub one_kind : kinds_in (fields g) ≤ 1
  pub elements_are : Joins (λ xs m. AllAreWire m × MessageOf b xs m) es (messages (fields g))

-- The block w holds exactly the elements es: a table of texts in UTF-8 without U+0000, granularities of at least 1, and groups of one kind each.
pub record Block (es : List Element) (w : List ℕ) : Type 0 where
  pub is_message : wire w ≡ None
  pub has_table : is_there (each (fields w) BLOCK_STRINGTABLE) ≡ true
  pub tables_are : AllByRecursion (λ p. wire p ≡ None) (each (fields w) BLOCK_STRINGTABLE)
  pub texts_are : AllByRecursion IsText (context (fields w)).table
  pub granularity : pos 1 ≤ℤ (context (fields w)).granularity
  pub date_granularity : pos 1 ≤ℤ (context (fields w)).date_granularity
  pub elements_are : Joins (GroupOf (context (fields w))) es (each (fields w) BLOCK_PRIMITIVEGROUP)
