-- The one block that is written for a list of elements (a choice among the blocks that osmformat.proto allows).
-- Fields ascend by number, numbers are shortest, arrays are packed, what is empty is left out.
use Rattle.std.specs.Prelude.{ℕ, suc, ◌+◌, ◌*◌, ◌%◌, List, [], ◌∷◌, ◌++◌, map, length, filter, filter_map, flat_map, ℤ, pos, Option, Some, None, option_map, option_to_list, Bool, true, false, not, ◌&&◌, nat_lt, ◌==◌, is_some, if◌then◌else◌, int_div, unsigned_abs, bytes_eq}
use Rattle.std.specs.List.{list_all, list_any}
use Rattle.std.specs.Int.{w64, cast_unsigned}
use Rattle.osm_value.specs.declared.element.MemberKind.{MemberKind}
use Rattle.osm_value.specs.declared.element.MemberKind.TheVariants as kinds
use Rattle.osm_value.specs.declared.element.Element.{Element}
use Rattle.osm_value.specs.declared.element.Element.TheVariants.{Node, Way, Relation}
use Rattle.osm_value.specs.Elements.{info_of_element}
use Rattle.osm_value.specs.Value.{Text, InfoValue, MemberValue, NodeValue, WayValue, RelationValue}
use Rattle.osm_block.specs.declared.fields.TheConstants.{BLOCK_DATE_GRANULARITY, BLOCK_GRANULARITY, BLOCK_PRIMITIVEGROUP, BLOCK_STRINGTABLE, DENSEINFO_CHANGESET, DENSEINFO_TIMESTAMP, DENSEINFO_UID, DENSEINFO_USER_SID, DENSEINFO_VERSION, DENSEINFO_VISIBLE, DENSE_DENSEINFO, DENSE_ID, DENSE_KEYS_VALS, DENSE_LAT, DENSE_LON, ELEMENT_ID, ELEMENT_INFO, ELEMENT_KEYS, ELEMENT_VALS, GROUP_DENSE, GROUP_RELATIONS, GROUP_WAYS, INFO_CHANGESET, INFO_TIMESTAMP, INFO_UID, INFO_USER_SID, INFO_VERSION, INFO_VISIBLE, RELATION_MEMIDS, RELATION_ROLES_SID, RELATION_TYPES, STRINGTABLE_S, WAY_REFS}
use Rattle.osm_block.specs.Differences.{differences}
use Rattle.pbf_wire.specs.Write.{shortest, zigzag}

-- ---- spellings (Protocol Buffers encoding guide)

abbrev pub number : ℕ → List ℕ
number n = shortest n

abbrev pub number_field : ℕ → ℕ → List ℕ
number_field k n = number (8 * k) ++ number n

abbrev pub bytes_field : ℕ → List ℕ → List ℕ
bytes_field k bytes = number (8 * k + 2) ++ number (length bytes) ++ bytes

-- left out where it is empty
abbrev pub message_field : ℕ → List ℕ → List ℕ
message_field k [] = []
message_field k (b ∷ bytes) = bytes_field k (b ∷ bytes)

abbrev pub packed_field : ℕ → List ℕ → List ℕ
packed_field k ns = message_field k (flat_map number ns)

abbrev pub int_field : ℕ → ℤ → List ℕ
int_field k z = number_field k (cast_unsigned w64 z)

abbrev pub delta_field : ℕ → List ℤ → List ℕ
delta_field k vs = packed_field k (map zigzag (differences vs))

-- a bool is 1 where it is true, else 0
abbrev pub flag_number : Bool → ℕ
flag_number b = if b then 1 else 0

-- left out where it is absent
abbrev pub optional : {A : Type 0} → (A → List ℕ) → Option A → List ℕ
optional field None = []
optional field (Some x) = field x

-- ---- the string table

abbrev pub tag_texts : List (Text × Text) → List Text
tag_texts tags = flat_map (λ t. t.0 ∷ t.1 ∷ []) tags

-- in order of use: tags, then the user, then roles
abbrev pub texts_of : Element → List Text
texts_of (Node n) = tag_texts n.tags ++ option_to_list n.info.user
texts_of (Way w) = tag_texts w.tags ++ option_to_list w.info.user
texts_of (Relation r) = tag_texts r.tags ++ option_to_list r.info.user ++ map (λ m. m.role) r.members

-- each text once, where it is first
abbrev pub first_uses : List Text → List Text
first_uses [] = []
first_uses (t ∷ ts) = t ∷ filter (λ u. not (bytes_eq u t)) (first_uses ts)

abbrev pub index_in : Text → List Text → ℕ
index_in t [] = 0
index_in t (u ∷ us) = if bytes_eq u t then 0 else suc (index_in t us)

-- ---- what a block says for all its elements

pub record Scale : Type 0 where
  pub texts : List Text
  pub granularity : ℕ
  pub date_granularity : ℕ

abbrev pub index_of : Scale → Text → ℕ
index_of s t = suc (index_in t s.texts)

abbrev pub coordinates_of : Element → List ℤ
coordinates_of (Node n) = n.lat ∷ n.lon ∷ []
coordinates_of _ = []

-- the number, where it divides each of these, or else 1
abbrev pub divisor : ℕ → List ℤ → ℕ
divisor n zs = if list_all (λ z. unsigned_abs z % n == 0) zs then n else 1

unfoldable pub scale_of : List Element → Scale
scale_of es = record {
  texts = first_uses (flat_map texts_of es);
  granularity = divisor 100 (flat_map coordinates_of es);
  date_granularity = divisor 1000 (flat_map (λ e. option_to_list (info_of_element e).time) es);
}

-- ---- elements with a message of their own

abbrev pub times_of : Scale → Option ℤ → Option ℤ
times_of s t = option_map (λ z. int_div z (pos s.date_granularity)) t

abbrev pub info_bytes : Scale → InfoValue → List ℕ
info_bytes s i = optional (int_field INFO_VERSION) i.version ++ optional (int_field INFO_TIMESTAMP) (times_of s i.time) ++ optional (int_field INFO_CHANGESET) i.changeset
    ++ optional (int_field INFO_UID) i.uid ++ optional (λ t. number_field INFO_USER_SID (index_of s t)) i.user
    ++ optional (λ b. number_field INFO_VISIBLE (flag_number b)) i.visible

abbrev pub head_bytes : Scale → ℤ → List (Text × Text) → InfoValue → List ℕ
head_bytes s id tags i = int_field ELEMENT_ID id ++ packed_field ELEMENT_KEYS (map (λ t. index_of s t.0) tags) ++ packed_field ELEMENT_VALS (map (λ t. index_of s t.1) tags)
    ++ message_field ELEMENT_INFO (info_bytes s i)

abbrev pub way_bytes : Scale → WayValue → List ℕ
way_bytes s w = head_bytes s w.id w.tags w.info ++ delta_field WAY_REFS w.refs

abbrev pub number_of_kind : MemberKind → ℕ
number_of_kind kinds.Node = 0
number_of_kind kinds.Way = 1
number_of_kind kinds.Relation = 2

abbrev pub members_bytes : Scale → List MemberValue → List ℕ
members_bytes s ms = packed_field RELATION_ROLES_SID (map (λ m. index_of s m.role) ms) ++ delta_field RELATION_MEMIDS (map (λ m. m.id) ms)
    ++ packed_field RELATION_TYPES (map (λ m. number_of_kind m.kind) ms)

abbrev pub relation_bytes : Scale → RelationValue → List ℕ
relation_bytes s r = head_bytes s r.id r.tags r.info ++ members_bytes s r.members

-- ---- nodes as one message

abbrev pub dense_info_bytes : Scale → List InfoValue → List ℕ
dense_info_bytes s infos = packed_field DENSEINFO_VERSION (filter_map (λ i. option_map (cast_unsigned w64) i.version) infos)
    ++ delta_field DENSEINFO_TIMESTAMP (filter_map (λ i. times_of s i.time) infos)
    ++ delta_field DENSEINFO_CHANGESET (filter_map (λ i. i.changeset) infos)
    ++ delta_field DENSEINFO_UID (filter_map (λ i. i.uid) infos)
    ++ delta_field DENSEINFO_USER_SID (filter_map (λ i. option_map (λ t. pos (index_of s t)) i.user) infos)
    ++ packed_field DENSEINFO_VISIBLE (filter_map (λ i. option_map flag_number i.visible) infos)

abbrev pub tag_indexes : Scale → List (Text × Text) → List ℕ
tag_indexes s tags = flat_map (λ t. index_of s t.0 ∷ index_of s t.1 ∷ []) tags

abbrev pub has_tags : NodeValue → Bool
has_tags n = nat_lt 0 (length n.tags)

-- each node's pairs and a 0, where any node has tags
abbrev pub keys_vals_of : Scale → List NodeValue → List ℕ
keys_vals_of s ns = if list_any has_tags ns then flat_map (λ n. tag_indexes s n.tags ++ 0 ∷ []) ns else []

abbrev pub raw_coordinate : Scale → ℤ → ℤ
raw_coordinate s z = int_div z (pos s.granularity)

abbrev pub dense_bytes : Scale → List NodeValue → List ℕ
dense_bytes s ns = delta_field DENSE_ID (map (λ n. n.id) ns) ++ message_field DENSE_DENSEINFO (dense_info_bytes s (map (λ n. n.info) ns))
    ++ delta_field DENSE_LAT (map (λ n. raw_coordinate s n.lat) ns) ++ delta_field DENSE_LON (map (λ n. raw_coordinate s n.lon) ns)
    ++ packed_field DENSE_KEYS_VALS (keys_vals_of s ns)

-- ---- groups

abbrev pub same : Bool → Bool → Bool
same true b = b
same false b = not b

abbrev pub same_present : InfoValue → InfoValue → Bool
same_present i j = same (is_some i.version) (is_some j.version) && same (is_some i.time) (is_some j.time)
    && same (is_some i.changeset) (is_some j.changeset) && same (is_some i.uid) (is_some j.uid) && same (is_some i.user) (is_some j.user)
    && same (is_some i.visible) (is_some j.visible)

-- they may stand in one group: one kind, and for nodes the same fields of info
abbrev pub fit_together : Element → Element → Bool
fit_together (Node m) (Node n) = same_present m.info n.info
fit_together (Way v) (Way w) = true
fit_together (Relation q) (Relation r) = true
fit_together _ _ = false

-- the element before the first of these groups, or in it
abbrev pub put_before : Element → List (List Element) → List (List Element)
put_before e ((f ∷ g) ∷ gs) = if fit_together e f then (e ∷ f ∷ g) ∷ gs else (e ∷ []) ∷ (f ∷ g) ∷ gs
put_before e gs = (e ∷ []) ∷ gs

-- the maximal runs of elements that fit together
abbrev pub groups_of : List Element → List (List Element)
groups_of [] = []
groups_of (e ∷ es) = put_before e (groups_of es)

abbrev pub node_of : Element → Option NodeValue
node_of (Node n) = Some n
node_of _ = None

abbrev pub way_or_relation : Scale → Element → List ℕ
way_or_relation s (Node n) = []
way_or_relation s (Way w) = bytes_field GROUP_WAYS (way_bytes s w)
way_or_relation s (Relation r) = bytes_field GROUP_RELATIONS (relation_bytes s r)

abbrev pub group_bytes : Scale → List Element → List ℕ
group_bytes s es = message_field GROUP_DENSE (dense_bytes s (filter_map node_of es)) ++ flat_map (way_or_relation s) es

-- left out where it is the default
abbrev pub granularity_field : ℕ → ℕ → ℕ → List ℕ
granularity_field k default n = if n == default then [] else number_field k n

abbrev pub block_bytes : Scale → List Element → List ℕ
block_bytes s es = bytes_field BLOCK_STRINGTABLE (flat_map (bytes_field STRINGTABLE_S) ([] ∷ s.texts))
    ++ flat_map (λ g. bytes_field BLOCK_PRIMITIVEGROUP (group_bytes s g)) (groups_of es)
    ++ granularity_field BLOCK_GRANULARITY 100 s.granularity ++ granularity_field BLOCK_DATE_GRANULARITY 1000 s.date_granularity

-- The one block that is written for these elements: fields ascend, numbers are shortest, arrays packed, each text stands once.
unfoldable pub canon : List Element → List ℕ
canon es = block_bytes (scale_of es) es
