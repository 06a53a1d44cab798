-- The one block that was written for a list of elements before flags of visibility were: what of `Canon` was another then.
-- It is kept for the law that elements without flags have the same block.
use Rattle.std.specs.Prelude.{ℕ, List, [], ◌∷◌, ◌++◌, map, filter_map, flat_map, ℤ, pos, option_map, Bool, true, false, ◌&&◌, is_some, if◌then◌else◌}
use Rattle.std.specs.Int.{w64, cast_unsigned}
use Rattle.osm_value.specs.declared.element.Element.{Element}
use Rattle.osm_value.specs.declared.element.Element.TheVariants.{Node, Way, Relation}
use Rattle.osm_value.specs.Value.{Text, InfoValue, NodeValue, WayValue, RelationValue}
use Rattle.osm_block.specs.declared.fields.TheConstants.{BLOCK_DATE_GRANULARITY, BLOCK_GRANULARITY, BLOCK_PRIMITIVEGROUP, BLOCK_STRINGTABLE, DENSEINFO_CHANGESET, DENSEINFO_TIMESTAMP, DENSEINFO_UID, DENSEINFO_USER_SID, DENSEINFO_VERSION, DENSE_DENSEINFO, DENSE_ID, DENSE_KEYS_VALS, DENSE_LAT, DENSE_LON, ELEMENT_ID, ELEMENT_INFO, ELEMENT_KEYS, ELEMENT_VALS, GROUP_DENSE, GROUP_RELATIONS, GROUP_WAYS, INFO_CHANGESET, INFO_TIMESTAMP, INFO_UID, INFO_USER_SID, INFO_VERSION, STRINGTABLE_S, WAY_REFS}
use Rattle.osm_write.specs.Canon.{Scale, scale_of, number_field, bytes_field, message_field, packed_field, int_field, delta_field, optional, index_of, times_of, members_bytes, keys_vals_of, raw_coordinate, same, node_of, granularity_field}

-- ---- elements with a message of their own

abbrev pub info_bytes : Scale → InfoValue → List ℕ
info_bytes s i = optional (int_field INFO_VERSION) i.version ++ optional (int_field INFO_TIMESTAMP) (times_of s i.time) ++ optional (int_field INFO_CHANGESET) i.changeset
    ++ optional (int_field INFO_UID) i.uid ++ optional (λ t. number_field INFO_USER_SID (index_of s t)) i.user

abbrev pub head_bytes : Scale → ℤ → List (Text × Text) → InfoValue → List ℕ
head_bytes s id tags i = int_field ELEMENT_ID id ++ packed_field ELEMENT_KEYS (map (λ t. index_of s t.0) tags) ++ packed_field ELEMENT_VALS (map (λ t. index_of s t.1) tags)
    ++ message_field ELEMENT_INFO (info_bytes s i)

abbrev pub way_bytes : Scale → WayValue → List ℕ
way_bytes s w = head_bytes s w.id w.tags w.info ++ delta_field WAY_REFS w.refs

abbrev pub relation_bytes : Scale → RelationValue → List ℕ
relation_bytes s r = head_bytes s r.id r.tags r.info ++ members_bytes s r.members

-- ---- nodes as one message

abbrev pub dense_info_bytes : Scale → List InfoValue → List ℕ
dense_info_bytes s infos = packed_field DENSEINFO_VERSION (filter_map (λ i. option_map (cast_unsigned w64) i.version) infos)
    ++ delta_field DENSEINFO_TIMESTAMP (filter_map (λ i. times_of s i.time) infos)
    ++ delta_field DENSEINFO_CHANGESET (filter_map (λ i. i.changeset) infos)
    ++ delta_field DENSEINFO_UID (filter_map (λ i. i.uid) infos)
    ++ delta_field DENSEINFO_USER_SID (filter_map (λ i. option_map (λ t. pos (index_of s t)) i.user) infos)

abbrev pub dense_bytes : Scale → List NodeValue → List ℕ
dense_bytes s ns = delta_field DENSE_ID (map (λ n. n.id) ns) ++ message_field DENSE_DENSEINFO (dense_info_bytes s (map (λ n. n.info) ns))
    ++ delta_field DENSE_LAT (map (λ n. raw_coordinate s n.lat) ns) ++ delta_field DENSE_LON (map (λ n. raw_coordinate s n.lon) ns)
    ++ packed_field DENSE_KEYS_VALS (keys_vals_of s ns)

-- ---- groups

abbrev pub same_present : InfoValue → InfoValue → Bool
same_present i j = same (is_some i.version) (is_some j.version) && same (is_some i.time) (is_some j.time)
    && same (is_some i.changeset) (is_some j.changeset) && same (is_some i.uid) (is_some j.uid) && same (is_some i.user) (is_some j.user)

-- they may stand in one group: one kind, and for nodes the same fields of info
abbrev pub fit_together : Element → Element → Bool
fit_together (Node m) (Node n) = same_present m.info n.info
fit_together (Way v) (Way w) = true
fit_together (Relation q) (Relation r) = true
fit_together _ _ = false

-- the element before the first of these groups, or in it
abbrev pub put_before : Element → List (List Element) → List (List Element)
put_before e ((f ∷ g) ∷ gs) = if fit_together e f then (e ∷ f ∷ g) ∷ gs else (e ∷ []) ∷ (f ∷ g) ∷ gs
put_before e gs = (e ∷ []) ∷ gs

-- the maximal runs of elements that fit together
abbrev pub groups_of : List Element → List (List Element)
groups_of [] = []
groups_of (e ∷ es) = put_before e (groups_of es)

abbrev pub way_or_relation : Scale → Element → List ℕ
way_or_relation s (Node n) = []
way_or_relation s (Way w) = bytes_field GROUP_WAYS (way_bytes s w)
way_or_relation s (Relation r) = bytes_field GROUP_RELATIONS (relation_bytes s r)

abbrev pub group_bytes : Scale → List Element → List ℕ
group_bytes s es = message_field GROUP_DENSE (dense_bytes s (filter_map node_of es)) ++ flat_map (way_or_relation s) es

abbrev pub block_bytes : Scale → List Element → List ℕ
block_bytes s es = bytes_field BLOCK_STRINGTABLE (flat_map (bytes_field STRINGTABLE_S) ([] ∷ s.texts))
    ++ flat_map (λ g. bytes_field BLOCK_PRIMITIVEGROUP (group_bytes s g)) (groups_of es)
    ++ granularity_field BLOCK_GRANULARITY 100 s.granularity ++ granularity_field BLOCK_DATE_GRANULARITY 1000 s.date_granularity

-- the one block that was written for these elements before flags of visibility were
unfoldable pub canon : List Element → List ℕ
canon es = block_bytes (scale_of es) es
