-- A group of one element is no longer than a group that begins with it, in a block whose granularities are the same or finer.
use Rattle.std.proofs.Common.{◌≡◌, ℕ, ◌≤◌, ◌*◌, List, [], ◌∷◌, ◌++◌, length, map, refl, ap, Bool, true, false, ◌||◌, if◌then◌else◌, ℤ, pos, Option, Some, None, IsTrue, option_map, option_to_list, le_refl, w64}
use Rattle.std.specs.List.{AllByRecursion, flat_map, filter_map, list_any}
use Rattle.std.specs.Int.{cast_unsigned}
use Rattle.pbf_wire.specs.Write.{zigzag}
use Rattle.osm_value.specs.declared.element.Element.{Element}
use Rattle.osm_value.specs.declared.element.Element.TheVariants.{Node, Way, Relation}
use Rattle.osm_value.specs.Value.{Text, InfoValue, MemberValue, NodeValue, WayValue, RelationValue}
use Rattle.osm_value.specs.Elements.{IsElement}
use Rattle.osm_value.specs.Ranges.{is_wide, passes, IsInfo}
use Rattle.osm_value.proofs.Ranges.{all_front, all_back}
use Rattle.osm_block.specs.declared.fields.TheConstants.{DENSEINFO_CHANGESET, DENSEINFO_TIMESTAMP, DENSEINFO_UID, DENSEINFO_USER_SID, DENSEINFO_VERSION, DENSEINFO_VISIBLE, DENSE_DENSEINFO, DENSE_ID, DENSE_KEYS_VALS, DENSE_LAT, DENSE_LON, ELEMENT_ID, ELEMENT_INFO, ELEMENT_KEYS, ELEMENT_VALS, GROUP_DENSE, GROUP_RELATIONS, GROUP_WAYS, INFO_CHANGESET, INFO_TIMESTAMP, INFO_UID, INFO_USER_SID, INFO_VERSION, INFO_VISIBLE, RELATION_MEMIDS, RELATION_ROLES_SID, RELATION_TYPES, WAY_REFS}
use Rattle.osm_write.specs.Canon.{Scale, index_of, tag_texts, number, number_field, flag_number, message_field, packed_field, int_field, delta_field, optional, times_of, info_bytes, head_bytes, way_bytes, number_of_kind, relation_bytes, dense_info_bytes, tag_indexes, has_tags, keys_vals_of, raw_coordinate, dense_bytes, node_of, way_or_relation, group_bytes}
use Rattle.osm_write.proofs.Coarser.{Coarser}
use Rattle.osm_write.proofs.NumberLengths.{NoLonger, itself, nothing, joined, Finer, zigzag_finer, number_finer, bytes_field_no_longer, message_field_no_longer, packed_front, delta_first, Below, below_itself, packed_array, delta_array}

-- ---- indexes of texts

abbrev SameIndex : Scale → Scale → Text → Type 0
SameIndex one all t = index_of one t ≡ index_of all t

abbrev SameTags : Scale → Scale → List (Text × Text) → Type 0
SameTags one all tags = AllByRecursion (SameIndex one all) (tag_texts tags)

abbrev SameUser : Scale → Scale → InfoValue → Type 0
SameUser one all i = AllByRecursion (SameIndex one all) (option_to_list i.user)

same_keys : (one all : Scale) (tags : List (Text × Text)) → SameTags one all tags → map (λ (t : Text × Text). index_of one t.0) tags ≡ map (λ (t : Text × Text). index_of all t.0) tags
same_keys one all [] same = refl
same_keys one all (t ∷ tags) same = let a = same.0 in let b = same_keys one all tags same.1.1 in cc

same_values : (one all : Scale) (tags : List (Text × Text)) → SameTags one all tags → map (λ (t : Text × Text). index_of one t.1) tags ≡ map (λ (t : Text × Text). index_of all t.1) tags
same_values one all [] same = refl
same_values one all (t ∷ tags) same = let a = same.1.0 in let b = same_values one all tags same.1.1 in cc

same_indexes : (one all : Scale) (tags : List (Text × Text)) → SameTags one all tags → tag_indexes one tags ≡ tag_indexes all tags
same_indexes one all [] same = refl
same_indexes one all (t ∷ tags) same = let a = same.0 in let b = same.1.0 in let c = same_indexes one all tags same.1.1 in cc

same_roles : (one all : Scale) (ms : List MemberValue) → AllByRecursion (SameIndex one all) (map (λ (m : MemberValue). m.role) ms)
    → map (λ (m : MemberValue). index_of one m.role) ms ≡ map (λ (m : MemberValue). index_of all m.role) ms
same_roles one all [] same = refl
same_roles one all (m ∷ ms) same = let a = same.0 in let b = same_roles one all ms same.1 in cc

same_packed : (k : ℕ) (xs ys : List ℕ) → xs ≡ ys → NoLonger (packed_field k xs) (packed_field k ys)
same_packed k xs ys e = rw e (itself (packed_field k ys))

-- ---- ways and relations

time_no_longer : (one all : Scale) (o : Option ℤ) → Finer 1000 one.date_granularity all.date_granularity → IsTrue (passes is_wide o)
    → NoLonger (optional (int_field INFO_TIMESTAMP) (times_of one o)) (optional (int_field INFO_TIMESTAMP) (times_of all o))
time_no_longer one all None finer wide = nothing []
time_no_longer one all (Some z) finer wide = joined (itself (number (8 * INFO_TIMESTAMP))) (number_finer 1000 one.date_granularity all.date_granularity z wide finer)

user_no_longer : (one all : Scale) (o : Option Text) → AllByRecursion (SameIndex one all) (option_to_list o)
    → NoLonger (optional (λ t. number_field INFO_USER_SID (index_of one t)) o) (optional (λ t. number_field INFO_USER_SID (index_of all t)) o)
user_no_longer one all None same = nothing []
user_no_longer one all (Some t) same = let e = same.0 in rw e (itself (number_field INFO_USER_SID (index_of all t)))

info_no_longer : (one all : Scale) (i : InfoValue) → Finer 1000 one.date_granularity all.date_granularity → IsInfo i → SameUser one all i
    → NoLonger (info_bytes one i) (info_bytes all i)
info_no_longer one all i finer ranges same =
    joined (joined (joined (joined (joined (itself (optional (int_field INFO_VERSION) i.version)) (time_no_longer one all i.time finer ranges.time)) (itself (optional (int_field INFO_CHANGESET) i.changeset)))
    (itself (optional (int_field INFO_UID) i.uid))) (user_no_longer one all i.user same)) (itself (optional (λ b. number_field INFO_VISIBLE (flag_number b)) i.visible))

head_no_longer : (one all : Scale) (id : ℤ) (tags : List (Text × Text)) (i : InfoValue) → Finer 1000 one.date_granularity all.date_granularity → IsInfo i
    → SameTags one all tags → SameUser one all i → NoLonger (head_bytes one id tags i) (head_bytes all id tags i)
head_no_longer one all id tags i finer ranges same user =
    joined (joined (joined (itself (int_field ELEMENT_ID id)) (same_packed ELEMENT_KEYS _ _ (same_keys one all tags same))) (same_packed ELEMENT_VALS _ _ (same_values one all tags same)))
    (message_field_no_longer ELEMENT_INFO (info_bytes one i) (info_bytes all i) (info_no_longer one all i finer ranges user))

way_no_longer : (w : WayValue) (one all : Scale) → IsElement (Way w) → Coarser (Way w) one all → NoLonger (way_bytes one w) (way_bytes all w)
way_no_longer w one all ranges c =
    let tags = all_front (SameIndex one all) (tag_texts w.tags) (option_to_list w.info.user) c.same_index in
    let user = all_back (SameIndex one all) (tag_texts w.tags) (option_to_list w.info.user) c.same_index in
    joined (head_no_longer one all w.id w.tags w.info c.times ranges.info tags user) (itself (delta_field WAY_REFS w.refs))

relation_no_longer : (r : RelationValue) (one all : Scale) → IsElement (Relation r) → Coarser (Relation r) one all → NoLonger (relation_bytes one r) (relation_bytes all r)
relation_no_longer r one all ranges c =
    let roles : List Text = map (λ (m : MemberValue). m.role) r.members in
    let front = all_front (SameIndex one all) (tag_texts r.tags ++ option_to_list r.info.user) roles c.same_index in
    let named = all_back (SameIndex one all) (tag_texts r.tags ++ option_to_list r.info.user) roles c.same_index in
    let tags = all_front (SameIndex one all) (tag_texts r.tags) (option_to_list r.info.user) front in
    let user = all_back (SameIndex one all) (tag_texts r.tags) (option_to_list r.info.user) front in
    joined (head_no_longer one all r.id r.tags r.info c.times ranges.info tags user)
    (joined (joined (same_packed RELATION_ROLES_SID _ _ (same_roles one all r.members named)) (itself (delta_field RELATION_MEMIDS (map (λ (m : MemberValue). m.id) r.members))))
    (itself (packed_field RELATION_TYPES (map (λ (m : MemberValue). number_of_kind m.kind) r.members))))

-- ---- nodes

below_times : (one all : Scale) (o : Option ℤ) → Finer 1000 one.date_granularity all.date_granularity → Below zigzag (times_of one o) (times_of all o)
below_times one all None finer = tt
below_times one all (Some z) finer = zigzag_finer 1000 one.date_granularity all.date_granularity z finer

below_users : (one all : Scale) (o : Option Text) → AllByRecursion (SameIndex one all) (option_to_list o)
    → Below zigzag (option_map (λ t. pos (index_of one t)) o) (option_map (λ t. pos (index_of all t)) o)
below_users one all None same = tt
below_users one all (Some t) same = let e = same.0 in rw e (le_refl (zigzag (pos (index_of all t))))

dense_info_no_longer : (one all : Scale) (i : InfoValue) (is : List InfoValue) → Finer 1000 one.date_granularity all.date_granularity → SameUser one all i
    → NoLonger (dense_info_bytes one (i ∷ [])) (dense_info_bytes all (i ∷ is))
dense_info_no_longer one all i is finer same =
    let version : InfoValue → Option ℕ = λ j. option_map (cast_unsigned w64) j.version in
    let changeset : InfoValue → Option ℤ = λ j. j.changeset in
    let uid : InfoValue → Option ℤ = λ j. j.uid in
    let flag : InfoValue → Option ℕ = λ j. option_map flag_number j.visible in
    let a = packed_array DENSEINFO_VERSION version version i is (below_itself (λ n. n) (version i)) in
    let b = delta_array DENSEINFO_TIMESTAMP (λ j. times_of one j.time) (λ j. times_of all j.time) i is (below_times one all i.time finer) in
    let c = delta_array DENSEINFO_CHANGESET changeset changeset i is (below_itself zigzag i.changeset) in
    let d = delta_array DENSEINFO_UID uid uid i is (below_itself zigzag i.uid) in
    let e = delta_array DENSEINFO_USER_SID (λ j. option_map (λ t. pos (index_of one t)) j.user) (λ j. option_map (λ t. pos (index_of all t)) j.user) i is (below_users one all i.user same) in
    let f = packed_array DENSEINFO_VISIBLE flag flag i is (below_itself (λ n. n) (flag i)) in
    joined (joined (joined (joined (joined a b) c) d) e) f

keys_vals_no_longer : (one all : Scale) (n : NodeValue) (ns : List NodeValue) → SameTags one all n.tags
    → NoLonger (packed_field DENSE_KEYS_VALS (keys_vals_of one (n ∷ []))) (packed_field DENSE_KEYS_VALS (keys_vals_of all (n ∷ ns)))
keys_vals_no_longer one all n ns same = by (has_tags n)
  where
    rest : List ℕ
    rest = flat_map (λ (m : NodeValue). tag_indexes all m.tags ++ 0 ∷ []) ns

    by : (b : Bool) → NoLonger (packed_field DENSE_KEYS_VALS (if b || false then (tag_indexes one n.tags ++ 0 ∷ []) ++ [] else []))
        (packed_field DENSE_KEYS_VALS (if b || list_any has_tags ns then (tag_indexes all n.tags ++ 0 ∷ []) ++ rest else []))
    by true = packed_front DENSE_KEYS_VALS (tag_indexes one n.tags ++ 0 ∷ []) (tag_indexes all n.tags ++ 0 ∷ []) rest (ap (λ (xs : List ℕ). xs ++ 0 ∷ []) (same_indexes one all n.tags same))
    by false = nothing (packed_field DENSE_KEYS_VALS (if list_any has_tags ns then (tag_indexes all n.tags ++ 0 ∷ []) ++ rest else []))

dense_no_longer : (n : NodeValue) (ns : List NodeValue) (one all : Scale) → Coarser (Node n) one all → NoLonger (dense_bytes one (n ∷ [])) (dense_bytes all (n ∷ ns))
dense_no_longer n ns one all c =
    let tags = all_front (SameIndex one all) (tag_texts n.tags) (option_to_list n.info.user) c.same_index in
    let user = all_back (SameIndex one all) (tag_texts n.tags) (option_to_list n.info.user) c.same_index in
    let infos : List InfoValue = map (λ (m : NodeValue). m.info) ns in
    let ids = delta_first DENSE_ID n.id n.id (map (λ (m : NodeValue). m.id) ns) (le_refl (zigzag n.id)) in
    let info = message_field_no_longer DENSE_DENSEINFO (dense_info_bytes one (n.info ∷ [])) (dense_info_bytes all (n.info ∷ infos)) (dense_info_no_longer one all n.info infos c.times user) in
    let lats = delta_first DENSE_LAT (raw_coordinate one n.lat) (raw_coordinate all n.lat) (map (λ (m : NodeValue). raw_coordinate all m.lat) ns) (zigzag_finer 100 one.granularity all.granularity n.lat c.coordinates) in
    let lons = delta_first DENSE_LON (raw_coordinate one n.lon) (raw_coordinate all n.lon) (map (λ (m : NodeValue). raw_coordinate all m.lon) ns) (zigzag_finer 100 one.granularity all.granularity n.lon c.coordinates) in
    joined (joined (joined (joined ids info) lats) lons) (keys_vals_no_longer one all n ns tags)

-- ---- the group

no_longer : (e : Element) (g : List Element) (one all : Scale) → IsElement e → Coarser e one all → NoLonger (group_bytes one (e ∷ [])) (group_bytes all (e ∷ g))
no_longer (Node n) g one all ranges c =
    let ns : List NodeValue = filter_map node_of g in
    joined (message_field_no_longer GROUP_DENSE (dense_bytes one (n ∷ [])) (dense_bytes all (n ∷ ns)) (dense_no_longer n ns one all c)) (nothing (flat_map (way_or_relation all) g))
no_longer (Way w) g one all ranges c =
    joined (nothing (message_field GROUP_DENSE (dense_bytes all (filter_map node_of g))))
    (joined (bytes_field_no_longer GROUP_WAYS (way_bytes one w) (way_bytes all w) (way_no_longer w one all ranges c)) (nothing (flat_map (way_or_relation all) g)))
no_longer (Relation r) g one all ranges c =
    joined (nothing (message_field GROUP_DENSE (dense_bytes all (filter_map node_of g))))
    (joined (bytes_field_no_longer GROUP_RELATIONS (relation_bytes one r) (relation_bytes all r) (relation_no_longer r one all ranges c)) (nothing (flat_map (way_or_relation all) g)))

pub group_no_longer : (e : Element) (g : List Element) (one all : Scale) → IsElement e → Coarser e one all → length (group_bytes one (e ∷ [])) ≤ length (group_bytes all (e ∷ g))
group_no_longer e g one all ranges c = (no_longer e g one all ranges c).le
