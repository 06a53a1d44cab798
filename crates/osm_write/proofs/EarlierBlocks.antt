-- Elements without flags of visibility have the block that they had before flags were written.
use Rattle.std.proofs.Common.{◌≡◌, ℕ, List, [], ◌∷◌, ◌++◌, map, refl, sym, ap, ◌∙◌, ℤ, None, Bool, true, false, ◌&&◌, if◌then◌else◌, append-nil}
use Rattle.std.specs.Prelude.{filter_map, flat_map, option_map, is_some}
use Rattle.std.specs.List.{AllByRecursion}
use Rattle.osm_value.specs.declared.element.Element.{Element}
use Rattle.osm_value.specs.declared.element.Element.TheVariants.{Node, Way, Relation}
use Rattle.osm_value.specs.Elements.{info_of_element}
use Rattle.osm_value.specs.Value.{Text, InfoValue, NodeValue}
use Rattle.osm_block.specs.declared.fields.TheConstants.{BLOCK_DATE_GRANULARITY, BLOCK_GRANULARITY, BLOCK_PRIMITIVEGROUP, BLOCK_STRINGTABLE, DENSEINFO_VISIBLE, DENSE_DENSEINFO, DENSE_ID, DENSE_KEYS_VALS, DENSE_LAT, DENSE_LON, ELEMENT_ID, ELEMENT_INFO, ELEMENT_KEYS, ELEMENT_VALS, GROUP_DENSE, GROUP_RELATIONS, GROUP_WAYS, INFO_VISIBLE, STRINGTABLE_S, WAY_REFS}
use Rattle.osm_write.specs.Canon.{Scale, scale_of, number_field, bytes_field, message_field, packed_field, int_field, delta_field, flag_number, optional, index_of, members_bytes, keys_vals_of, raw_coordinate, same, node_of, granularity_field, info_bytes, head_bytes, dense_info_bytes, dense_bytes, fit_together, put_before, groups_of, way_or_relation, group_bytes, block_bytes, canon}
use Rattle.osm_write.specs.EarlierCanon as earlier

abbrev HasNoFlag : Element → Type 0
HasNoFlag e = (info_of_element e).visible ≡ None

-- ---- infos

info_is : (s : Scale) (i : InfoValue) → i.visible ≡ None → earlier.info_bytes s i ≡ info_bytes s i
info_is s i none =
    sym (append-nil (earlier.info_bytes s i)) ∙ ap (λ v. earlier.info_bytes s i ++ optional (λ b. number_field INFO_VISIBLE (flag_number b)) v) (sym none)

head_is : (s : Scale) (id : ℤ) (tags : List (Text × Text)) (i : InfoValue) → i.visible ≡ None → earlier.head_bytes s id tags i ≡ head_bytes s id tags i
head_is s id tags i none =
    ap (λ bytes. int_field ELEMENT_ID id ++ packed_field ELEMENT_KEYS (map (λ t. index_of s t.0) tags) ++ packed_field ELEMENT_VALS (map (λ t. index_of s t.1) tags) ++ message_field ELEMENT_INFO bytes) (info_is s i none)

alone_is : (s : Scale) (e : Element) → HasNoFlag e → earlier.way_or_relation s e ≡ way_or_relation s e
alone_is s (Node n) none = refl
alone_is s (Way w) none = ap (λ bytes. bytes_field GROUP_WAYS (bytes ++ delta_field WAY_REFS w.refs)) (head_is s w.id w.tags w.info none)
alone_is s (Relation r) none = ap (λ bytes. bytes_field GROUP_RELATIONS (bytes ++ members_bytes s r.members)) (head_is s r.id r.tags r.info none)

all_alone : (s : Scale) (es : List Element) → AllByRecursion HasNoFlag es → flat_map (earlier.way_or_relation s) es ≡ flat_map (way_or_relation s) es
all_alone s [] all = refl
all_alone s (e ∷ es) all = ap (λ bytes. bytes ++ flat_map (earlier.way_or_relation s) es) (alone_is s e all.0) ∙ ap (λ bytes. way_or_relation s e ++ bytes) (all_alone s es all.1)

-- ---- dense nodes

abbrev infos_of : List Element → List InfoValue
infos_of es = map (λ n. n.info) (filter_map node_of es)

abbrev flags_of : List InfoValue → List ℕ
flags_of infos = filter_map (λ i. option_map flag_number i.visible) infos

no_flag : (i : InfoValue) (is : List InfoValue) → i.visible ≡ None → flags_of is ≡ [] → flags_of (i ∷ is) ≡ []
no_flag i is none rest = rw (none, rest) refl

no_flags : (es : List Element) → AllByRecursion HasNoFlag es → flags_of (infos_of es) ≡ []
no_flags [] all = refl
no_flags (Node n ∷ es) all = no_flag n.info (infos_of es) all.0 (no_flags es all.1)
no_flags (Way w ∷ es) all = no_flags es all.1
no_flags (Relation r ∷ es) all = no_flags es all.1

dense_info_is : (s : Scale) (infos : List InfoValue) → flags_of infos ≡ [] → earlier.dense_info_bytes s infos ≡ dense_info_bytes s infos
dense_info_is s infos none =
    sym (append-nil (earlier.dense_info_bytes s infos)) ∙ ap (λ flags. earlier.dense_info_bytes s infos ++ packed_field DENSEINFO_VISIBLE flags) (sym none)

dense_is : (s : Scale) (ns : List NodeValue) → flags_of (map (λ n. n.info) ns) ≡ [] → earlier.dense_bytes s ns ≡ dense_bytes s ns
dense_is s ns none =
    ap (λ bytes. delta_field DENSE_ID (map (λ n. n.id) ns) ++ message_field DENSE_DENSEINFO bytes
    ++ delta_field DENSE_LAT (map (λ n. raw_coordinate s n.lat) ns) ++ delta_field DENSE_LON (map (λ n. raw_coordinate s n.lon) ns)
    ++ packed_field DENSE_KEYS_VALS (keys_vals_of s ns)) (dense_info_is s (map (λ n. n.info) ns) none)

group_is : (s : Scale) (es : List Element) → AllByRecursion HasNoFlag es → earlier.group_bytes s es ≡ group_bytes s es
group_is s es all =
    ap (λ bytes. message_field GROUP_DENSE bytes ++ flat_map (earlier.way_or_relation s) es) (dense_is s (filter_map node_of es) (no_flags es all))
    ∙ ap (λ bytes. message_field GROUP_DENSE (dense_bytes s (filter_map node_of es)) ++ bytes) (all_alone s es all)

-- ---- groups

and-true : (b : Bool) → b ≡ (b && true)
and-true true = refl
and-true false = refl

fit_is : (e f : Element) → HasNoFlag e → HasNoFlag f → earlier.fit_together e f ≡ fit_together e f
fit_is (Node m) (Node n) he hf =
    let earlier_too : Bool = earlier.same_present m.info n.info in
    and-true earlier_too ∙ ap (λ v. earlier_too && same (is_some v) false) (sym he) ∙ ap (λ v. earlier_too && same (is_some m.info.visible) (is_some v)) (sym hf)
fit_is (Node m) (Way w) he hf = refl
fit_is (Node m) (Relation r) he hf = refl
fit_is (Way v) (Node n) he hf = refl
fit_is (Way v) (Way w) he hf = refl
fit_is (Way v) (Relation r) he hf = refl
fit_is (Relation q) (Node n) he hf = refl
fit_is (Relation q) (Way w) he hf = refl
fit_is (Relation q) (Relation r) he hf = refl

abbrev HaveNoFlags : List (List Element) → Type 0
HaveNoFlags groups = AllByRecursion (AllByRecursion HasNoFlag) groups

put_is : (e : Element) (groups : List (List Element)) → HasNoFlag e → HaveNoFlags groups → earlier.put_before e groups ≡ put_before e groups
put_is e [] he all = refl
put_is e ([] ∷ groups) he all = refl
put_is e ((f ∷ g) ∷ groups) he all = ap (λ b. if b then (e ∷ f ∷ g) ∷ groups else (e ∷ []) ∷ (f ∷ g) ∷ groups) (fit_is e f he all.0.0)

put_has_no_flags : (e : Element) (groups : List (List Element)) → HasNoFlag e → HaveNoFlags groups → HaveNoFlags (put_before e groups)
put_has_no_flags e [] he all = ((he, tt), tt)
put_has_no_flags e ([] ∷ groups) he all = ((he, tt), all)
put_has_no_flags e ((f ∷ g) ∷ groups) he all = by (fit_together e f)
  where
    by : (b : Bool) → HaveNoFlags (if b then (e ∷ f ∷ g) ∷ groups else (e ∷ []) ∷ (f ∷ g) ∷ groups)
    by true = ((he, all.0), all.1)
    by false = ((he, tt), all)

groups_have_no_flags : (es : List Element) → AllByRecursion HasNoFlag es → HaveNoFlags (groups_of es)
groups_have_no_flags [] all = tt
groups_have_no_flags (e ∷ es) all = put_has_no_flags e (groups_of es) all.0 (groups_have_no_flags es all.1)

groups_are : (es : List Element) → AllByRecursion HasNoFlag es → earlier.groups_of es ≡ groups_of es
groups_are [] all = refl
groups_are (e ∷ es) all = ap (earlier.put_before e) (groups_are es all.1) ∙ put_is e (groups_of es) all.0 (groups_have_no_flags es all.1)

-- ---- the block

all_groups : (s : Scale) (groups : List (List Element)) → HaveNoFlags groups
    → flat_map (λ g. bytes_field BLOCK_PRIMITIVEGROUP (earlier.group_bytes s g)) groups ≡ flat_map (λ g. bytes_field BLOCK_PRIMITIVEGROUP (group_bytes s g)) groups
all_groups s [] all = refl
all_groups s (g ∷ groups) all =
    ap (λ bytes. bytes_field BLOCK_PRIMITIVEGROUP bytes ++ flat_map (λ h. bytes_field BLOCK_PRIMITIVEGROUP (earlier.group_bytes s h)) groups) (group_is s g all.0)
    ∙ ap (λ bytes. bytes_field BLOCK_PRIMITIVEGROUP (group_bytes s g) ++ bytes) (all_groups s groups all.1)

block_is : (s : Scale) (es : List Element) → AllByRecursion HasNoFlag es → earlier.block_bytes s es ≡ block_bytes s es
block_is s es all =
    let block : List ℕ → List ℕ = λ groups. bytes_field BLOCK_STRINGTABLE (flat_map (bytes_field STRINGTABLE_S) ([] ∷ s.texts)) ++ groups
    ++ granularity_field BLOCK_GRANULARITY 100 s.granularity ++ granularity_field BLOCK_DATE_GRANULARITY 1000 s.date_granularity in
    ap (λ groups. block (flat_map (λ g. bytes_field BLOCK_PRIMITIVEGROUP (earlier.group_bytes s g)) groups)) (groups_are es all)
    ∙ ap block (all_groups s (groups_of es) (groups_have_no_flags es all))

pub canon_is : (es : List Element) → AllByRecursion (λ e. (info_of_element e).visible ≡ None) es → earlier.canon es ≡ canon es
unfolding canon earlier.canon
canon_is es all = block_is (scale_of es) es all
