-- A group is read back from its message.
use Rattle.std.proofs.Common.{◌≡◌, ℕ, ◌+◌, ◌*◌, ◌^◌, ◌<◌, ◌≤◌, List, [], ◌∷◌, ◌++◌, length, map, refl, ap, ◌∙◌, sym, arith, Bool, true, false, cond, append-nil, subst, inl}
use Rattle.std.specs.Prelude.{IsNone}
use Rattle.std.specs.List.{AllByRecursion, flat_map, filter_map}
use Rattle.std.proofs.lemmas.List.{length-append}
use Rattle.pbf_wire.specs.declared.fault.WireFault.{WireFault}
use Rattle.pbf_wire.specs.Field.{Entry}
use Rattle.pbf_wire.specs.Readings.{fields, wire, packed, each, sub, is_there}
use Rattle.osm_value.specs.declared.element.Element.{Element}
use Rattle.osm_value.specs.declared.element.Element.TheVariants as elements
use Rattle.osm_value.specs.Value.{Text, NodeValue, MemberValue, WayValue, RelationValue}
use Rattle.osm_value.specs.Ranges.{IsWay, IsRelation}
use Rattle.osm_value.proofs.Ranges.{all_append}
use Rattle.osm_block.specs.declared.fields.TheConstants.{DENSEINFO_CHANGESET, DENSEINFO_TIMESTAMP, DENSEINFO_UID, DENSEINFO_USER_SID, DENSEINFO_VERSION, DENSEINFO_VISIBLE, DENSE_DENSEINFO, DENSE_ID, DENSE_KEYS_VALS, DENSE_LAT, DENSE_LON, GROUP_DENSE, GROUP_NODES, GROUP_RELATIONS, GROUP_WAYS, WAY_REFS}
use Rattle.osm_block.specs.Message.{Context, Message, Dense, Way, Relation, messages, dense_message}
use Rattle.osm_block.specs.Block.{AllAreWire, MessageOf, Joins, GroupOf, kinds_in, DenseOf}
use Rattle.osm_write.specs.Canon.{Scale, number, bytes_field, message_field, head_bytes, way_bytes, relation_bytes, members_bytes, delta_field, dense_bytes, node_of, way_or_relation, group_bytes}
use Rattle.osm_write.proofs.Known.{context_of, IsKnown, IsScale}
use Rattle.osm_write.proofs.Segments.{Segment, IsSegment, message_segment, message_entries, repeated_segment, is_message_segment, is_repeated_segment, message_each, message_sub, repeated_each, payloads_of, message_read, entries_of, each_at}
use Rattle.osm_write.proofs.Pieces.{bytes_entry}
use Rattle.osm_write.proofs.InfoRead.{IsWritten}
use Rattle.osm_write.proofs.ElementRead.{message_long, payloads_sound, WayIsWritten, RelationIsWritten, way_read, relation_read}
use Rattle.osm_write.proofs.DenseRead.{NodeIsWritten, IsDense, dense_read}
use Rattle.osm_write.proofs.DenseInfoRead.{IsSame}
use Rattle.osm_write.proofs.RunsRead.{IsRun, OneKind, AllNodes, AllWays, AllRelations, one_kind}

-- ---- elements that are written

pub record HasHead (s : Scale) (tags : List (Text × Text)) : Type 0 where
  pub keys : AllByRecursion (λ (t : Text × Text). IsKnown s t.0) tags
  pub values : AllByRecursion (λ (t : Text × Text). IsKnown s t.1) tags

pub record WayIsKnown (s : Scale) (w : WayValue) : Type 0 where
  pub in_range : IsWay w
  pub head : HasHead s w.tags
  pub info : IsWritten s w.info

pub record RelationIsKnown (s : Scale) (r : RelationValue) : Type 0 where
  pub in_range : IsRelation r
  pub head : HasHead s r.tags
  pub info : IsWritten s r.info
  pub roles : AllByRecursion (λ (m : MemberValue). IsKnown s m.role) r.members

abbrev pub ElementIsKnown : Scale → Element → Type 0
ElementIsKnown s (elements.Node n) = NodeIsWritten s n
ElementIsKnown s (elements.Way w) = WayIsKnown s w
ElementIsKnown s (elements.Relation r) = RelationIsKnown s r

-- ---- lengths

field_long : (k : ℕ) (bs : List ℕ) → length bs ≤ length (bytes_field k bs)
field_long k bs = let a = length-append (number (8 * k + 2) ++ number (length bs)) bs in omega arith

pub each_short : (k : ℕ) (bss : List (List ℕ)) → length (flat_map (bytes_field k) bss) < 2 ^ 64 → AllByRecursion (λ (bs : List ℕ). length bs < 2 ^ 64) bss
each_short k [] short = tt
each_short k (bs ∷ bss) short =
    let a = length-append (bytes_field k bs) (flat_map (bytes_field k) bss) in
    let b = field_long k bs in
    (omega arith, each_short k bss (omega arith))

way_written : (s : Scale) (w : WayValue) → IsScale s → WayIsKnown s w → length (way_bytes s w) < 2 ^ 64 → WayIsWritten s w
way_written s w sc h short =
    let a = length-append (head_bytes s w.id w.tags w.info) (delta_field WAY_REFS w.refs) in
    record {
      head = record { scale = sc; wide = h.in_range.id; keys = h.head.keys; values = h.head.values; info = h.info; short = omega arith };
      in_range = h.in_range;
      short = short;
    }

relation_written : (s : Scale) (r : RelationValue) → IsScale s → RelationIsKnown s r → length (relation_bytes s r) < 2 ^ 64 → RelationIsWritten s r
relation_written s r sc h short =
    let a = length-append (head_bytes s r.id r.tags r.info) (members_bytes s r.members) in
    record {
      head = record { scale = sc; wide = h.in_range.id; keys = h.head.keys; values = h.head.values; info = h.info; short = omega arith };
      roles = h.roles;
      in_range = h.in_range;
      short = short;
    }

-- ---- no dense nodes

abbrev Says : Context → List Element → Message → Type 0
Says b xs m = AllAreWire m × MessageOf b xs m

no_dense : (b : Context) → Says b [] (Dense [])
no_dense b = (
  tt,
  (
    [],
    refl,
    record {
      ids_are = record { are = refl; fit = tt };
      lats_are = ([], record { are = refl; fit = tt }, refl);
      lons_are = ([], record { are = refl; fit = tt }, refl);
      tags_are = ([], inl (refl, tt), refl);
      infos_are = record {
        versions_are = refl;
        times_are = ([], record { are = refl; fit = tt }, refl);
        changesets_are = ([], record { are = refl; fit = tt }, refl);
        uids_are = ([], record { are = refl; fit = tt }, refl);
        users_are = ([], record { are = refl; fit = tt }, refl);
        visibles_are = refl;
        in_range = tt;
      };
      in_range = tt;
    },
  ),
)

-- ---- a group of nodes

record IsOnly (gs : List Entry) (dense ways relations : List (List ℕ)) : Type 0 where
  pub plain_are : each gs GROUP_NODES ≡ []
  pub dense_are : each gs GROUP_DENSE ≡ dense
  pub ways_are : each gs GROUP_WAYS ≡ ways
  pub relations_are : each gs GROUP_RELATIONS ≡ relations

messages_are : (gs : List Entry) (dense ways relations : List (List ℕ)) → IsOnly gs dense ways relations → messages gs ≡ Dense dense ∷ (map Way ways ++ map Relation relations)
messages_are gs dense ways relations h = rw (h.plain_are, h.dense_are, h.ways_are, h.relations_are) refl

at_most_one : (b : Bool) → cond b 1 0 ≤ 1
at_most_one true = omega arith
at_most_one false = omega arith

nodes_kinds : (gs : List Entry) (dense : List (List ℕ)) → IsOnly gs dense [] [] → kinds_in gs ≤ 1
nodes_kinds gs dense h = let a = at_most_one (is_there dense) in rw (h.plain_are, h.dense_are, h.ways_are, h.relations_are) (omega arith)

ways_kinds : (gs : List Entry) (ways : List (List ℕ)) → IsOnly gs [] ways [] → kinds_in gs ≤ 1
ways_kinds gs ways h = let a = at_most_one (is_there ways) in rw (h.plain_are, h.dense_are, h.ways_are, h.relations_are) (omega arith)

relations_kinds : (gs : List Entry) (relations : List (List ℕ)) → IsOnly gs [] [] relations → kinds_in gs ≤ 1
relations_kinds gs relations h = let a = at_most_one (is_there relations) in rw (h.plain_are, h.dense_are, h.ways_are, h.relations_are) (omega arith)

only_nodes : (s : Scale) (ns : List NodeValue) → filter_map node_of (map elements.Node ns) ≡ ns
only_nodes s [] = refl
only_nodes s (n ∷ ns) = ap (λ xs. n ∷ xs) (only_nodes s ns)

nothing_else : (s : Scale) (ns : List NodeValue) → flat_map (way_or_relation s) (map elements.Node ns) ≡ []
nothing_else s [] = refl
nothing_else s (n ∷ ns) = nothing_else s ns

nodes_known : (s : Scale) (ns : List NodeValue) → AllByRecursion (ElementIsKnown s) (map elements.Node ns) → AllByRecursion (NodeIsWritten s) ns
nodes_known s [] all = tt
nodes_known s (n ∷ ns) all = (all.0, nodes_known s ns all.1)

dense_says : (s : Scale) (ns : List NodeValue) (w : List ℕ) → IsDense s ns w → Says (context_of s) (map elements.Node ns) (Dense (payloads_of w))
dense_says s ns w h =
    let same : flat_map fields (payloads_of w) ≡ fields w = message_sub w in
    let Q : List Entry → Type 0 = λ fs. AllByRecursion (IsNone {T = WireFault})
    (map wire (payloads_of w) ++ map wire (each fs DENSE_DENSEINFO) ++ (map packed (each fs DENSE_ID) ++ (map packed (each fs DENSE_LAT) ++ (map packed (each fs DENSE_LON) ++ (map packed (each fs DENSE_KEYS_VALS) ++ []))))
    ++ (map packed (each (sub fs DENSE_DENSEINFO) DENSEINFO_VERSION) ++ (map packed (each (sub fs DENSE_DENSEINFO) DENSEINFO_TIMESTAMP) ++ (map packed (each (sub fs DENSE_DENSEINFO) DENSEINFO_CHANGESET) ++ (map packed (each (sub fs DENSE_DENSEINFO) DENSEINFO_UID) ++ (map packed (each (sub fs DENSE_DENSEINFO) DENSEINFO_USER_SID)
    ++ (map packed (each (sub fs DENSE_DENSEINFO) DENSEINFO_VISIBLE) ++ []))))))) in
    let P : List Entry → Type 0 = λ fs. DenseOf (context_of s) ns (dense_message fs) in (
      subst Q (sym same) (all_append IsNone _ _ (all_append IsNone _ _ (all_append IsNone _ _ (payloads_sound w h.sound) h.info_sound) h.arrays) h.info_arrays),
      (ns, refl, subst P (sym same) h.holds),
    )

nodes_group : (s : Scale) (ns : List NodeValue) (g : List ℕ) → g ≡ message_field GROUP_DENSE (dense_bytes s ns) ++ [] → IsDense s ns (dense_bytes s ns) → length (dense_bytes s ns) < 2 ^ 64 → GroupOf (context_of s) (map elements.Node ns) g
nodes_group s ns g is d within =
    let ss : List Segment = message_segment GROUP_DENSE (dense_bytes s ns) ∷ [] in
    let whole : AllByRecursion IsSegment ss = (is_message_segment GROUP_DENSE refl (omega arith) (dense_bytes s ns) within, tt) in
    let m = message_read ss g is whole in
    let only : IsOnly (entries_of ss) (payloads_of (dense_bytes s ns)) [] [] = record {
      plain_are = each_at ss whole GROUP_NODES [] refl;
      dense_are = each_at ss whole GROUP_DENSE (message_entries GROUP_DENSE (dense_bytes s ns)) (append-nil _) ∙ message_each GROUP_DENSE (dense_bytes s ns);
      ways_are = each_at ss whole GROUP_WAYS [] refl;
      relations_are = each_at ss whole GROUP_RELATIONS [] refl;
    } in
    let J : List Message → Type 0 = λ ms. Joins (Says (context_of s)) (map elements.Node ns) ms in
    let joins : J (Dense (payloads_of (dense_bytes s ns)) ∷ []) = (map elements.Node ns, [], sym (append-nil _), dense_says s ns (dense_bytes s ns) d, refl) in
    let K : List Entry → Type 0 = λ gs. kinds_in gs ≤ 1 in
    let L : List Entry → Type 0 = λ gs. J (messages gs) in
    record {
      is_message = m.sound;
      one_kind = subst K (sym m.fields_are) (nodes_kinds (entries_of ss) _ only);
      elements_are = subst L (sym m.fields_are) (subst J (sym (messages_are (entries_of ss) _ [] [] only)) joins);
    }

-- ---- groups of ways and of relations

no_node_of_ways : (ws : List WayValue) → filter_map node_of (map elements.Way ws) ≡ []
no_node_of_ways [] = refl
no_node_of_ways (w ∷ ws) = no_node_of_ways ws

no_node_of_relations : (rs : List RelationValue) → filter_map node_of (map elements.Relation rs) ≡ []
no_node_of_relations [] = refl
no_node_of_relations (r ∷ rs) = no_node_of_relations rs

only_ways : (s : Scale) (ws : List WayValue) → flat_map (way_or_relation s) (map elements.Way ws) ≡ flat_map (bytes_field GROUP_WAYS) (map (way_bytes s) ws)
only_ways s [] = refl
only_ways s (w ∷ ws) = ap (λ xs. bytes_field GROUP_WAYS (way_bytes s w) ++ xs) (only_ways s ws)

only_relations : (s : Scale) (rs : List RelationValue) → flat_map (way_or_relation s) (map elements.Relation rs) ≡ flat_map (bytes_field GROUP_RELATIONS) (map (relation_bytes s) rs)
only_relations s [] = refl
only_relations s (r ∷ rs) = ap (λ xs. bytes_field GROUP_RELATIONS (relation_bytes s r) ++ xs) (only_relations s rs)

ways_join : (s : Scale) (ws : List WayValue) → IsScale s → AllByRecursion (ElementIsKnown s) (map elements.Way ws) → AllByRecursion (λ (bs : List ℕ). length bs < 2 ^ 64) (map (way_bytes s) ws)
    → Joins (Says (context_of s)) (map elements.Way ws) (map Way (map (way_bytes s) ws) ++ [])
ways_join s [] sc all short = refl
ways_join s (w ∷ ws) sc all short =
    let r = way_read s w (way_written s w sc all.0 short.0) in
    (elements.Way w ∷ [], map elements.Way ws, refl, (r.sound, (w, refl, r.holds)), ways_join s ws sc all.1 short.1)

relations_join : (s : Scale) (rs : List RelationValue) → IsScale s → AllByRecursion (ElementIsKnown s) (map elements.Relation rs) → AllByRecursion (λ (bs : List ℕ). length bs < 2 ^ 64) (map (relation_bytes s) rs)
    → Joins (Says (context_of s)) (map elements.Relation rs) (map Relation (map (relation_bytes s) rs))
relations_join s [] sc all short = refl
relations_join s (r ∷ rs) sc all short =
    let q = relation_read s r (relation_written s r sc all.0 short.0) in
    (elements.Relation r ∷ [], map elements.Relation rs, refl, (q.sound, (r, refl, q.holds)), relations_join s rs sc all.1 short.1)

ways_group : (s : Scale) (ws : List WayValue) (g : List ℕ) → IsScale s → AllByRecursion (ElementIsKnown s) (map elements.Way ws) → length g < 2 ^ 64
    → g ≡ flat_map (bytes_field GROUP_WAYS) (map (way_bytes s) ws) → GroupOf (context_of s) (map elements.Way ws) g
ways_group s ws g sc all short is =
    let bss : List (List ℕ) = map (way_bytes s) ws in
    let ss : List Segment = repeated_segment GROUP_WAYS bss ∷ [] in
    let each_is : AllByRecursion (λ (bs : List ℕ). length bs < 2 ^ 64) bss = each_short GROUP_WAYS bss (let e = ap length is in omega arith) in
    let whole : AllByRecursion IsSegment ss = (is_repeated_segment GROUP_WAYS refl (omega arith) bss each_is, tt) in
    let m = message_read ss g (is ∙ sym (append-nil _)) whole in
    let only : IsOnly (entries_of ss) [] bss [] = record {
      plain_are = each_at ss whole GROUP_NODES [] refl;
      dense_are = each_at ss whole GROUP_DENSE [] refl;
      ways_are = each_at ss whole GROUP_WAYS (map (bytes_entry GROUP_WAYS) bss) (append-nil _) ∙ repeated_each GROUP_WAYS bss;
      relations_are = each_at ss whole GROUP_RELATIONS [] refl;
    } in
    let J : List Message → Type 0 = λ ms. Joins (Says (context_of s)) (map elements.Way ws) ms in
    let joins : J (Dense [] ∷ (map Way bss ++ [])) = ([], map elements.Way ws, refl, no_dense (context_of s), ways_join s ws sc all each_is) in
    let K : List Entry → Type 0 = λ gs. kinds_in gs ≤ 1 in
    let L : List Entry → Type 0 = λ gs. J (messages gs) in
    record {
      is_message = m.sound;
      one_kind = subst K (sym m.fields_are) (ways_kinds (entries_of ss) bss only);
      elements_are = subst L (sym m.fields_are) (subst J (sym (messages_are (entries_of ss) [] bss [] only)) joins);
    }

relations_group : (s : Scale) (rs : List RelationValue) (g : List ℕ) → IsScale s → AllByRecursion (ElementIsKnown s) (map elements.Relation rs) → length g < 2 ^ 64
    → g ≡ flat_map (bytes_field GROUP_RELATIONS) (map (relation_bytes s) rs) → GroupOf (context_of s) (map elements.Relation rs) g
relations_group s rs g sc all short is =
    let bss : List (List ℕ) = map (relation_bytes s) rs in
    let ss : List Segment = repeated_segment GROUP_RELATIONS bss ∷ [] in
    let each_is : AllByRecursion (λ (bs : List ℕ). length bs < 2 ^ 64) bss = each_short GROUP_RELATIONS bss (let e = ap length is in omega arith) in
    let whole : AllByRecursion IsSegment ss = (is_repeated_segment GROUP_RELATIONS refl (omega arith) bss each_is, tt) in
    let m = message_read ss g (is ∙ sym (append-nil _)) whole in
    let only : IsOnly (entries_of ss) [] [] bss = record {
      plain_are = each_at ss whole GROUP_NODES [] refl;
      dense_are = each_at ss whole GROUP_DENSE [] refl;
      ways_are = each_at ss whole GROUP_WAYS [] refl;
      relations_are = each_at ss whole GROUP_RELATIONS (map (bytes_entry GROUP_RELATIONS) bss) (append-nil _) ∙ repeated_each GROUP_RELATIONS bss;
    } in
    let J : List Message → Type 0 = λ ms. Joins (Says (context_of s)) (map elements.Relation rs) ms in
    let joins : J (Dense [] ∷ map Relation bss) = ([], map elements.Relation rs, refl, no_dense (context_of s), relations_join s rs sc all each_is) in
    let K : List Entry → Type 0 = λ gs. kinds_in gs ≤ 1 in
    let L : List Entry → Type 0 = λ gs. J (messages gs) in
    record {
      is_message = m.sound;
      one_kind = subst K (sym m.fields_are) (relations_kinds (entries_of ss) bss only);
      elements_are = subst L (sym m.fields_are) (subst J (sym (messages_are (entries_of ss) [] [] bss only)) joins);
    }

-- ---- any group

abbrev IsReadGroup : Scale → List Element → Type 0
IsReadGroup s es = AllByRecursion (ElementIsKnown s) es → length (group_bytes s es) < 2 ^ 64 → GroupOf (context_of s) es (group_bytes s es)

nodes_read : (s : Scale) (ns : List NodeValue) → IsScale s → IsSame (map (λ (n : NodeValue). n.info) ns) → IsReadGroup s (map elements.Node ns)
nodes_read s ns sc same all short =
    let is : group_bytes s (map elements.Node ns) ≡ message_field GROUP_DENSE (dense_bytes s ns) ++ [] = rw (only_nodes s ns, nothing_else s ns) refl in
    let l = ap length is in
    let a = length-append (message_field GROUP_DENSE (dense_bytes s ns)) [] in
    let b = message_long GROUP_DENSE (dense_bytes s ns) in
    let within : length (dense_bytes s ns) < 2 ^ 64 = omega arith in
    let known = nodes_known s ns all in
    nodes_group s ns (group_bytes s (map elements.Node ns)) is (dense_read s ns sc known same within) within

ways_read : (s : Scale) (ws : List WayValue) → IsScale s → IsReadGroup s (map elements.Way ws)
ways_read s ws sc all short =
    ways_group s ws (group_bytes s (map elements.Way ws)) sc all short (rw (no_node_of_ways ws, only_ways s ws) refl)

relations_read : (s : Scale) (rs : List RelationValue) → IsScale s → IsReadGroup s (map elements.Relation rs)
relations_read s rs sc all short =
    relations_group s rs (group_bytes s (map elements.Relation rs)) sc all short (rw (no_node_of_relations rs, only_relations s rs) refl)

read_kind : (s : Scale) (es : List Element) → IsScale s → OneKind es → IsReadGroup s es
read_kind s es sc (AllNodes k) = subst (IsReadGroup s) (sym k.are) (nodes_read s k.nodes sc k.same)
read_kind s es sc (AllWays k) = subst (IsReadGroup s) (sym k.are) (ways_read s k.ways sc)
read_kind s es sc (AllRelations k) = subst (IsReadGroup s) (sym k.are) (relations_read s k.relations sc)

pub group_read : (s : Scale) (es : List Element) → IsScale s → AllByRecursion (ElementIsKnown s) es → IsRun es → length (group_bytes s es) < 2 ^ 64 → GroupOf (context_of s) es (group_bytes s es)
group_read s es sc all run short = read_kind s es sc (one_kind es run) all short
