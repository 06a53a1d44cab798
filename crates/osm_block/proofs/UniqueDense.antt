-- A dense message stands to one list of nodes at most, and a block to one list of elements.
use Rattle.std.proofs.Common.{◌≡◌, ℕ, List, [], ◌∷◌, map, length, refl, sym, ap, ◌∙◌, ℤ, Option, Some, arith, inl, inr}
use Rattle.std.specs.Prelude.{option_map, flat_map}
use Rattle.std.specs.List.{AllByRecursion}
use Rattle.std.proofs.lemmas.List.{length-map}
use Rattle.osm_value.specs.declared.element.Element.{Element}
use Rattle.osm_value.specs.declared.element.Element.TheVariants as elements
use Rattle.osm_value.specs.Value.{Text, InfoValue, NodeValue}
use Rattle.pbf_wire.specs.Readings.{fields}
use Rattle.osm_block.specs.declared.fields.TheConstants.{BLOCK_PRIMITIVEGROUP}
use Rattle.osm_block.specs.Message.{Context, DenseInfoMessage, DenseMessage, Message, Plain, Dense, Way, Relation, node_message, dense_message, way_message, relation_message, context, messages}
use Rattle.pbf_wire.specs.Readings.{each}
use Rattle.osm_block.specs.DenseTags.{Pair, Tags, pairs_and_zero, KeysAreNotZero, pairs_of}
use Rattle.osm_block.specs.Block.{DenseInfoOf, DenseOf, Stands, StandsOrNone, values_for, version, all_there, texts_at, MessageOf, AllAreWire, GroupOf, Block}
use Rattle.osm_block.proofs.DifferencesLemmas.{Diff-unique}
use Rattle.osm_block.proofs.Unique.{some_one, option_one, pairs_of-joined, Joins-unique, NodeOf-unique, WayOf-unique, RelationOf-unique}

-- ---- tags

joined_one : (ts us : List (List Pair)) (kv : List ℤ) → length ts ≡ length us → kv ≡ flat_map pairs_and_zero ts → kv ≡ flat_map pairs_and_zero us → AllByRecursion KeysAreNotZero ts → AllByRecursion KeysAreNotZero us → ts ≡ us
joined_one ts us kv len e f h k =
    some_one ts us (sym (pairs_of-joined ts h) ∙ ap (pairs_of (length ts)) (sym e ∙ f) ∙ ap (λ n. pairs_of n (flat_map pairs_and_zero us)) len ∙ pairs_of-joined us k)

empty_one : (ts us : List (List Pair)) → length ts ≡ length us → AllByRecursion (λ ps. ps ≡ []) ts → AllByRecursion (λ ps. ps ≡ []) us → ts ≡ us
empty_one [] [] len h k = refl
empty_one [] (u ∷ us) len h k = absurd (omega arith)
empty_one (t ∷ ts) [] len h k = absurd (omega arith)
empty_one (t ∷ ts) (u ∷ us) len h k =
    let shorter : length ts ≡ length us = omega arith in
    ap (λ x. x ∷ ts) (h.0 ∙ sym k.0) ∙ ap (λ l. u ∷ l) (empty_one ts us shorter h.1 k.1)

-- a node's pairs and its 0 are something
not_nothing : (ts : List (List Pair)) → flat_map pairs_and_zero ts ≡ [] → length ts ≡ 0
not_nothing [] e = refl
not_nothing ([] ∷ ts) e = cc
not_nothing ((p ∷ ps) ∷ ts) e = cc

mixed_one : (ts us : List (List Pair)) → length ts ≡ length us → flat_map pairs_and_zero ts ≡ [] → ts ≡ us
mixed_one [] [] len e = refl
mixed_one [] (u ∷ us) len e = absurd (omega arith)
mixed_one (t ∷ ts) us len e = absurd (omega (arith, not_nothing (t ∷ ts) e))

pub Tags-unique : (ts us : List (List Pair)) (kv : List ℤ) → length ts ≡ length us → Tags ts kv → Tags us kv → ts ≡ us
Tags-unique ts us kv len (inl g) (inl h) = joined_one ts us kv len g.0 h.0 g.1 h.1
Tags-unique ts us kv len (inl g) (inr h) = mixed_one ts us len (sym g.0 ∙ h.0)
Tags-unique ts us kv len (inr g) (inl h) = sym (mixed_one us ts (sym len) (sym h.0 ∙ g.0))
Tags-unique ts us kv len (inr g) (inr h) = empty_one ts us len g.1 h.1

there_one : (us vs : List (Text × Text)) → all_there us ≡ all_there vs → us ≡ vs
there_one [] [] e = refl
there_one [] (v ∷ vs) e = cc
there_one (u ∷ us) [] e = cc
there_one (u ∷ us) (v ∷ vs) e =
    let here : Option Text × Option Text = (Some u.0, Some u.1) in
    let there : Option Text × Option Text = (Some v.0, Some v.1) in
    let heads : here ≡ there = cc in
    let tails : all_there us ≡ all_there vs = cc in
    ap (λ x. (x, u.1) ∷ us) (some_one u.0 v.0 (ap (λ p. p.0) heads)) ∙ ap (λ x. (v.0, x) ∷ us) (some_one u.1 v.1 (ap (λ p. p.1) heads)) ∙ ap (λ l. v ∷ l) (there_one us vs tails)

-- ---- nodes by their arrays

infos_one : (us vs : List InfoValue) → map (λ i. i.version) us ≡ map (λ i. i.version) vs → map (λ i. i.time) us ≡ map (λ i. i.time) vs → map (λ i. i.changeset) us ≡ map (λ i. i.changeset) vs
    → map (λ i. i.uid) us ≡ map (λ i. i.uid) vs → map (λ i. option_map Some i.user) us ≡ map (λ i. option_map Some i.user) vs → map (λ i. i.visible) us ≡ map (λ i. i.visible) vs → us ≡ vs
infos_one [] [] a b c d e f = refl
infos_one [] (v ∷ vs) a b c d e f = cc
infos_one (u ∷ us) [] a b c d e f = cc
infos_one (u ∷ us) (v ∷ vs) a b c d e f =
    let a0 : u.version ≡ v.version = cc in
    let b0 : u.time ≡ v.time = cc in
    let c0 : u.changeset ≡ v.changeset = cc in
    let d0 : u.uid ≡ v.uid = cc in
    let e0 : option_map Some u.user ≡ option_map Some v.user = cc in
    let f0 : u.visible ≡ v.visible = cc in
    let a1 : map (λ i. i.version) us ≡ map (λ i. i.version) vs = cc in
    let b1 : map (λ i. i.time) us ≡ map (λ i. i.time) vs = cc in
    let c1 : map (λ i. i.changeset) us ≡ map (λ i. i.changeset) vs = cc in
    let d1 : map (λ i. i.uid) us ≡ map (λ i. i.uid) vs = cc in
    let e1 : map (λ i. option_map Some i.user) us ≡ map (λ i. option_map Some i.user) vs = cc in
    let f1 : map (λ i. i.visible) us ≡ map (λ i. i.visible) vs = cc in
    ap (λ x. record { version = x; time = u.time; changeset = u.changeset; uid = u.uid; user = u.user; visible = u.visible } ∷ us) a0
    ∙ ap (λ x. record { version = v.version; time = x; changeset = u.changeset; uid = u.uid; user = u.user; visible = u.visible } ∷ us) b0
    ∙ ap (λ x. record { version = v.version; time = v.time; changeset = x; uid = u.uid; user = u.user; visible = u.visible } ∷ us) c0
    ∙ ap (λ x. record { version = v.version; time = v.time; changeset = v.changeset; uid = x; user = u.user; visible = u.visible } ∷ us) d0
    ∙ ap (λ x. record { version = v.version; time = v.time; changeset = v.changeset; uid = v.uid; user = x; visible = u.visible } ∷ us) (option_one u.user v.user e0)
    ∙ ap (λ x. record { version = v.version; time = v.time; changeset = v.changeset; uid = v.uid; user = v.user; visible = x } ∷ us) f0
    ∙ ap (λ l. v ∷ l) (infos_one us vs a1 b1 c1 d1 e1 f1)

nodes_one : (us vs : List NodeValue) → map (λ n. n.id) us ≡ map (λ n. n.id) vs → map (λ n. n.lat) us ≡ map (λ n. n.lat) vs → map (λ n. n.lon) us ≡ map (λ n. n.lon) vs
    → map (λ n. all_there n.tags) us ≡ map (λ n. all_there n.tags) vs → map (λ n. n.info) us ≡ map (λ n. n.info) vs → us ≡ vs
nodes_one [] [] a b c d e = refl
nodes_one [] (v ∷ vs) a b c d e = cc
nodes_one (u ∷ us) [] a b c d e = cc
nodes_one (u ∷ us) (v ∷ vs) a b c d e =
    let a0 : u.id ≡ v.id = cc in
    let b0 : u.lat ≡ v.lat = cc in
    let c0 : u.lon ≡ v.lon = cc in
    let d0 : all_there u.tags ≡ all_there v.tags = cc in
    let e0 : u.info ≡ v.info = cc in
    let a1 : map (λ n. n.id) us ≡ map (λ n. n.id) vs = cc in
    let b1 : map (λ n. n.lat) us ≡ map (λ n. n.lat) vs = cc in
    let c1 : map (λ n. n.lon) us ≡ map (λ n. n.lon) vs = cc in
    let d1 : map (λ n. all_there n.tags) us ≡ map (λ n. all_there n.tags) vs = cc in
    let e1 : map (λ n. n.info) us ≡ map (λ n. n.info) vs = cc in
    ap (λ x. record { id = x; lat = u.lat; lon = u.lon; tags = u.tags; info = u.info } ∷ us) a0
    ∙ ap (λ x. record { id = v.id; lat = x; lon = u.lon; tags = u.tags; info = u.info } ∷ us) b0
    ∙ ap (λ x. record { id = v.id; lat = v.lat; lon = x; tags = u.tags; info = u.info } ∷ us) c0
    ∙ ap (λ x. record { id = v.id; lat = v.lat; lon = v.lon; tags = x; info = u.info } ∷ us) (there_one u.tags v.tags d0)
    ∙ ap (λ x. record { id = v.id; lat = v.lat; lon = v.lon; tags = v.tags; info = x } ∷ us) e0
    ∙ ap (λ l. v ∷ l) (nodes_one us vs a1 b1 c1 d1 e1)

stands_one : {A : Type 0} (xs ys : List A) (meaning : ℤ → A) (ds : List ℤ) → Stands xs meaning ds → Stands ys meaning ds → xs ≡ ys
stands_one xs ys meaning ds g h = g.2 ∙ ap (map meaning) (Diff-unique g.0 h.0 ds g.1 h.1) ∙ sym h.2

values_for_one : {A : Type 0} (n m : ℕ) (xs ys : List (Option A)) (meaning : ℤ → A) (ds : List ℤ) → n ≡ m → StandsOrNone n xs meaning ds → StandsOrNone m ys meaning ds → xs ≡ ys
values_for_one n m xs ys meaning ds len g h =
    g.2 ∙ ap (λ vs. values_for n (map (λ v. Some (meaning v)) vs)) (Diff-unique g.0 h.0 ds g.1 h.1) ∙ ap (λ k. values_for k (map (λ v. Some (meaning v)) h.0)) len ∙ sym h.2

pub DenseInfoOf-unique : (b : Context) (us vs : List InfoValue) (m : DenseInfoMessage) → length us ≡ length vs → DenseInfoOf b us m → DenseInfoOf b vs m → us ≡ vs
DenseInfoOf-unique b us vs m len g h = infos_one us vs
    (g.versions_are ∙ ap (λ k. values_for k (map version m.version)) len ∙ sym h.versions_are)
    (values_for_one _ _ _ _ _ m.timestamp len g.times_are h.times_are)
    (values_for_one _ _ _ _ _ m.changeset len g.changesets_are h.changesets_are)
    (values_for_one _ _ _ _ _ m.uid len g.uids_are h.uids_are)
    (values_for_one _ _ _ _ _ m.user_sid len g.users_are h.users_are)
    (g.visibles_are ∙ ap (λ k. values_for k (map Some m.visible)) len ∙ sym h.visibles_are)

pub DenseOf-unique : (b : Context) (us vs : List NodeValue) (m : DenseMessage) → DenseOf b us m → DenseOf b vs m → us ≡ vs
DenseOf-unique b us vs m g h =
    let ids : map (λ n. n.id) us ≡ map (λ n. n.id) vs = Diff-unique _ _ m.id g.ids_are h.ids_are in
    let len : length us ≡ length vs = sym (length-map us (λ n. n.id)) ∙ ap length ids ∙ length-map vs (λ n. n.id) in
    let infos : length (map (λ n. n.info) us) ≡ length (map (λ n. n.info) vs) = length-map us (λ n. n.info) ∙ len ∙ sym (length-map vs (λ n. n.info)) in
    let left : length g.tags_are.0 ≡ length us = sym (length-map g.tags_are.0 (texts_at b.table)) ∙ sym (ap length g.tags_are.2) ∙ length-map us (λ n. all_there n.tags) in
    let right : length h.tags_are.0 ≡ length vs = sym (length-map h.tags_are.0 (texts_at b.table)) ∙ sym (ap length h.tags_are.2) ∙ length-map vs (λ n. all_there n.tags) in
    let pairs : g.tags_are.0 ≡ h.tags_are.0 = Tags-unique g.tags_are.0 h.tags_are.0 m.keys_vals (left ∙ len ∙ sym right) g.tags_are.1 h.tags_are.1 in
    nodes_one us vs ids (stands_one _ _ _ m.lat g.lats_are h.lats_are) (stands_one _ _ _ m.lon g.lons_are h.lons_are)
    (g.tags_are.2 ∙ ap (map (texts_at b.table)) pairs ∙ sym h.tags_are.2)
    (DenseInfoOf-unique b _ _ m.info infos g.infos_are h.infos_are)

-- ---- messages, groups, blocks

pub MessageOf-unique : (b : Context) (xs ys : List Element) (m : Message) → MessageOf b xs m → MessageOf b ys m → xs ≡ ys
MessageOf-unique b xs ys (Plain p) g h = g.1 ∙ ap (λ n. elements.Node n ∷ []) (NodeOf-unique b g.0 h.0 (node_message (fields p)) g.2 h.2) ∙ sym h.1
MessageOf-unique b xs ys (Dense ps) g h = g.1 ∙ ap (map elements.Node) (DenseOf-unique b g.0 h.0 (dense_message (flat_map fields ps)) g.2 h.2) ∙ sym h.1
MessageOf-unique b xs ys (Way p) g h = g.1 ∙ ap (λ n. elements.Way n ∷ []) (WayOf-unique b g.0 h.0 (way_message (fields p)) g.2 h.2) ∙ sym h.1
MessageOf-unique b xs ys (Relation p) g h = g.1 ∙ ap (λ n. elements.Relation n ∷ []) (RelationOf-unique b g.0 h.0 (relation_message (fields p)) g.2 h.2) ∙ sym h.1

pub GroupOf-unique : (b : Context) (xs ys : List Element) (g : List ℕ) → GroupOf b xs g → GroupOf b ys g → xs ≡ ys
GroupOf-unique b xs ys w g h = Joins-unique (λ zs m. AllAreWire m × MessageOf b zs m) (λ us vs m p q. MessageOf-unique b us vs m p.1 q.1) xs ys (messages (fields w)) g.elements_are h.elements_are

-- a block says one list of elements
pub Block-unique : (es fs : List Element) (w : List ℕ) → Block es w → Block fs w → es ≡ fs
Block-unique es fs w g h = Joins-unique (GroupOf (context (fields w))) (GroupOf-unique (context (fields w))) es fs (each (fields w) BLOCK_PRIMITIVEGROUP) g.elements_are h.elements_are
