-- Groups whose dense nodes stay in arrays.
use Rattle.std.proofs.Common.{◌≡◌, ℕ, List, [], ◌∷◌, ◌++◌, map, length, take, drop, get_or, ◌+◌, ◌<◌, Bool, true, false, not, refl, sym, ap, subst, ◌∙◌, ℤ, Option, Some, None, append-nil, Bor, Err}
use Rattle.std.specs.Prelude.{option_map, nat_le}
use Rattle.std.specs.List.{flat_map, count_by, list_all}
use Rattle.std.proofs.lemmas.List.{length-map, map-append, take_more}
use Rattle.pbf_wire.specs.Field.{Entry}
use Rattle.pbf_wire.specs.Readings.{fields, wire, each, is_there}
use Rattle.osm_value.specs.declared.element.Element.{Element}
use Rattle.osm_value.specs.declared.element.Element.TheVariants as elements
use Rattle.osm_value.specs.Value.{InfoValue, NodeValue}
use Rattle.osm_block.specs.declared.fault.BlockError.{BlockError}
use Rattle.osm_block.specs.declared.fault.BlockFault.TheVariants as faults
use Rattle.osm_block.specs.declared.fields.TheConstants.{GROUP_DENSE, GROUP_NODES, GROUP_RELATIONS, GROUP_WAYS}
use Rattle.osm_block.specs.declared.dense.arrays.DenseArrays.{DenseArrays}
use Rattle.osm_block.specs.declared.group.GroupPayloads.{GroupPayloads}
use Rattle.osm_block.specs.declared.groups.GroupElements.{GroupElements}
use Rattle.osm_block.specs.declared.groups.GroupElements.TheVariants as groups
use Rattle.osm_block.specs.Message.{Context, DenseMessage, Message, Plain, Dense, Way, Relation, messages, dense_message}
use Rattle.osm_block.specs.Differences.{Diff}
use Rattle.osm_block.specs.DenseTags.{Pair, Tags}
use Rattle.osm_block.specs.NodeTags.{node_pairs}
use Rattle.osm_block.specs.Block.{coordinate, time, version, text_at, texts_at, all_there, values_for, Stands, StandsOrNone, DenseOf, Joins, GroupOf, kinds_in}
use Rattle.osm_block.specs.Dense.{AreArraysOf, AreReady}
use Rattle.osm_block.specs.GroupMessages.{messages_of}
use Rattle.osm_block.specs.Groups.{AreNodesOf, GroupHolds}
use Rattle.osm_block.specs.GroupsRead.{GroupRead, GroupsRead}
use Rattle.osm_block.specs.Texts.{is_text}
use Rattle.osm_block.specs.Reads.{Says}
use Rattle.osm_block.specs.Phases.{Phase, Gives, first, when, message_phases, dense_phases, group_phases}
use Rattle.osm_block.proofs.DenseArrayLemmas.{Diff-length}
use Rattle.osm_block.proofs.DifferencesLemmas.{Diff-unique}
use Rattle.osm_block.proofs.NodeTagsLemmas.{TagsFit}
use Rattle.osm_block.proofs.UniqueDense.{Tags-unique}
use Rattle.osm_block.proofs.LoopLemmas.{message_wire, messages_are, few, single, Joins-more, phase-stop}
use Rattle.osm_block.proofs.ReadingLemmas.{Gives-err}
use Rattle.osm_block.proofs.FaultlessNodes.{dense_of, tags_stand, pairs_length}
use Rattle.osm_block.proofs.Faultless.{after_wire}

-- ---- the nodes of a message, by its arrays

inside : {A : Type 0} (f : InfoValue → A) (ns : List NodeValue) → map (λ n. f n.info) ns ≡ map f (map (λ n. n.info) ns)
inside f [] = refl
inside f (n ∷ ns) = ap (λ l. f n.info ∷ l) (inside f ns)

stand : {A : Type 0} (xs : List A) (meaning : ℤ → A) (vs ds : List ℤ) → Stands xs meaning ds → Diff vs ds → xs ≡ map meaning vs
stand xs meaning vs ds h d = h.2 ∙ ap (map meaning) (Diff-unique h.0 vs ds h.1 d)

stand_or_none : {A : Type 0} (f : InfoValue → Option A) (meaning : ℤ → A) (ns : List NodeValue) (vs ds : List ℤ) →
    StandsOrNone (length (map (λ n. n.info) ns)) (map f (map (λ n. n.info) ns)) meaning ds → Diff vs ds →
    map (λ n. f n.info) ns ≡ values_for (length ns) (map (λ v. Some (meaning v)) vs)
stand_or_none f meaning ns vs ds h d =
    inside f ns ∙ h.2 ∙ ap (λ l. values_for (length (map (λ n. n.info) ns)) (map (λ v. Some (meaning v)) l)) (Diff-unique h.0 vs ds h.1 d)
    ∙ ap (λ k. values_for k (map (λ v. Some (meaning v)) vs)) (length-map ns (λ n. n.info))

as_given : {A B : Type 0} (f : InfoValue → Option B) (meaning : A → Option B) (ns : List NodeValue) (xs ys : List A) →
    map f (map (λ n. n.info) ns) ≡ values_for (length (map (λ n. n.info) ns)) (map meaning ys) → xs ≡ ys →
    map (λ n. f n.info) ns ≡ values_for (length ns) (map meaning xs)
as_given f meaning ns xs ys h e =
    inside f ns ∙ h ∙ ap (λ l. values_for (length (map (λ n. n.info) ns)) (map meaning l)) (sym e) ∙ ap (λ k. values_for k (map meaning xs)) (length-map ns (λ n. n.info))

-- the pairs of the nodes, which stand nowhere else in the array
tags_one : (b : Context) (ns : List NodeValue) (m : DenseMessage) (ts : List (List Pair)) → TagsFit (length m.id) (length b.table) m.keys_vals → length ns ≡ length m.id →
    Tags ts m.keys_vals → map (λ n. all_there n.tags) ns ≡ map (texts_at b.table) ts → ts ≡ node_pairs (length ns) m.keys_vals
tags_one b ns m ts fit long tags stand =
    let long_tags : length ts ≡ length m.id = sym (length-map ts (texts_at b.table)) ∙ sym (ap length stand) ∙ length-map ns (λ n. all_there n.tags) ∙ long in
    Tags-unique ts (node_pairs (length m.id) m.keys_vals) m.keys_vals (long_tags ∙ sym (pairs_length (length m.id) m.keys_vals)) tags fit.are_tags
    ∙ ap (λ k. node_pairs k m.keys_vals) (sym long)

pub nodes_of_arrays : (b : Context) (c : DenseArrays) (m : DenseMessage) (ns : List NodeValue) → AreReady b c → AreArraysOf c m → TagsFit (length m.id) (length b.table) m.keys_vals → DenseOf b ns m → AreNodesOf b c ns
nodes_of_arrays b c m ns ready are fit h =
    let i = h.infos_are in
    let long : length ns ≡ length m.id = sym (length-map ns (λ n. n.id)) ∙ Diff-length _ m.id h.ids_are in
    let pairs : h.tags_are.0 ≡ node_pairs (length ns) c.keys_vals.items = tags_one b ns m h.tags_are.0 fit long h.tags_are.1 h.tags_are.2 ∙ ap (node_pairs (length ns)) (sym are.keys_vals) in
    record {
      ready = ready;
      ids = Diff-unique _ c.ids.items m.id h.ids_are are.ids;
      lats = stand _ (coordinate b.lat_offset b.granularity) c.lats.items m.lat h.lats_are are.lats;
      lons = stand _ (coordinate b.lon_offset b.granularity) c.lons.items m.lon h.lons_are are.lons;
      tags = h.tags_are.2 ∙ ap (map (texts_at b.table)) pairs;
      versions = as_given (λ i. i.version) version ns c.versions.items m.info.version i.versions_are are.versions;
      times = stand_or_none (λ i. i.time) (time b.date_granularity) ns c.timestamps.items m.info.timestamp i.times_are are.timestamps;
      changesets = stand_or_none (λ i. i.changeset) (λ v. v) ns c.changesets.items m.info.changeset i.changesets_are are.changesets;
      uids = stand_or_none (λ i. i.uid) (λ v. v) ns c.uids.items m.info.uid i.uids_are are.uids;
      users = stand_or_none (λ i. option_map Some i.user) (text_at b.table) ns c.users.items m.info.user_sid i.users_are are.users;
      visibles = as_given (λ i. i.visible) (λ v. Some v) ns c.visible.items m.info.visible i.visibles_are are.visible;
    }

-- a dense message without a fault has nodes, and they are those of its arrays
pub dense_nodes : (b : Context) (ps : List (List ℕ)) (c : DenseArrays) → list_all is_text b.table ≡ true → first (message_phases b (Dense ps)) ≡ None → AreReady b c → AreArraysOf c (dense_message (flat_map fields ps)) →
    (ns : List NodeValue) × Says b (map elements.Node ns) (Dense ps) × AreNodesOf b c ns
dense_nodes b ps c texts none ready are =
    let m : DenseMessage = dense_message (flat_map fields ps) in
    let after : first (dense_phases b m) ≡ None = after_wire b (Dense ps) none in
    let ns = dense_of b m texts after in
    (ns.0, (message_wire b (Dense ps) none, (ns.0, refl, ns.1)), nodes_of_arrays b c m ns.0 ready are (tags_stand b m after) ns.1)

-- ---- a group whose payloads were read

-- the payloads of a group that has elements of one kind at most
pub record PayloadsOf (p : GroupPayloads) (g : List ℕ) : Type 0 where
  pub is_message : wire g ≡ None
  pub one_kind : not (nat_le (kinds_in (fields g)) 1) ≡ false
  pub all : messages_of p ≡ messages (fields g)

abbrev now : List (Bor (List ℕ)) → List (List ℕ)
now ps = map (λ p. p.now) ps

abbrev kinds_of : GroupPayloads → ℕ
kinds_of p = count_by (λ x. x) (is_there (now p.nodes.items) ∷ is_there (now p.dense.items) ∷ is_there (now p.ways.items) ∷ is_there (now p.relations.items) ∷ [])

kinds_are : (gs : List Entry) (p q r s : List (List ℕ)) → p ≡ each gs GROUP_NODES → q ≡ each gs GROUP_DENSE → r ≡ each gs GROUP_WAYS → s ≡ each gs GROUP_RELATIONS →
    count_by (λ x. x) (is_there p ∷ is_there q ∷ is_there r ∷ is_there s ∷ []) ≡ kinds_in gs
kinds_are gs p q r s ep eq er es =
    ap (λ x. count_by (λ x. x) (is_there x ∷ is_there q ∷ is_there r ∷ is_there s ∷ [])) ep
    ∙ ap (λ x. count_by (λ x. x) (is_there (each gs GROUP_NODES) ∷ is_there x ∷ is_there r ∷ is_there s ∷ [])) eq
    ∙ ap (λ x. count_by (λ x. x) (is_there (each gs GROUP_NODES) ∷ is_there (each gs GROUP_DENSE) ∷ is_there x ∷ is_there s ∷ [])) er
    ∙ ap (λ x. count_by (λ x. x) (is_there (each gs GROUP_NODES) ∷ is_there (each gs GROUP_DENSE) ∷ is_there (each gs GROUP_WAYS) ∷ is_there x ∷ [])) es

pub payloads_of : (p : GroupPayloads) (g : List ℕ) (m : Bool) → wire g ≡ None → now p.nodes.items ≡ each (fields g) GROUP_NODES → now p.dense.items ≡ each (fields g) GROUP_DENSE →
    now p.ways.items ≡ each (fields g) GROUP_WAYS → now p.relations.items ≡ each (fields g) GROUP_RELATIONS → m ≡ not (nat_le (kinds_of p) 1) → m ≡ false → PayloadsOf p g
payloads_of p g m none en ed ew er is fine = record {
  is_message = none;
  one_kind = ap (λ n. not (nat_le n 1)) (sym (kinds_are (fields g) _ _ _ _ en ed ew er)) ∙ sym is ∙ fine;
  all = messages_are (fields g) _ _ _ _ en ed ew er;
}

pub group_fault : (b : Context) (p : GroupPayloads) (g : List ℕ) → PayloadsOf p g → first (group_phases b g) ≡ first (flat_map (message_phases b) (messages_of p))
group_fault b p g h =
    ap (λ o. first (option_map faults.BlockWire o ∷ when (not (nat_le (kinds_in (fields g)) 1)) faults.MixedGroup ∷ flat_map (message_phases b) (messages (fields g)))) h.is_message
    ∙ ap (λ v. first (when v faults.MixedGroup ∷ flat_map (message_phases b) (messages (fields g)))) h.one_kind
    ∙ sym (ap (λ l. first (flat_map (message_phases b) l)) h.all)

group_said : (b : Context) (p : GroupPayloads) (g : List ℕ) (es : List Element) → PayloadsOf p g → Joins (Says b) es (messages_of p) → GroupOf b es g
group_said b p g es h said =
    let P : List Message → Type 0 = λ l. Joins (Says b) es l in
    record { is_message = h.is_message; one_kind = few (kinds_in (fields g)) _ refl h.one_kind; elements_are = subst P h.all said }

-- where it has dense nodes it has nothing else
only_dense : (p q r s : List (List ℕ)) → not (nat_le (count_by (λ x. x) (is_there p ∷ is_there q ∷ is_there r ∷ is_there s ∷ [])) 1) ≡ false → is_there q ≡ true →
    map Plain p ++ (Dense q ∷ (map Way r ++ map Relation s)) ≡ Dense q ∷ []
only_dense p [] r s one there = absurd cc
only_dense [] (y ∷ q) [] [] one there = refl
only_dense [] (y ∷ q) [] (v ∷ s) one there = absurd cc
only_dense [] (y ∷ q) (z ∷ r) [] one there = absurd cc
only_dense [] (y ∷ q) (z ∷ r) (v ∷ s) one there = absurd cc
only_dense (x ∷ p) (y ∷ q) [] [] one there = absurd cc
only_dense (x ∷ p) (y ∷ q) [] (v ∷ s) one there = absurd cc
only_dense (x ∷ p) (y ∷ q) (z ∷ r) [] one there = absurd cc
only_dense (x ∷ p) (y ∷ q) (z ∷ r) (v ∷ s) one there = absurd cc

pub dense_alone : (p : GroupPayloads) (m : Bool) → m ≡ not (nat_le (kinds_of p) 1) → m ≡ false → is_there (now p.dense.items) ≡ true → messages_of p ≡ Dense (now p.dense.items) ∷ []
dense_alone p m is fine there = only_dense (now p.nodes.items) (now p.dense.items) (now p.ways.items) (now p.relations.items) (sym is ∙ fine) there

pub dense_fault : (b : Context) (p : GroupPayloads) (g : List ℕ) (q : List (List ℕ)) → PayloadsOf p g → messages_of p ≡ Dense q ∷ [] → first (group_phases b g) ≡ first (message_phases b (Dense q))
dense_fault b p g q h alone = group_fault b p g h ∙ ap (λ l. first (flat_map (message_phases b) l)) alone ∙ sym (single (message_phases b) (Dense q))

-- dense nodes, in their arrays
pub dense_group : (b : Context) (p : GroupPayloads) (g : List ℕ) (q : List (List ℕ)) (c : DenseArrays) → list_all is_text b.table ≡ true → PayloadsOf p g → messages_of p ≡ Dense q ∷ [] →
    first (message_phases b (Dense q)) ≡ None → AreReady b c → AreArraysOf c (dense_message (flat_map fields q)) → GroupRead b (groups.Dense c) g
dense_group b p g q c texts h alone none ready are =
    let n = dense_nodes b q c texts none ready are in
    let es : List Element = map elements.Node n.0 in
    let P : List Message → Type 0 = λ l. Joins (Says b) es l in
    (es, group_said b p g es h (subst P (sym alone) (es, [], sym (append-nil es), n.1, refl)), (n.0, refl, n.2))

-- ---- groups, one after the other

one_more : {B : Type 0} (now : B → List ℕ) (ps : List B) (i : ℕ) (d : B) → i < length ps → map now (take (i + 1) ps) ≡ map now (take i ps) ++ now (get_or ps i d) ∷ []
one_more now ps i d h = ap (map now) (take_more ps i d h) ∙ map-append now (take i ps) (get_or ps i d ∷ [])

pub groups-step : {B : Type 0} (b : Context) (now : B → List ℕ) (ps : List B) (i : ℕ) (d : B) (old new : List GroupElements) (g : GroupElements) → i < length ps →
    GroupsRead b old (map now (take i ps)) → GroupRead b g (now (get_or ps i d)) →
    ((b : Context) → (es xs : List Element) → Joins (GroupHolds b) es old → GroupHolds b xs g → Joins (GroupHolds b) (es ++ xs) new) → GroupsRead b new (map now (take (i + 1) ps))
groups-step b now ps i d old new g h so_far here appended =
    let P : List (List ℕ) → Type 0 = λ l. Joins (GroupOf b) (so_far.0 ++ here.0) l in
    (so_far.0 ++ here.0, subst P (sym (one_more now ps i d h)) (Joins-more (GroupOf b) so_far.0 here.0 _ _ so_far.1 here.1), appended b so_far.0 here.0 so_far.2 here.2)

pub groups-stop : {A B C : Type 0} (P : A → List ℕ → Type 0) (Q : C → Type 0) (b : Context) (now : B → List ℕ) (ps : List B) (i : ℕ) (d : B) (whole : Phase) (e : BlockError) → i < length ps →
    first (flat_map (group_phases b) (map (λ g. g) (map now (drop i ps)))) ≡ whole → Gives (λ x. P x (now (get_or ps i d))) (first (group_phases b (now (get_or ps i d)))) (Err e) → Gives Q whole (Err e)
groups-stop P Q b now ps i d whole e h so_far g = Gives-err (λ x. P x (now (get_or ps i d))) Q _ _ e (phase-stop (group_phases b) (λ g. g) now ps i d whole h so_far) g

-- ---- one group more

pub held_more : (b : Context) (es xs : List Element) (old new : List GroupElements) (g : GroupElements) → new ≡ old ++ g ∷ [] → Joins (GroupHolds b) es old → GroupHolds b xs g → Joins (GroupHolds b) (es ++ xs) new
held_more b es xs old new g grown held here = let P : List GroupElements → Type 0 = λ l. Joins (GroupHolds b) (es ++ xs) l in subst P (sym grown) (Joins-more (GroupHolds b) es xs old g held here)

pub nothing_more : (b : Context) (es xs : List Element) (gs : List GroupElements) → xs ≡ [] → Joins (GroupHolds b) es gs → Joins (GroupHolds b) (es ++ xs) gs
nothing_more b es xs gs empty held = let P : List Element → Type 0 = λ l. Joins (GroupHolds b) l gs in subst P (sym (append-nil es) ∙ ap (λ l. es ++ l) (sym empty)) held
