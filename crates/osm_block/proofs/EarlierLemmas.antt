-- What was read before flags were stands to the same elements with them.
use Rattle.std.proofs.Common.{◌≡◌, ℕ, ◌==◌, ◌++◌, List, [], ◌∷◌, map, length, replicate, Bool, true, false, Option, None, refl, ◌∙◌, ap}
use Rattle.std.specs.Prelude.{IsNone}
use Rattle.std.specs.List.{AllByRecursion, flat_map}
use Rattle.pbf_wire.specs.declared.fault.WireFault.{WireFault}
use Rattle.pbf_wire.specs.Field.{Content, Number, Fixed64, Bytes, Fixed32, Entry}
use Rattle.pbf_wire.specs.Readings.{fields, wire, packed, row_within, each, nums, sub, fitting, number_of, is_there}
use Rattle.osm_value.specs.declared.element.Element.{Element}
use Rattle.osm_value.specs.Value.{InfoValue, NodeValue, WayValue, RelationValue}
use Rattle.osm_value.specs.Ranges.{IsInfo, IsNode, IsWay, IsRelation}
use Rattle.osm_value.proofs.Ranges.{all_weaker, all_append, all_front, all_back}
use Rattle.osm_block.specs.declared.fields.TheConstants.{BLOCK_PRIMITIVEGROUP, DENSEINFO_CHANGESET, DENSEINFO_TIMESTAMP, DENSEINFO_UID, DENSEINFO_USER_SID, DENSEINFO_VERSION, DENSEINFO_VISIBLE, DENSE_DENSEINFO, DENSE_ID, DENSE_KEYS_VALS, DENSE_LAT, DENSE_LON, ELEMENT_INFO, INFO_VISIBLE}
use Rattle.osm_block.specs.Message.{Context, Message, Plain, Dense, Way, Relation, messages, context, info_message, dense_info_message, arrays}
use Rattle.osm_block.specs.Block.{Joins, InfoOf, DenseInfoOf, AllAreWire, MessageOf, GroupOf, Block}
use Rattle.osm_block.specs.Flagless.{HasNoFlag, HasNoFlags}
use Rattle.osm_block.specs.EarlierBlock as earlier
use Rattle.osm_block.specs.EarlierBlock.{some_visible}

-- ---- lists

nothing_there : {A : Type 0} (xs : List A) → is_there xs ≡ false → xs ≡ []
nothing_there [] none = refl
nothing_there (x ∷ xs) none = absurd (cc)

-- the list is joined of lists that stand in a weaker relation
joins_weaker : {A B : Type 0} (R S : List A → B → Type 0) → ((es : List A) (x : B) → R es x → S es x) → (es : List A) (xs : List B) → Joins R es xs → Joins S es xs
joins_weaker R S weaker es [] joins = joins
joins_weaker R S weaker es (x ∷ xs) joins = (joins.0, joins.1, joins.2, weaker joins.0 x joins.3, joins_weaker R S weaker joins.1 xs joins.4)

-- ---- the array of flags, where there was none

record NoFlags (fs : List Entry) : Type 0 where
  none : nums fs DENSEINFO_VISIBLE ≡ []
  whole : AllByRecursion IsNone (map packed (each fs DENSEINFO_VISIBLE))

-- with one more field, by whether its number is that of the flags, and by what it carries
flags_cons : (f : Entry) (fs : List Entry) → (is_there (fitting some_visible DENSEINFO_VISIBLE fs) ≡ false → NoFlags fs) → (test : Bool) → (f.number == DENSEINFO_VISIBLE) ≡ test → (c : Content) → f.content ≡ c
    → is_there (fitting some_visible DENSEINFO_VISIBLE (f ∷ fs)) ≡ false → NoFlags (f ∷ fs)
unfolding row_within
flags_cons f fs rest false other c is unseen = let it = rest (rw other at unseen) in record { none = rw other it.none; whole = rw other it.whole }
flags_cons f fs rest true same (Number n) is unseen = let seen : true ≡ false = rw (same, is) at unseen in absurd (cc)
flags_cons f fs rest true same (Fixed64 bs) is unseen = let it = rest (rw (same, is) at unseen) in record { none = rw (same, is) it.none; whole = rw (same, is) it.whole }
flags_cons f fs rest true same (Fixed32 bs) is unseen = let it = rest (rw (same, is) at unseen) in record { none = rw (same, is) it.none; whole = rw (same, is) it.whole }
flags_cons f fs rest true same (Bytes []) is unseen = let it = rest (rw (same, is) at unseen) in record { none = rw (same, is) it.none; whole = rw (same, is) (refl, it.whole) }
flags_cons f fs rest true same (Bytes (b ∷ bs)) is unseen = let seen : true ≡ false = rw (same, is) at unseen in absurd (cc)

no_flags : (fs : List Entry) → is_there (fitting some_visible DENSEINFO_VISIBLE fs) ≡ false → NoFlags fs
no_flags [] unseen = record { none = refl; whole = tt }
no_flags (f ∷ fs) unseen = flags_cons f fs (no_flags fs) (f.number == DENSEINFO_VISIBLE) refl f.content refl unseen

arrays_more : (ks : List ℕ) (k : ℕ) (fs : List Entry) → AllByRecursion IsNone (arrays ks fs) → AllByRecursion IsNone (map packed (each fs k)) → AllByRecursion IsNone (arrays (ks ++ k ∷ []) fs)
arrays_more [] k fs all more = all_append IsNone (map packed (each fs k)) [] more tt
arrays_more (j ∷ ks) k fs all more =
    let here : List (Option WireFault) = map packed (each fs j) in
    all_append IsNone here (arrays (ks ++ k ∷ []) fs) (all_front IsNone here (arrays ks fs) all) (arrays_more ks k fs (all_back IsNone here (arrays ks fs) all) more)

-- ---- values

info_range : (i : InfoValue) → earlier.IsInfo i → IsInfo i
info_range i was = record { version = was.version; time = was.time; changeset = was.changeset; uid = was.uid; user = was.user }

node_range : (n : NodeValue) → earlier.IsNode n → IsNode n
node_range n was = record { id = was.id; lat = was.lat; lon = was.lon; tags = was.tags; info = info_range n.info was.info }

way_range : (w : WayValue) → earlier.IsWay w → IsWay w
way_range w was = record { id = was.id; refs = was.refs; tags = was.tags; info = info_range w.info was.info }

relation_range : (r : RelationValue) → earlier.IsRelation r → IsRelation r
relation_range r was = record { id = was.id; members = was.members; tags = was.tags; info = info_range r.info was.info }

unseen_all : (infos : List InfoValue) → AllByRecursion earlier.IsInfo infos → map (λ i. i.visible) infos ≡ replicate (length infos) None
unseen_all [] all = refl
unseen_all (i ∷ infos) all = ap (λ v. v ∷ map (λ j. j.visible) infos) all.0.visible ∙ ap (λ vs. None ∷ vs) (unseen_all infos all.1)

-- ---- messages

info_now : (b : Context) (i : InfoValue) (fs : List Entry) → earlier.InfoOf b i (earlier.info_message fs) → InfoOf b i (info_message fs)
info_now b i fs was =
    let none : fitting number_of INFO_VISIBLE fs ≡ [] = nothing_there (fitting number_of INFO_VISIBLE fs) was.no_visible in
    record {
      version_is = was.version_is;
      time_is = was.time_is;
      changeset_is = was.changeset_is;
      uid_is = was.uid_is;
      user_is = was.user_is;
      visible_is = rw none was.in_range.visible;
      in_range = info_range i was.in_range;
    }

dense_info_now : (b : Context) (infos : List InfoValue) (fs : List Entry) → earlier.DenseInfoOf b infos (earlier.dense_info_message fs) → DenseInfoOf b infos (dense_info_message fs)
dense_info_now b infos fs was =
    let none : nums fs DENSEINFO_VISIBLE ≡ [] = (no_flags fs was.no_visible).none in
    record {
      versions_are = was.versions_are;
      times_are = was.times_are;
      changesets_are = was.changesets_are;
      uids_are = was.uids_are;
      users_are = was.users_are;
      visibles_are = rw none (unseen_all infos was.in_range);
      in_range = all_weaker earlier.IsInfo IsInfo infos info_range was.in_range;
    }

message_now : (b : Context) (es : List Element) (m : Message) → earlier.AllAreWire m × earlier.MessageOf b es m → AllAreWire m × MessageOf b es m
message_now b es (Plain p) (whole, (n, are, of)) = (
  whole,
  (
    n,
    are,
    record {
      id_is = of.id_is;
      lat_is = of.lat_is;
      lon_is = of.lon_is;
      tags_are = of.tags_are;
      info_is = info_now b n.info (sub (fields p) ELEMENT_INFO) of.info_is;
      in_range = node_range n of.in_range;
    },
  ),
)
message_now b es (Way p) (whole, (w, are, of)) = (
  whole,
  (
    w,
    are,
    record {
      id_is = of.id_is;
      refs_are = of.refs_are;
      tags_are = of.tags_are;
      info_is = info_now b w.info (sub (fields p) ELEMENT_INFO) of.info_is;
      in_range = way_range w of.in_range;
    },
  ),
)
message_now b es (Relation p) (whole, (r, are, of)) = (
  whole,
  (
    r,
    are,
    record {
      id_is = of.id_is;
      memids_are = of.memids_are;
      roles_are = of.roles_are;
      types_are = of.types_are;
      tags_are = of.tags_are;
      info_is = info_now b r.info (sub (fields p) ELEMENT_INFO) of.info_is;
      in_range = relation_range r of.in_range;
    },
  ),
)
message_now b es (Dense ps) (whole, (ns, are, of)) =
    let fs : List Entry = flat_map fields ps in
    let first_five : List ℕ = DENSEINFO_VERSION ∷ DENSEINFO_TIMESTAMP ∷ DENSEINFO_CHANGESET ∷ DENSEINFO_UID ∷ DENSEINFO_USER_SID ∷ [] in
    let infos : List (Option WireFault) = arrays first_five (sub fs DENSE_DENSEINFO) in
    let before_infos : List (Option WireFault) = map wire ps ++ map wire (each fs DENSE_DENSEINFO) ++ arrays (DENSE_ID ∷ DENSE_LAT ∷ DENSE_LON ∷ DENSE_KEYS_VALS ∷ []) fs in
    let more = arrays_more first_five DENSEINFO_VISIBLE (sub fs DENSE_DENSEINFO) (all_back IsNone before_infos infos whole) (no_flags (sub fs DENSE_DENSEINFO) of.infos_are.no_visible).whole in (
      all_append IsNone before_infos _ (all_front IsNone before_infos infos whole) more,
      (
        ns,
        are,
        record {
          ids_are = of.ids_are;
          lats_are = of.lats_are;
          lons_are = of.lons_are;
          tags_are = of.tags_are;
          infos_are = dense_info_now b (map (λ n. n.info) ns) (sub fs DENSE_DENSEINFO) of.infos_are;
          in_range = all_weaker earlier.IsNode IsNode ns node_range of.in_range;
        },
      ),
    )

group_now : (b : Context) (es : List Element) (g : List ℕ) → earlier.GroupOf b es g → GroupOf b es g
group_now b es g was = record {
  is_message = was.is_message;
  one_kind = was.one_kind;
  elements_are = joins_weaker (λ xs m. earlier.AllAreWire m × earlier.MessageOf b xs m) (λ xs m. AllAreWire m × MessageOf b xs m) (message_now b) es (messages (fields g)) was.elements_are;
}

pub block_now : (es : List Element) (w : List ℕ) → earlier.Block es w → Block es w
block_now es w was = record {
  is_message = was.is_message;
  has_table = was.has_table;
  tables_are = was.tables_are;
  texts_are = was.texts_are;
  granularity = was.granularity;
  date_granularity = was.date_granularity;
  elements_are = joins_weaker (earlier.GroupOf (context (fields w))) (GroupOf (context (fields w))) (group_now (context (fields w))) es (each (fields w) BLOCK_PRIMITIVEGROUP) was.elements_are;
}

-- ---- none of its infos has a flag

info_flagless : (fs : List Entry) → is_there (fitting number_of INFO_VISIBLE fs) ≡ false → (info_message fs).visible ≡ None
info_flagless fs none = rw (nothing_there (fitting number_of INFO_VISIBLE fs) none) refl

message_flagless : (b : Context) (es : List Element) (m : Message) → earlier.AllAreWire m × earlier.MessageOf b es m → HasNoFlag m
message_flagless b es (Plain p) (whole, (n, are, of)) = info_flagless (sub (fields p) ELEMENT_INFO) of.info_is.no_visible
message_flagless b es (Way p) (whole, (w, are, of)) = info_flagless (sub (fields p) ELEMENT_INFO) of.info_is.no_visible
message_flagless b es (Relation p) (whole, (r, are, of)) = info_flagless (sub (fields p) ELEMENT_INFO) of.info_is.no_visible
message_flagless b es (Dense ps) (whole, (ns, are, of)) = rw ((no_flags (sub (flat_map fields ps) DENSE_DENSEINFO) of.infos_are.no_visible).none) refl

-- what each part stands in has this
joins_each : {A B : Type 0} (R : List A → B → Type 0) (N : B → Type 0) → ((es : List A) (x : B) → R es x → N x) → (es : List A) (xs : List B) → Joins R es xs → AllByRecursion N xs
joins_each R N each es [] joins = tt
joins_each R N each es (x ∷ xs) joins = (each joins.0 x joins.3, joins_each R N each joins.1 xs joins.4)

pub block_flagless : (es : List Element) (w : List ℕ) → earlier.Block es w → HasNoFlags w
block_flagless es w was =
    joins_each (earlier.GroupOf (context (fields w))) (λ g. AllByRecursion HasNoFlag (messages (fields g)))
    (λ gs g group. joins_each (λ xs m. earlier.AllAreWire m × earlier.MessageOf (context (fields w)) xs m) HasNoFlag (message_flagless (context (fields w))) gs (messages (fields g)) group.elements_are)
    es (each (fields w) BLOCK_PRIMITIVEGROUP) was.elements_are
