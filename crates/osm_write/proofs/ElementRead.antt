-- Ways and relations are read back from their messages.
use Rattle.std.proofs.Common.{◌≡◌, ℕ, ◌+◌, ◌*◌, ◌^◌, ◌<◌, ◌≤◌, List, [], ◌∷◌, ◌++◌, length, map, refl, ap, ◌∙◌, sym, arith, ℤ, pos, Some, None, w64, append_assoc, append-nil, subst}
use Rattle.std.specs.Prelude.{IsNone}
use Rattle.std.specs.List.{AllByRecursion, flat_map}
use Rattle.std.specs.Int.{cast_unsigned}
use Rattle.std.proofs.lemmas.List.{length-append}
use Rattle.pbf_wire.specs.declared.fault.WireFault.{WireFault}
use Rattle.pbf_wire.specs.Field.{Entry}
use Rattle.pbf_wire.specs.Readings.{fields, wire, packed, int32, last, each, sub}
use Rattle.pbf_wire.specs.Write.{zigzag}
use Rattle.osm_value.specs.declared.element.MemberKind.{MemberKind}
use Rattle.osm_value.specs.declared.element.MemberKind.TheVariants as kinds
use Rattle.osm_value.specs.Value.{Text, InfoValue, MemberValue, WayValue, RelationValue}
use Rattle.osm_value.specs.Ranges.{IsWide, IsMember, IsWay, IsRelation}
use Rattle.osm_value.proofs.Ranges.{wide_fits, all_append}
use Rattle.osm_block.specs.declared.fields.TheConstants.{ELEMENT_ID, ELEMENT_INFO, ELEMENT_KEYS, ELEMENT_VALS, RELATION_MEMIDS, RELATION_ROLES_SID, RELATION_TYPES, WAY_REFS}
use Rattle.osm_block.specs.Differences.{differences}
use Rattle.osm_block.specs.Message.{way_message, relation_message, Message, Way, Relation}
use Rattle.osm_block.specs.Block.{WayOf, RelationOf, AllAreWire, kind}
use Rattle.osm_write.specs.Canon.{Scale, index_of, number, int_field, message_field, packed_field, info_bytes, head_bytes, way_bytes, members_bytes, relation_bytes, number_of_kind}
use Rattle.osm_write.proofs.Values.{int64_read, int64_small, int32_read}
use Rattle.osm_write.proofs.DeltasRead.{deltas_fit, diff_read}
use Rattle.osm_write.proofs.Known.{context_of, IsKnown, IsScale, indexes_fit, texts_uint32, texts_int32}
use Rattle.osm_write.proofs.Segments.{Segment, IsSegment, IsMessage, IsPacked, number_segment, message_segment, message_entries, is_number_segment, is_message_segment, number_last, message_each, message_sub, payloads_of, message_read, five_parts, entries_of, entries_at, last_at, each_at, packed_at}
use Rattle.osm_write.proofs.Pieces.{number_entry}
use Rattle.osm_write.proofs.InfoRead.{IsWritten, info_read, info_sound}

-- a message's length is its bytes' and more
pub message_long : (k : ℕ) (bs : List ℕ) → length bs ≤ length (message_field k bs)
message_long k [] = omega arith
message_long k (b ∷ bs) =
    let a = length-append (number (8 * k + 2) ++ number (length (b ∷ bs))) (b ∷ bs) in omega arith

-- ---- what ways and relations share

abbrev keys_of : Scale → List (Text × Text) → List ℕ
keys_of s tags = map (λ (t : Text × Text). index_of s t.0) tags

abbrev values_of : Scale → List (Text × Text) → List ℕ
values_of s tags = map (λ (t : Text × Text). index_of s t.1) tags

abbrev head_segments : Scale → ℤ → List (Text × Text) → InfoValue → List Segment → List Segment
head_segments s id tags i more = number_segment ELEMENT_ID (cast_unsigned w64 id) ∷ message_segment ELEMENT_KEYS (flat_map number (keys_of s tags))
    ∷ message_segment ELEMENT_VALS (flat_map number (values_of s tags)) ∷ message_segment ELEMENT_INFO (info_bytes s i) ∷ more

pub record HeadIsWritten (s : Scale) (id : ℤ) (tags : List (Text × Text)) (i : InfoValue) : Type 0 where
  pub scale : IsScale s
  pub wide : IsWide id
  pub keys : AllByRecursion (λ (t : Text × Text). IsKnown s t.0) tags
  pub values : AllByRecursion (λ (t : Text × Text). IsKnown s t.1) tags
  pub info : IsWritten s i
  pub short : length (head_bytes s id tags i) < 2 ^ 64

head_all : (s : Scale) (id : ℤ) (tags : List (Text × Text)) (i : InfoValue) (more : List Segment) → HeadIsWritten s id tags i → AllByRecursion IsSegment more
    → AllByRecursion IsSegment (head_segments s id tags i more)
head_all s id tags i more h all =
    let short : length (head_bytes s id tags i) < 2 ^ 64 = h.short in
    let a = message_long ELEMENT_KEYS (flat_map number (keys_of s tags)) in
    let b = message_long ELEMENT_VALS (flat_map number (values_of s tags)) in
    let c = message_long ELEMENT_INFO (info_bytes s i) in
    let d = length-append (int_field ELEMENT_ID id ++ packed_field ELEMENT_KEYS (keys_of s tags) ++ packed_field ELEMENT_VALS (values_of s tags)) (message_field ELEMENT_INFO (info_bytes s i)) in
    let e = length-append (int_field ELEMENT_ID id ++ packed_field ELEMENT_KEYS (keys_of s tags)) (packed_field ELEMENT_VALS (values_of s tags)) in
    let f = length-append (int_field ELEMENT_ID id) (packed_field ELEMENT_KEYS (keys_of s tags)) in (
      is_number_segment ELEMENT_ID refl (omega arith) (cast_unsigned w64 id) (int64_small id (wide_fits id h.wide)),
      (
        is_message_segment ELEMENT_KEYS refl (omega arith) (flat_map number (keys_of s tags)) (omega arith),
        (
          is_message_segment ELEMENT_VALS refl (omega arith) (flat_map number (values_of s tags)) (omega arith),
          (is_message_segment ELEMENT_INFO refl (omega arith) (info_bytes s i) (omega arith), all),
        ),
      ),
    )

-- what is read of the head
record IsHead (s : Scale) (id : ℤ) (tags : List (Text × Text)) (i : InfoValue) (es : List Entry) : Type 0 where
  pub id_is : last es ELEMENT_ID ≡ Some (cast_unsigned w64 id)
  pub keys : IsPacked es ELEMENT_KEYS (keys_of s tags)
  pub values : IsPacked es ELEMENT_VALS (values_of s tags)
  pub info_is : sub es ELEMENT_INFO ≡ fields (info_bytes s i)
  pub info_sound : AllByRecursion IsNone (map wire (each es ELEMENT_INFO))

pub payloads_sound : (bs : List ℕ) → wire bs ≡ None → AllByRecursion IsNone (map wire (payloads_of bs))
payloads_sound [] e = tt
payloads_sound (b ∷ bs) e = rw e (refl, tt)

head_read : (s : Scale) (id : ℤ) (tags : List (Text × Text)) (i : InfoValue) (more : List Segment) → HeadIsWritten s id tags i → AllByRecursion IsSegment more
    → entries_at ELEMENT_ID more ≡ [] → entries_at ELEMENT_KEYS more ≡ [] → entries_at ELEMENT_VALS more ≡ [] → entries_at ELEMENT_INFO more ≡ [] → IsHead s id tags i (entries_of (head_segments s id tags i more))
head_read s id tags i more h all one two three four =
    let ss : List Segment = head_segments s id tags i more in
    let whole = head_all s id tags i more h all in
    let m = message_entries ELEMENT_INFO (info_bytes s i) in
    let info : each (entries_of ss) ELEMENT_INFO ≡ payloads_of (info_bytes s i) = each_at ss whole ELEMENT_INFO m (rw four (append-nil m)) ∙ message_each ELEMENT_INFO (info_bytes s i) in
    record {
      id_is = last_at ss whole ELEMENT_ID (number_entry ELEMENT_ID (cast_unsigned w64 id) ∷ []) (ap (λ (x : List Entry). number_entry ELEMENT_ID (cast_unsigned w64 id) ∷ x) one) ∙ number_last ELEMENT_ID (cast_unsigned w64 id);
      keys = packed_at ss whole ELEMENT_KEYS (keys_of s tags) (rw two (append-nil _)) (indexes_fit s (λ (t : Text × Text). t.0) tags h.keys);
      values = packed_at ss whole ELEMENT_VALS (values_of s tags) (rw three (append-nil _)) (indexes_fit s (λ (t : Text × Text). t.1) tags h.values);
      info_is = rw info (message_sub (info_bytes s i));
      info_sound = rw info (payloads_sound (info_bytes s i) (info_sound s i h.scale h.info));
    }

-- ---- ways

pub record WayIsWritten (s : Scale) (w : WayValue) : Type 0 where
  pub head : HeadIsWritten s w.id w.tags w.info
  pub in_range : IsWay w
  pub short : length (way_bytes s w) < 2 ^ 64

abbrev pub deltas_of : List ℤ → List ℕ
deltas_of vs = map zigzag (differences vs)

abbrev way_segments : Scale → WayValue → List Segment
way_segments s w = head_segments s w.id w.tags w.info (message_segment WAY_REFS (flat_map number (deltas_of w.refs)) ∷ [])

pub record IsElementOf (m : Message) (P : Type 0) : Type 0 where
  pub sound : AllAreWire m
  pub holds : P

way_all : (s : Scale) (w : WayValue) → WayIsWritten s w → AllByRecursion IsSegment (message_segment WAY_REFS (flat_map number (deltas_of w.refs)) ∷ [])
way_all s w h =
    let short : length (way_bytes s w) < 2 ^ 64 = h.short in
    let a = message_long WAY_REFS (flat_map number (deltas_of w.refs)) in
    let b = length-append (head_bytes s w.id w.tags w.info) (packed_field WAY_REFS (deltas_of w.refs)) in
    (is_message_segment WAY_REFS refl (omega arith) (flat_map number (deltas_of w.refs)) (omega arith), tt)

way_is_message : (s : Scale) (w : WayValue) → WayIsWritten s w → IsMessage (entries_of (way_segments s w)) (way_bytes s w)
way_is_message s w h =
    message_read (way_segments s w) (way_bytes s w)
    (five_parts (int_field ELEMENT_ID w.id) (packed_field ELEMENT_KEYS (keys_of s w.tags)) (packed_field ELEMENT_VALS (values_of s w.tags)) (message_field ELEMENT_INFO (info_bytes s w.info)) (packed_field WAY_REFS (deltas_of w.refs)))
    (head_all s w.id w.tags w.info (message_segment WAY_REFS (flat_map number (deltas_of w.refs)) ∷ []) h.head (way_all s w h))

pub way_read : (s : Scale) (w : WayValue) → WayIsWritten s w → IsElementOf (Way (way_bytes s w)) (WayOf (context_of s) w (way_message (fields (way_bytes s w))))
way_read s w h =
    let m = way_is_message s w h in
    let ss : List Segment = way_segments s w in
    let es : List Entry = entries_of ss in
    let all = head_all s w.id w.tags w.info (message_segment WAY_REFS (flat_map number (deltas_of w.refs)) ∷ []) h.head (way_all s w h) in
    let d = head_read s w.id w.tags w.info (message_segment WAY_REFS (flat_map number (deltas_of w.refs)) ∷ []) h.head (way_all s w h) refl refl refl refl in
    let r = packed_at ss all WAY_REFS (deltas_of w.refs) (append-nil _) (deltas_fit w.refs h.in_range.refs) in
    let P : List Entry → Type 0 = λ fs. WayOf (context_of s) w (way_message fs) in
    let Q : List Entry → Type 0 = λ fs. AllByRecursion (IsNone {T = WireFault}) (map wire (each fs ELEMENT_INFO) ++ (map packed (each fs ELEMENT_KEYS) ++ (map packed (each fs ELEMENT_VALS) ++ (map packed (each fs WAY_REFS) ++ [])))) in
    record {
      sound = (
        rw m.sound refl,
        subst Q (sym m.fields_are)
            (all_append IsNone _ _ d.info_sound (all_append IsNone _ _ d.keys.sound (all_append IsNone _ _ d.values.sound (all_append IsNone _ _ r.sound tt)))),
      );
      holds = subst P (sym m.fields_are) (record {
        id_is = rw d.id_is (ap Some (sym (int64_read w.id (wide_fits w.id h.in_range.id))));
        refs_are = rw r.nums_are (diff_read w.refs h.in_range.refs);
        tags_are = record {
          keys_are = rw d.keys.nums_are (texts_uint32 s (λ (t : Text × Text). t.0) w.tags h.head.keys);
          vals_are = rw d.values.nums_are (texts_uint32 s (λ (t : Text × Text). t.1) w.tags h.head.values);
        };
        info_is = rw d.info_is (info_read s w.info h.head.scale h.head.info);
        in_range = h.in_range;
      });
    }

-- ---- relations

pub record RelationIsWritten (s : Scale) (r : RelationValue) : Type 0 where
  pub head : HeadIsWritten s r.id r.tags r.info
  pub roles : AllByRecursion (λ (m : MemberValue). IsKnown s m.role) r.members
  pub in_range : IsRelation r
  pub short : length (relation_bytes s r) < 2 ^ 64

abbrev roles_of : Scale → List MemberValue → List ℕ
roles_of s ms = map (λ (m : MemberValue). index_of s m.role) ms

abbrev ids_of : List MemberValue → List ℤ
ids_of ms = map (λ (m : MemberValue). m.id) ms

abbrev kinds_of : List MemberValue → List ℕ
kinds_of ms = map (λ (m : MemberValue). number_of_kind m.kind) ms

abbrev member_segments : Scale → List MemberValue → List Segment
member_segments s ms = message_segment RELATION_ROLES_SID (flat_map number (roles_of s ms)) ∷ message_segment RELATION_MEMIDS (flat_map number (deltas_of (ids_of ms)))
    ∷ message_segment RELATION_TYPES (flat_map number (kinds_of ms)) ∷ []

abbrev relation_segments : Scale → RelationValue → List Segment
relation_segments s r = head_segments s r.id r.tags r.info (member_segments s r.members)

seven_parts : (a b c d e f g : List ℕ) → (a ++ b ++ c ++ d) ++ (e ++ f ++ g) ≡ a ++ (b ++ (c ++ (d ++ (e ++ (f ++ (g ++ []))))))
seven_parts a b c d e f g = simp (append_assoc, append-nil)

members_all : (s : Scale) (r : RelationValue) → RelationIsWritten s r → AllByRecursion IsSegment (member_segments s r.members)
members_all s r h =
    let short : length (relation_bytes s r) < 2 ^ 64 = h.short in
    let a = message_long RELATION_ROLES_SID (flat_map number (roles_of s r.members)) in
    let b = message_long RELATION_MEMIDS (flat_map number (deltas_of (ids_of r.members))) in
    let c = message_long RELATION_TYPES (flat_map number (kinds_of r.members)) in
    let d = length-append (head_bytes s r.id r.tags r.info) (members_bytes s r.members) in
    let e = length-append (packed_field RELATION_ROLES_SID (roles_of s r.members) ++ packed_field RELATION_MEMIDS (deltas_of (ids_of r.members))) (packed_field RELATION_TYPES (kinds_of r.members)) in
    let f = length-append (packed_field RELATION_ROLES_SID (roles_of s r.members)) (packed_field RELATION_MEMIDS (deltas_of (ids_of r.members))) in (
      is_message_segment RELATION_ROLES_SID refl (omega arith) (flat_map number (roles_of s r.members)) (omega arith),
      (
        is_message_segment RELATION_MEMIDS refl (omega arith) (flat_map number (deltas_of (ids_of r.members))) (omega arith),
        (is_message_segment RELATION_TYPES refl (omega arith) (flat_map number (kinds_of r.members)) (omega arith), tt),
      ),
    )

relation_is_message : (s : Scale) (r : RelationValue) → RelationIsWritten s r → IsMessage (entries_of (relation_segments s r)) (relation_bytes s r)
relation_is_message s r h =
    message_read (relation_segments s r) (relation_bytes s r)
    (seven_parts (int_field ELEMENT_ID r.id) (packed_field ELEMENT_KEYS (keys_of s r.tags)) (packed_field ELEMENT_VALS (values_of s r.tags)) (message_field ELEMENT_INFO (info_bytes s r.info))
    (packed_field RELATION_ROLES_SID (roles_of s r.members)) (packed_field RELATION_MEMIDS (deltas_of (ids_of r.members))) (packed_field RELATION_TYPES (kinds_of r.members)))
    (head_all s r.id r.tags r.info (member_segments s r.members) h.head (members_all s r h))

kind_read : (k : MemberKind) → (number_of_kind k < 3) × (kind (pos (number_of_kind k)) ≡ Some k)
kind_read kinds.Node = (omega arith, refl)
kind_read kinds.Way = (omega arith, refl)
kind_read kinds.Relation = (omega arith, refl)

kinds_fit : (ms : List MemberValue) → AllByRecursion (λ n. n < 2 ^ 64) (kinds_of ms)
kinds_fit [] = tt
kinds_fit (m ∷ ms) = (let lt = (kind_read m.kind).0 in omega arith, kinds_fit ms)

kinds_read : (ms : List MemberValue) → map (λ (m : MemberValue). Some m.kind) ms ≡ map kind (map int32 (kinds_of ms))
kinds_read [] = refl
kinds_read (m ∷ ms) =
    let a = kind_read m.kind in
    let lt = a.0 in
    let e : kind (int32 (number_of_kind m.kind)) ≡ Some m.kind = ap kind (int32_read (number_of_kind m.kind) (omega arith)) ∙ a.1 in
    let again = kinds_read ms in cc

member_ids : (ms : List MemberValue) → AllByRecursion IsMember ms → AllByRecursion IsWide (ids_of ms)
member_ids [] all = tt
member_ids (m ∷ ms) all = (all.0.id, member_ids ms all.1)

pub relation_read : (s : Scale) (r : RelationValue) → RelationIsWritten s r → IsElementOf (Relation (relation_bytes s r)) (RelationOf (context_of s) r (relation_message (fields (relation_bytes s r))))
relation_read s r h =
    let m = relation_is_message s r h in
    let ss : List Segment = relation_segments s r in
    let es : List Entry = entries_of ss in
    let all = head_all s r.id r.tags r.info (member_segments s r.members) h.head (members_all s r h) in
    let d = head_read s r.id r.tags r.info (member_segments s r.members) h.head (members_all s r h) refl refl refl refl in
    let wide = member_ids r.members h.in_range.members in
    let a = packed_at ss all RELATION_ROLES_SID (roles_of s r.members) (append-nil _) (indexes_fit s (λ (x : MemberValue). x.role) r.members h.roles) in
    let b = packed_at ss all RELATION_MEMIDS (deltas_of (ids_of r.members)) (append-nil _) (deltas_fit (ids_of r.members) wide) in
    let c = packed_at ss all RELATION_TYPES (kinds_of r.members) (append-nil _) (kinds_fit r.members) in
    let P : List Entry → Type 0 = λ fs. RelationOf (context_of s) r (relation_message fs) in
    let Q : List Entry → Type 0 = λ fs. AllByRecursion (IsNone {T = WireFault}) (map wire (each fs ELEMENT_INFO)
    ++ (map packed (each fs ELEMENT_KEYS) ++ (map packed (each fs ELEMENT_VALS) ++ (map packed (each fs RELATION_ROLES_SID) ++ (map packed (each fs RELATION_MEMIDS) ++ (map packed (each fs RELATION_TYPES) ++ [])))))) in
    record {
      sound = (
        rw m.sound refl,
        subst Q (sym m.fields_are)
            (all_append IsNone _ _ d.info_sound (all_append IsNone _ _ d.keys.sound (all_append IsNone _ _ d.values.sound
            (all_append IsNone _ _ a.sound (all_append IsNone _ _ b.sound (all_append IsNone _ _ c.sound tt)))))),
      );
      holds = subst P (sym m.fields_are) (record {
        id_is = rw d.id_is (ap Some (sym (int64_read r.id (wide_fits r.id h.in_range.id))));
        memids_are = rw b.nums_are (diff_read (ids_of r.members) wide);
        roles_are = rw a.nums_are (texts_int32 s (λ (x : MemberValue). x.role) r.members h.roles);
        types_are = rw c.nums_are (kinds_read r.members);
        tags_are = record {
          keys_are = rw d.keys.nums_are (texts_uint32 s (λ (t : Text × Text). t.0) r.tags h.head.keys);
          vals_are = rw d.values.nums_are (texts_uint32 s (λ (t : Text × Text). t.1) r.tags h.head.values);
        };
        info_is = rw d.info_is (info_read s r.info h.head.scale h.head.info);
        in_range = h.in_range;
      });
    }
