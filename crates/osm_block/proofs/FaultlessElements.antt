-- A node, way or relation message for which no phase stands has an element.
use Rattle.std.proofs.Common.{◌≡◌, List, [], ◌∷◌, ◌++◌, map, length, get_or, refl, sym, ap, ◌∙◌, ℤ, Option, Some, None, Bool, true, false, not, ◌&&◌, ◌||◌, is_none, arith, FitsSigned, eqb-true, subst}
use Rattle.std.specs.Prelude.{option_map, option_to_list, unwrap_or, is_some}
use Rattle.std.specs.List.{list_all, AllByRecursion}
use Rattle.std.specs.Int.{w64}
use Rattle.std.proofs.lemmas.Int.{ints}
use Rattle.std.proofs.lemmas.List.Folds.{list_all-append}
use Rattle.std.proofs.lemmas.Option.{slice_get-get_or}
use Rattle.osm_value.specs.declared.element.MemberKind.{MemberKind}
use Rattle.osm_value.specs.Value.{Text, InfoValue, MemberValue, NodeValue, WayValue, RelationValue}
use Rattle.osm_value.specs.Ranges.{is_wide, passes}
use Rattle.osm_block.specs.declared.fault.BlockFault.{BlockFault}
use Rattle.osm_block.specs.declared.fault.BlockFault.TheVariants as faults
use Rattle.osm_block.specs.Message.{Context, InfoMessage, NodeMessage, WayMessage, RelationMessage}
use Rattle.osm_block.specs.Differences.{Diff, front_sums, fits_i64}
use Rattle.osm_block.specs.Block.{coordinate, time, version, kind, text_at, TagsAt, InfoOf, NodeOf, WayOf, RelationOf}
use Rattle.osm_block.specs.Members.{MembersAt}
use Rattle.osm_block.specs.Texts.{is_text}
use Rattle.osm_block.specs.Phases.{Phase, first, when, is_index, all_in, same_length, info_in_range, coordinate_in_range, user_indexes, node_phases, way_phases, relation_phases}
use Rattle.osm_block.proofs.IndexesLemmas.{and_left, and_right}
use Rattle.osm_block.proofs.DifferencesLemmas.{Diff-from_sums}
use Rattle.osm_block.proofs.DenseArrayLemmas.{length-sums}
use Rattle.osm_block.proofs.NodeTagsLemmas.{index_is}
use Rattle.osm_block.proofs.NodePhases.{nodes_range, four}
use Rattle.osm_block.proofs.RelationPhases.{lengths, relations_range, indexes, kinds_known, three}
use Rattle.osm_block.proofs.RangeLemmas.{each_true, text_there, tags_in_range, info_is_in_range}

-- ---- phases

-- where the first of some phases doesn't stand, none of them does
pub none_stands : (ps : List Phase) → first ps ≡ None → AllByRecursion (λ p. p ≡ None) ps
none_stands [] e = tt
none_stands (None ∷ ps) e = (refl, none_stands ps e)
none_stands (Some f ∷ ps) e = absurd cc

pub is_false : (b : Bool) (f : BlockFault) → when b f ≡ None → b ≡ false
is_false true f e = absurd cc
is_false false f e = refl

pub is_true : (b : Bool) (f : BlockFault) → when (not b) f ≡ None → b ≡ true
is_true true f e = refl
is_true false f e = absurd cc

-- ---- sums

fits_from : (z : ℤ) → fits_i64 z ≡ true → FitsSigned w64 z
fits_from z h = grind (arith, ints)

all_fit : (vs : List ℤ) → list_all fits_i64 vs ≡ true → AllByRecursion (FitsSigned w64) vs
all_fit [] h = tt
all_fit (v ∷ vs) h = (fits_from v (and_left _ _ h), all_fit vs (and_right _ _ h))

-- sums that fit have these differences
pub sums_differ : (ds : List ℤ) → list_all fits_i64 (front_sums ds) ≡ true → Diff (front_sums ds) ds
sums_differ ds h = Diff-from_sums (front_sums ds) ds refl (all_fit (front_sums ds) h)

-- ---- texts at indexes of the table

pub text_of : (table : List Text) (k : ℤ) → is_index (length table) k ≡ true → (t : Text) × (text_at table k ≡ Some t)
text_of table k h =
    let i = index_is (length table) k h in
    (get_or table i.0 [], ap (text_at table) (sym i.1) ∙ slice_get-get_or table i.0 [] i.2)

tags_of : (table : List Text) (keys vals : List ℤ) → length keys ≡ length vals → list_all (is_index (length table)) keys ≡ true → list_all (is_index (length table)) vals ≡ true →
    (tags : List (Text × Text)) × TagsAt table tags keys vals
tags_of table [] [] e h g = ([], record { keys_are = refl; vals_are = refl })
tags_of table [] (v ∷ vals) e h g = absurd (omega arith)
tags_of table (k ∷ keys) [] e h g = absurd (omega arith)
tags_of table (k ∷ keys) (v ∷ vals) e h g =
    let key = text_of table k (and_left _ _ h) in
    let value = text_of table v (and_left _ _ g) in
    let rest = tags_of table keys vals (omega arith) (and_right _ _ h) (and_right _ _ g) in (
      (key.0, value.0) ∷ rest.0,
      record {
        keys_are = ap (λ o. o ∷ map (λ t. Some t.0) rest.0) (sym key.1) ∙ ap (λ l. text_at table k ∷ l) rest.1.keys_are;
        vals_are = ap (λ o. o ∷ map (λ t. Some t.1) rest.0) (sym value.1) ∙ ap (λ l. text_at table v ∷ l) rest.1.vals_are;
      },
    )

user_of : (table : List Text) (k : Option ℤ) → list_all (is_index (length table)) (option_to_list k) ≡ true → (u : Option Text) × (option_map Some u ≡ option_map (text_at table) k)
user_of table None h = (None, refl)
user_of table (Some k) h = let t = text_of table k (and_left (is_index (length table) k) true h) in (Some t.0, ap Some (sym t.1))

-- ---- an Info

info_of : (b : Context) (m : InfoMessage) → list_all is_text b.table ≡ true → info_in_range b m ≡ true → list_all (is_index (length b.table)) (user_indexes m) ≡ true →
    (i : InfoValue) × InfoOf b i m
info_of b m texts range users =
    let u = user_of b.table m.user_sid users in
    let i : InfoValue = record { version = unwrap_or (option_map version m.version) None; time = option_map (time b.date_granularity) m.timestamp; changeset = m.changeset; uid = m.uid; user = u.0; visible = m.visible } in (
      i,
      record {
        version_is = refl;
        time_is = refl;
        changeset_is = refl;
        uid_is = refl;
        user_is = u.1;
        visible_is = refl;
        in_range = info_is_in_range b m i range texts refl refl refl refl u.1;
      },
    )

-- ---- a node

there : (o : Option ℤ) → is_none o ≡ false → (x : ℤ) × (o ≡ Some x)
there None e = absurd cc
there (Some x) e = (x, refl)

or_left : (a b : Bool) → (a || b) ≡ false → a ≡ false
or_left true b h = h
or_left false b h = refl

or_right : (a b : Bool) → (a || b) ≡ false → b ≡ false
or_right true b h = absurd cc
or_right false b h = h

-- what is tested of a field that is there
tested : (p : ℤ → Bool) (o : Option ℤ) (x : ℤ) → o ≡ Some x → passes p o ≡ true → p x ≡ true
tested p o x e h = sym (ap (passes p) e) ∙ h

-- the indexes of keys, of values and of a user
three_in : (p : ℤ → Bool) (ks vs us : List ℤ) → list_all p (ks ++ vs ++ us) ≡ true → (list_all p ks ≡ true) × (list_all p vs ≡ true) × (list_all p us ≡ true)
three_in p ks vs us h =
    let split = sym (list_all-append p (ks ++ vs) us) ∙ h in
    let two = sym (list_all-append p ks vs) ∙ and_left _ _ split in
    (and_left _ _ two, and_right _ _ two, and_right _ _ split)

pub node_of : (b : Context) (m : NodeMessage) → list_all is_text b.table ≡ true → first (node_phases b m) ≡ None → (n : NodeValue) × NodeOf b n m
node_of b m texts none =
    let p = none_stands (node_phases b m) none in
    let missing = is_false (is_none m.id || is_none m.lat || is_none m.lon) faults.Missing p.0 in
    let two = or_left (is_none m.id || is_none m.lat) (is_none m.lon) missing in
    let id = there m.id (or_left (is_none m.id) (is_none m.lat) two) in
    let lat = there m.lat (or_right (is_none m.id) (is_none m.lat) two) in
    let lon = there m.lon (or_right (is_none m.id || is_none m.lat) (is_none m.lon) missing) in
    let even = eqb-true (length m.keys) (length m.vals) (is_true (same_length m.keys m.vals) faults.LengthsDiffer p.1.0) in
    let ranges = four (passes is_wide m.id) (passes (coordinate_in_range b.lat_offset b.granularity) m.lat) (passes (coordinate_in_range b.lon_offset b.granularity) m.lon) (info_in_range b m.info) (is_true (nodes_range b m) faults.OutOfRange p.1.1.0) in
    let all = three_in (is_index (length b.table)) m.keys m.vals (user_indexes m.info) (is_true (all_in b.table (m.keys ++ m.vals ++ user_indexes m.info)) faults.BadIndex p.1.1.1.0) in
    let tags = tags_of b.table m.keys m.vals even all.0 all.1 in
    let info = info_of b m.info texts ranges.3 all.2 in (
      record { id = id.0; lat = coordinate b.lat_offset b.granularity lat.0; lon = coordinate b.lon_offset b.granularity lon.0; tags = tags.0; info = info.0 },
      record {
        id_is = sym id.1;
        lat_is = sym (ap (option_map (coordinate b.lat_offset b.granularity)) lat.1);
        lon_is = sym (ap (option_map (coordinate b.lon_offset b.granularity)) lon.1);
        tags_are = tags.1;
        info_is = info.1;
        in_range = record {
          id = tested is_wide m.id id.0 id.1 ranges.0;
          lat = tested (coordinate_in_range b.lat_offset b.granularity) m.lat lat.0 lat.1 ranges.1;
          lon = tested (coordinate_in_range b.lon_offset b.granularity) m.lon lon.0 lon.1 ranges.2;
          tags = tags_in_range b.table tags.0 m.keys m.vals texts tags.1;
          info = info.1.in_range;
        };
      },
    )

-- ---- a way

pub way_of : (b : Context) (m : WayMessage) → list_all is_text b.table ≡ true → first (way_phases b m) ≡ None → (w : WayValue) × WayOf b w m
way_of b m texts none =
    let p = none_stands (way_phases b m) none in
    let id = there m.id (is_false (is_none m.id) faults.Missing p.0) in
    let even = eqb-true (length m.keys) (length m.vals) (is_true (same_length m.keys m.vals) faults.LengthsDiffer p.1.0) in
    let diff = sums_differ m.refs (is_true (list_all fits_i64 (front_sums m.refs)) faults.SumTooLarge p.1.1.0) in
    let ranges = three (passes is_wide m.id) (list_all is_wide (front_sums m.refs)) (info_in_range b m.info)
    (is_true (passes is_wide m.id && list_all is_wide (front_sums m.refs) && info_in_range b m.info) faults.OutOfRange p.1.1.1.0) in
    let all = three_in (is_index (length b.table)) m.keys m.vals (user_indexes m.info) (is_true (all_in b.table (m.keys ++ m.vals ++ user_indexes m.info)) faults.BadIndex p.1.1.1.1.0) in
    let tags = tags_of b.table m.keys m.vals even all.0 all.1 in
    let info = info_of b m.info texts ranges.2 all.2 in (
      record { id = id.0; refs = front_sums m.refs; tags = tags.0; info = info.0 },
      record {
        id_is = sym id.1;
        refs_are = diff;
        tags_are = tags.1;
        info_is = info.1;
        in_range = record {
          id = tested is_wide m.id id.0 id.1 ranges.0;
          refs = each_true is_wide (front_sums m.refs) ranges.1;
          tags = tags_in_range b.table tags.0 m.keys m.vals texts tags.1;
          info = info.1.in_range;
        };
      },
    )

-- ---- a relation

kind_of : (t : ℤ) → is_some (kind t) ≡ true → (k : MemberKind) × (Some k ≡ kind t)
kind_of t h = go (kind t) h
  where
    go : (o : Option MemberKind) → is_some o ≡ true → (k : MemberKind) × (Some k ≡ o)
    go None e = absurd cc
    go (Some k) e = (k, refl)

members_of : (table : List Text) (ids roles types : List ℤ) → list_all is_text table ≡ true → length roles ≡ length ids → length types ≡ length ids →
    list_all is_wide ids ≡ true → list_all (is_index (length table)) roles ≡ true → list_all (λ t. is_some (kind t)) types ≡ true → (ms : List MemberValue) × MembersAt table ms ids roles types
members_of table [] [] [] texts e f wide there known = ([], record { ids_are = refl; roles_are = refl; types_are = refl; in_range = tt })
members_of table [] (r ∷ roles) types texts e f wide there known = absurd (omega arith)
members_of table [] [] (t ∷ types) texts e f wide there known = absurd (omega arith)
members_of table (i ∷ ids) [] types texts e f wide there known = absurd (omega arith)
members_of table (i ∷ ids) (r ∷ roles) [] texts e f wide there known = absurd (omega arith)
members_of table (i ∷ ids) (r ∷ roles) (t ∷ types) texts e f wide there known =
    let role = text_of table r (and_left _ _ there) in
    let which = kind_of t (and_left _ _ known) in
    let rest = members_of table ids roles types texts (omega arith) (omega arith) (and_right _ _ wide) (and_right _ _ there) (and_right _ _ known) in (
      record { kind = which.0; id = i; role = role.0 } ∷ rest.0,
      record {
        ids_are = ap (λ l. i ∷ l) rest.1.ids_are;
        roles_are = ap (λ o. o ∷ map (λ x. Some x.role) rest.0) (sym role.1) ∙ ap (λ l. text_at table r ∷ l) rest.1.roles_are;
        types_are = ap (λ o. o ∷ map (λ x. Some x.kind) rest.0) which.1 ∙ ap (λ l. kind t ∷ l) rest.1.types_are;
        in_range = (record { id = and_left _ _ wide; role = text_there table r role.0 texts role.1 }, rest.1.in_range);
      },
    )

pub relation_of : (b : Context) (m : RelationMessage) → list_all is_text b.table ≡ true → first (relation_phases b m) ≡ None → (r : RelationValue) × RelationOf b r m
relation_of b m texts none =
    let p = none_stands (relation_phases b m) none in
    let id = there m.id (is_false (is_none m.id) faults.Missing p.0) in
    let even = three (same_length m.keys m.vals) (same_length m.roles_sid m.memids) (same_length m.types m.memids) (is_true (lengths m) faults.LengthsDiffer p.1.0) in
    let diff = sums_differ m.memids (is_true (list_all fits_i64 (front_sums m.memids)) faults.SumTooLarge p.1.1.0) in
    let ranges = three (passes is_wide m.id) (list_all is_wide (front_sums m.memids)) (info_in_range b m.info) (is_true (relations_range b m) faults.OutOfRange p.1.1.1.0) in
    let all = three_in (is_index (length b.table)) (m.keys ++ m.vals) m.roles_sid (user_indexes m.info) (is_true (all_in b.table (indexes m)) faults.BadIndex p.1.1.1.1.0) in
    let both = sym (list_all-append (is_index (length b.table)) m.keys m.vals) ∙ all.0 in
    let sums = length-sums m.memids in
    let members = members_of b.table (front_sums m.memids) m.roles_sid m.types texts
    (eqb-true (length m.roles_sid) (length m.memids) even.1 ∙ sym sums) (eqb-true (length m.types) (length m.memids) even.2 ∙ sym sums)
    ranges.1 all.1 (is_true (kinds_known m) faults.BadMemberType p.1.1.1.1.1.0) in
    let tags = tags_of b.table m.keys m.vals (eqb-true (length m.keys) (length m.vals) even.0) (and_left _ _ both) (and_right _ _ both) in
    let info = info_of b m.info texts ranges.2 all.2 in (
      record { id = id.0; members = members.0; tags = tags.0; info = info.0 },
      record {
        id_is = sym id.1;
        memids_are = subst (λ (l : List ℤ). Diff l m.memids) (sym members.1.ids_are) diff;
        roles_are = members.1.roles_are;
        types_are = members.1.types_are;
        tags_are = tags.1;
        info_is = info.1;
        in_range = record {
          id = tested is_wide m.id id.0 id.1 ranges.0;
          members = members.1.in_range;
          tags = tags_in_range b.table tags.0 m.keys m.vals texts tags.1;
          info = info.1.in_range;
        };
      },
    )
