-- The infos of a message of nodes are read back.
use Rattle.std.proofs.Common.{◌≡◌, ℕ, ◌^◌, ◌<◌, List, [], ◌∷◌, ◌++◌, length, map, refl, ap, ◌∙◌, sym, arith, ℤ, pos, Bool, true, false, Option, Some, None, option_map, IsTrue, w64, append-nil, subst}
use Rattle.std.specs.Prelude.{option_to_list, int_div, IsNone}
use Rattle.std.specs.List.{AllByRecursion, filter_map, flat_map}
use Rattle.std.specs.Int.{cast_unsigned}
use Rattle.std.proofs.lemmas.Int.{ints}
use Rattle.std.proofs.lemmas.List.{length-append}
use Rattle.pbf_wire.specs.declared.fault.WireFault.{WireFault}
use Rattle.pbf_wire.specs.Field.{Entry}
use Rattle.pbf_wire.specs.Readings.{fields, wire, packed, int32, sint64, sint32, each}
use Rattle.osm_value.specs.Value.{Text, InfoValue}
use Rattle.osm_value.specs.Ranges.{IsInfo, IsWide, passes, is_wide, is_version, is_uid}
use Rattle.osm_value.proofs.Ranges.{uid_within, all_append, passes_some}
use Rattle.osm_block.specs.declared.fields.TheConstants.{DENSEINFO_CHANGESET, DENSEINFO_TIMESTAMP, DENSEINFO_UID, DENSEINFO_USER_SID, DENSEINFO_VERSION, DENSEINFO_VISIBLE}
use Rattle.osm_block.specs.Message.{boolean, dense_info_message}
use Rattle.osm_block.specs.Block.{DenseInfoOf, version, time, text_at}
use Rattle.osm_write.specs.Canon.{Scale, index_of, number, flag_number, packed_field, delta_field, times_of, dense_info_bytes}
use Rattle.osm_write.proofs.Values.{int64_small, version_read, version_fits, version_is, Whole, quotient_is_wide}
use Rattle.osm_write.proofs.DeltasRead.{deltas_fit, diff_read, diff_read_32, small_is_wide}
use Rattle.osm_write.proofs.Known.{context_of, IsKnown, IsScale}
use Rattle.osm_write.proofs.Segments.{Segment, IsSegment, IsMessage, message_segment, is_message_segment, message_read, six_parts, entries_of, packed_at}
use Rattle.osm_write.proofs.InfoRead.{IsWritten}
use Rattle.osm_write.proofs.ElementRead.{message_long, deltas_of}
use Rattle.osm_write.proofs.ArraysRead.{read_of, IsUniform, array_of, stands, all_filter_map, is_some-option_map}

-- each field of info is there for all of them, or for none
pub record IsSame (is : List InfoValue) : Type 0 where
  pub version : (there : Bool) × IsUniform (λ (i : InfoValue). i.version) there is
  pub time : (there : Bool) × IsUniform (λ (i : InfoValue). i.time) there is
  pub changeset : (there : Bool) × IsUniform (λ (i : InfoValue). i.changeset) there is
  pub uid : (there : Bool) × IsUniform (λ (i : InfoValue). i.uid) there is
  pub user : (there : Bool) × IsUniform (λ (i : InfoValue). i.user) there is
  pub visible : (there : Bool) × IsUniform (λ (i : InfoValue). i.visible) there is

uniform_mapped : {I A B : Type 0} (f : A → B) (get : I → Option A) (there : Bool) (is : List I) → IsUniform get there is → IsUniform (λ i. option_map f (get i)) there is
uniform_mapped f get there [] all = tt
uniform_mapped f get there (i ∷ is) all = (is_some-option_map f (get i) ∙ all.0, uniform_mapped f get there is all.1)

pub all_of : {A : Type 0} (P Q : A → Type 0) (xs : List A) → ((x : A) → P x → Q x) → AllByRecursion P xs → AllByRecursion Q xs
all_of P Q [] f h = tt
all_of P Q (x ∷ xs) f h = (f x h.0, all_of P Q xs f h.1)

-- ---- the arrays

abbrev versions_of : List InfoValue → List ℕ
versions_of is = filter_map (λ (i : InfoValue). option_map (cast_unsigned w64) i.version) is

abbrev all_times : Scale → List InfoValue → List ℤ
all_times s is = filter_map (λ (i : InfoValue). times_of s i.time) is

abbrev changesets_of : List InfoValue → List ℤ
changesets_of is = filter_map (λ (i : InfoValue). i.changeset) is

abbrev uids_of : List InfoValue → List ℤ
uids_of is = filter_map (λ (i : InfoValue). i.uid) is

abbrev users_of : Scale → List InfoValue → List ℤ
users_of s is = filter_map (λ (i : InfoValue). option_map (λ t. pos (index_of s t)) i.user) is

abbrev flags_of : List InfoValue → List ℕ
flags_of is = filter_map (λ (i : InfoValue). option_map flag_number i.visible) is

some_wide : (o : Option ℤ) → IsTrue (passes is_wide o) → (x : ℤ) → o ≡ Some x → IsWide x
some_wide o h x e = passes_some is_wide o x e h

some_uid : (o : Option ℤ) → IsTrue (passes is_uid o) → (x : ℤ) → o ≡ Some x → IsTrue (is_uid x)
some_uid o h x e = passes_some is_uid o x e h

some_time : (s : Scale) (o : Option ℤ) → IsTrue (passes is_wide o) → (x : ℤ) → times_of s o ≡ Some x → IsWide x
some_time s None h x e = absurd (cc)
some_time s (Some z) h x e = let same : int_div z (pos s.date_granularity) ≡ x = cc in subst IsWide same (quotient_is_wide s.date_granularity z h)

some_version : (o : Option ℤ) → IsTrue (passes is_version o) → (x : ℕ) → option_map (cast_unsigned w64) o ≡ Some x → x < 2 ^ 64
some_version None h x e = absurd (cc)
some_version (Some z) h x e = let same : cast_unsigned w64 z ≡ x = cc in rw (sym same) (int64_small z (version_fits z h))

some_user : (s : Scale) (o : Option Text) → AllByRecursion (IsKnown s) (option_to_list o) → (x : ℤ) → option_map (λ t. pos (index_of s t)) o ≡ Some x → IsTrue (is_uid x)
some_user s None h x e = absurd (cc)
some_user s (Some t) h x e =
    let same : pos (index_of s t) ≡ x = cc in
    let lt = h.0.small in
    let P : ℤ → Type 0 = λ v. IsTrue (is_uid v) in
    subst P same (uid_within (pos (index_of s t)) (search (arith, ints)) (search (arith, ints)))

some_flag : (o : Option Bool) (x : ℕ) → option_map flag_number o ≡ Some x → x < 2 ^ 64
some_flag None x e = absurd (cc)
some_flag (Some true) x e = let same : 1 ≡ x = cc in omega arith
some_flag (Some false) x e = let same : 0 ≡ x = cc in omega arith

module _ (s : Scale) (is : List InfoValue) (all : AllByRecursion (IsWritten s) is) where
  times_wide : AllByRecursion IsWide (all_times s is)
  times_wide = all_filter_map IsWide (λ (i : InfoValue). times_of s i.time) is (all_of (IsWritten s) _ is (λ i w. some_time s i.time w.in_range.time) all)

  changesets_wide : AllByRecursion IsWide (changesets_of is)
  changesets_wide = all_filter_map IsWide (λ (i : InfoValue). i.changeset) is (all_of (IsWritten s) _ is (λ i w. some_wide i.changeset w.in_range.changeset) all)

  uids_small : AllByRecursion (λ v. IsTrue (is_uid v)) (uids_of is)
  uids_small = all_filter_map (λ v. IsTrue (is_uid v)) (λ (i : InfoValue). i.uid) is (all_of (IsWritten s) _ is (λ i w. some_uid i.uid w.in_range.uid) all)

  users_small : AllByRecursion (λ v. IsTrue (is_uid v)) (users_of s is)
  users_small = all_filter_map (λ v. IsTrue (is_uid v)) (λ (i : InfoValue). option_map (λ t. pos (index_of s t)) i.user) is (all_of (IsWritten s) _ is (λ i w. some_user s i.user w.user) all)

  versions_small : AllByRecursion (λ n. n < 2 ^ 64) (versions_of is)
  versions_small = all_filter_map (λ n. n < 2 ^ 64) (λ (i : InfoValue). option_map (cast_unsigned w64) i.version) is (all_of (IsWritten s) _ is (λ i w. some_version i.version w.in_range.version) all)

  flags_small : AllByRecursion (λ n. n < 2 ^ 64) (flags_of is)
  flags_small = all_filter_map (λ n. n < 2 ^ 64) (λ (i : InfoValue). option_map flag_number i.visible) is (all_of (IsWritten s) _ is (λ i w. some_flag i.visible) all)

-- ---- the message

abbrev dense_info_segments : Scale → List InfoValue → List Segment
dense_info_segments s is = message_segment DENSEINFO_VERSION (flat_map number (versions_of is)) ∷ message_segment DENSEINFO_TIMESTAMP (flat_map number (deltas_of (all_times s is)))
    ∷ message_segment DENSEINFO_CHANGESET (flat_map number (deltas_of (changesets_of is))) ∷ message_segment DENSEINFO_UID (flat_map number (deltas_of (uids_of is)))
    ∷ message_segment DENSEINFO_USER_SID (flat_map number (deltas_of (users_of s is))) ∷ message_segment DENSEINFO_VISIBLE (flat_map number (flags_of is)) ∷ []

segments_are : (s : Scale) (is : List InfoValue) → length (dense_info_bytes s is) < 2 ^ 64 → AllByRecursion IsSegment (dense_info_segments s is)
segments_are s is short =
    let A : List ℕ = packed_field DENSEINFO_VERSION (versions_of is) in
    let B : List ℕ = delta_field DENSEINFO_TIMESTAMP (all_times s is) in
    let C : List ℕ = delta_field DENSEINFO_CHANGESET (changesets_of is) in
    let D : List ℕ = delta_field DENSEINFO_UID (uids_of is) in
    let E : List ℕ = delta_field DENSEINFO_USER_SID (users_of s is) in
    let F : List ℕ = packed_field DENSEINFO_VISIBLE (flags_of is) in
    let a = message_long DENSEINFO_VERSION (flat_map number (versions_of is)) in
    let b = message_long DENSEINFO_TIMESTAMP (flat_map number (deltas_of (all_times s is))) in
    let c = message_long DENSEINFO_CHANGESET (flat_map number (deltas_of (changesets_of is))) in
    let d = message_long DENSEINFO_UID (flat_map number (deltas_of (uids_of is))) in
    let e = message_long DENSEINFO_USER_SID (flat_map number (deltas_of (users_of s is))) in
    let f = message_long DENSEINFO_VISIBLE (flat_map number (flags_of is)) in
    let o = length-append (A ++ B ++ C ++ D ++ E) F in
    let p = length-append (A ++ B ++ C ++ D) E in
    let q = length-append (A ++ B ++ C) D in
    let r = length-append (A ++ B) C in
    let t = length-append A B in (
      is_message_segment DENSEINFO_VERSION refl (omega arith) (flat_map number (versions_of is)) (omega arith),
      (
        is_message_segment DENSEINFO_TIMESTAMP refl (omega arith) (flat_map number (deltas_of (all_times s is))) (omega arith),
        (
          is_message_segment DENSEINFO_CHANGESET refl (omega arith) (flat_map number (deltas_of (changesets_of is))) (omega arith),
          (
            is_message_segment DENSEINFO_UID refl (omega arith) (flat_map number (deltas_of (uids_of is))) (omega arith),
            (
              is_message_segment DENSEINFO_USER_SID refl (omega arith) (flat_map number (deltas_of (users_of s is))) (omega arith),
              (is_message_segment DENSEINFO_VISIBLE refl (omega arith) (flat_map number (flags_of is)) (omega arith), tt),
            ),
          ),
        ),
      ),
    )

pub dense_info_is_message : (s : Scale) (is : List InfoValue) → length (dense_info_bytes s is) < 2 ^ 64 → IsMessage (entries_of (dense_info_segments s is)) (dense_info_bytes s is)
dense_info_is_message s is short =
    message_read (dense_info_segments s is) (dense_info_bytes s is)
    (six_parts (packed_field DENSEINFO_VERSION (versions_of is)) (delta_field DENSEINFO_TIMESTAMP (all_times s is)) (delta_field DENSEINFO_CHANGESET (changesets_of is)) (delta_field DENSEINFO_UID (uids_of is)) (delta_field DENSEINFO_USER_SID (users_of s is))
    (packed_field DENSEINFO_VISIBLE (flags_of is)))
    (segments_are s is short)

-- ---- what is read

pub map_two : {A B C : Type 0} (f : B → C) (g : A → B) (xs : List A) → map f (map g xs) ≡ map (λ x. f (g x)) xs
map_two f g [] = refl
map_two f g (x ∷ xs) = ap (λ ys. f (g x) ∷ ys) (map_two f g xs)

version_part : (o : Option ℤ) → IsTrue (passes is_version o) → o ≡ read_of (λ n. version (int32 n)) (option_map (cast_unsigned w64) o)
version_part None h = refl
version_part (Some z) h = let e = version_read z h in rw e (sym (version_is z h))

time_part : (s : Scale) (o : Option ℤ) → AllByRecursion (Whole s.date_granularity) (option_to_list o) → o ≡ read_of (λ v. Some (time (pos s.date_granularity) v)) (times_of s o)
time_part s None h = refl
time_part s (Some z) h = ap Some (sym h.0)

own_part : (o : Option ℤ) → o ≡ read_of (λ v. Some v) o
own_part None = refl
own_part (Some z) = refl

user_part : (s : Scale) (o : Option Text) → AllByRecursion (IsKnown s) (option_to_list o)
    → option_map Some o ≡ read_of (λ v. Some (text_at ([] ∷ s.texts) v)) (option_map (λ t. pos (index_of s t)) o)
user_part s None h = refl
user_part s (Some t) h = ap Some (sym h.0.text_is)

flag_part : (o : Option Bool) → o ≡ read_of (λ n. Some (boolean n)) (option_map flag_number o)
flag_part None = refl
flag_part (Some true) = refl
flag_part (Some false) = refl

-- the arrays, and that their payloads are packed arrays
pub record IsDenseInfo (s : Scale) (is : List InfoValue) (w : List ℕ) : Type 0 where
  pub sound : wire w ≡ None
  pub arrays : AllByRecursion IsNone (map packed (each (fields w) DENSEINFO_VERSION) ++ (map packed (each (fields w) DENSEINFO_TIMESTAMP) ++ (map packed (each (fields w) DENSEINFO_CHANGESET) ++ (map packed (each (fields w) DENSEINFO_UID) ++ (map packed (each (fields w) DENSEINFO_USER_SID)
      ++ (map packed (each (fields w) DENSEINFO_VISIBLE) ++ []))))))
  pub holds : DenseInfoOf (context_of s) is (dense_info_message (fields w))

pub dense_info_read : (s : Scale) (is : List InfoValue) → IsScale s → AllByRecursion (IsWritten s) is → IsSame is → length (dense_info_bytes s is) < 2 ^ 64
    → IsDenseInfo s is (dense_info_bytes s is)
dense_info_read s is sc all same short =
    let m = dense_info_is_message s is short in
    let ss : List Segment = dense_info_segments s is in
    let whole = segments_are s is short in
    let a = packed_at ss whole DENSEINFO_VERSION (versions_of is) (append-nil _) (versions_small s is all) in
    let b = packed_at ss whole DENSEINFO_TIMESTAMP (deltas_of (all_times s is)) (append-nil _) (deltas_fit (all_times s is) (times_wide s is all)) in
    let c = packed_at ss whole DENSEINFO_CHANGESET (deltas_of (changesets_of is)) (append-nil _) (deltas_fit (changesets_of is) (changesets_wide s is all)) in
    let d = packed_at ss whole DENSEINFO_UID (deltas_of (uids_of is)) (append-nil _) (deltas_fit (uids_of is) (all_of _ IsWide (uids_of is) small_is_wide (uids_small s is all))) in
    let e = packed_at ss whole DENSEINFO_USER_SID (deltas_of (users_of s is)) (append-nil _) (deltas_fit (users_of s is) (all_of _ IsWide (users_of s is) small_is_wide (users_small s is all))) in
    let f = packed_at ss whole DENSEINFO_VISIBLE (flags_of is) (append-nil _) (flags_small s is all) in
    let P : List Entry → Type 0 = λ fs. DenseInfoOf (context_of s) is (dense_info_message fs) in
    let Q : List Entry → Type 0 = λ fs. AllByRecursion (IsNone {T = WireFault}) (map packed (each fs DENSEINFO_VERSION) ++ (map packed (each fs DENSEINFO_TIMESTAMP) ++ (map packed (each fs DENSEINFO_CHANGESET) ++ (map packed (each fs DENSEINFO_UID) ++ (map packed (each fs DENSEINFO_USER_SID) ++ (map packed (each fs DENSEINFO_VISIBLE) ++ [])))))) in
    record {
      sound = m.sound;
      arrays = subst Q (sym m.fields_are) (all_append IsNone _ _ a.sound (all_append IsNone _ _ b.sound (all_append IsNone _ _ c.sound (all_append IsNone _ _ d.sound (all_append IsNone _ _ e.sound (all_append IsNone _ _ f.sound tt))))));
      holds = subst P (sym m.fields_are) (record {
        versions_are = rw (a.nums_are, map_two version int32 (versions_of is))
            (array_of (λ (i : InfoValue). i.version) (λ (i : InfoValue). option_map (cast_unsigned w64) i.version) (λ n. version (int32 n)) same.version.0 is
            (uniform_mapped (cast_unsigned w64) (λ (i : InfoValue). i.version) same.version.0 is same.version.1) (all_of (IsWritten s) _ is (λ i w. version_part i.version w.in_range.version) all));
        times_are = rw b.nums_are
            (stands (λ (i : InfoValue). i.time) (λ (i : InfoValue). times_of s i.time) (time (pos s.date_granularity)) same.time.0 is (map sint64 (deltas_of (all_times s is)))
            (uniform_mapped (λ z. int_div z (pos s.date_granularity)) (λ (i : InfoValue). i.time) same.time.0 is same.time.1) (all_of (IsWritten s) _ is (λ i w. time_part s i.time w.time) all)
            (diff_read (all_times s is) (times_wide s is all)));
        changesets_are = rw c.nums_are
            (stands (λ (i : InfoValue). i.changeset) (λ (i : InfoValue). i.changeset) (λ v. v) same.changeset.0 is (map sint64 (deltas_of (changesets_of is)))
            same.changeset.1 (all_of (IsWritten s) _ is (λ i w. own_part i.changeset) all) (diff_read (changesets_of is) (changesets_wide s is all)));
        uids_are = rw d.nums_are
            (stands (λ (i : InfoValue). i.uid) (λ (i : InfoValue). i.uid) (λ v. v) same.uid.0 is (map sint32 (deltas_of (uids_of is)))
            same.uid.1 (all_of (IsWritten s) _ is (λ i w. own_part i.uid) all) (diff_read_32 (uids_of is) (uids_small s is all)));
        users_are = rw e.nums_are
            (stands (λ (i : InfoValue). option_map Some i.user) (λ (i : InfoValue). option_map (λ t. pos (index_of s t)) i.user) (text_at ([] ∷ s.texts)) same.user.0 is (map sint32 (deltas_of (users_of s is)))
            (uniform_mapped (λ t. pos (index_of s t)) (λ (i : InfoValue). i.user) same.user.0 is same.user.1) (all_of (IsWritten s) _ is (λ i w. user_part s i.user w.user) all)
            (diff_read_32 (users_of s is) (users_small s is all)));
        visibles_are = rw (f.nums_are, map_two Some boolean (flags_of is))
            (array_of (λ (i : InfoValue). i.visible) (λ (i : InfoValue). option_map flag_number i.visible) (λ n. Some (boolean n)) same.visible.0 is
            (uniform_mapped flag_number (λ (i : InfoValue). i.visible) same.visible.0 is same.visible.1) (all_of (IsWritten s) _ is (λ i w. flag_part i.visible) all));
        in_range = all_of (IsWritten s) IsInfo is (λ i w. w.in_range) all;
      });
    }
