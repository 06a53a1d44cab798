-- An info is read back from its message.
use Rattle.std.proofs.Common.{◌≡◌, ℕ, ◌^◌, ◌<◌, List, [], ◌∷◌, refl, ap, ◌∙◌, sym, arith, ℤ, pos, Option, Some, None, option_map, Bool, true, false, IsTrue, w64, append-nil, subst}
use Rattle.std.specs.Prelude.{option_to_list, int_div, unwrap_or}
use Rattle.std.specs.List.{AllByRecursion}
use Rattle.std.specs.Int.{cast_unsigned}
use Rattle.std.proofs.lemmas.Int.{ints, quot_fits}
use Rattle.pbf_wire.specs.Field.{Entry}
use Rattle.pbf_wire.specs.Readings.{fields, wire, int32, int64, uint32, last}
use Rattle.osm_value.specs.Value.{Text, InfoValue}
use Rattle.osm_value.specs.Ranges.{IsInfo, passes, is_wide, is_version, is_uid}
use Rattle.osm_value.proofs.Ranges.{wide_fits}
use Rattle.osm_block.specs.declared.fields.TheConstants.{INFO_CHANGESET, INFO_TIMESTAMP, INFO_UID, INFO_USER_SID, INFO_VERSION, INFO_VISIBLE}
use Rattle.osm_block.specs.Message.{boolean, info_message}
use Rattle.osm_block.specs.Block.{InfoOf, version, time, text_at}
use Rattle.osm_write.specs.Canon.{Scale, index_of, number_field, flag_number, optional, times_of, info_bytes}
use Rattle.osm_write.proofs.Values.{int64_read, int64_small, uid_read, uid_fits, version_read, version_fits, version_is, Whole}
use Rattle.osm_write.proofs.Known.{context_of, IsKnown, IsScale, known_uint32}
use Rattle.osm_write.proofs.Segments.{Segment, IsSegment, IsMessage, optional_segment, optional_entries, is_optional_segment, optional_last, message_read, six_parts, entries_of, bytes_in, last_at}

-- ---- its numbers

abbrev bits_of : Option ℤ → Option ℕ
bits_of o = option_map (cast_unsigned w64) o

abbrev info_segments : Scale → InfoValue → List Segment
info_segments s i = optional_segment INFO_VERSION (bits_of i.version) ∷ optional_segment INFO_TIMESTAMP (bits_of (times_of s i.time)) ∷ optional_segment INFO_CHANGESET (bits_of i.changeset)
    ∷ optional_segment INFO_UID (bits_of i.uid) ∷ optional_segment INFO_USER_SID (option_map (index_of s) i.user)
    ∷ optional_segment INFO_VISIBLE (option_map flag_number i.visible) ∷ []

-- what an info that is written is
pub record IsWritten (s : Scale) (i : InfoValue) : Type 0 where
  pub in_range : IsInfo i
  pub user : AllByRecursion (IsKnown s) (option_to_list i.user)
  pub time : AllByRecursion (Whole s.date_granularity) (option_to_list i.time)

abbrev FitAll : Option ℕ → Type 0
FitAll o = AllByRecursion (λ n. n < 2 ^ 64) (option_to_list o)

versions_fit : (o : Option ℤ) → IsTrue (passes is_version o) → FitAll (bits_of o)
versions_fit None h = tt
versions_fit (Some z) h = (int64_small z (version_fits z h), tt)

uids_fit : (o : Option ℤ) → IsTrue (passes is_uid o) → FitAll (bits_of o)
uids_fit None h = tt
uids_fit (Some z) h = (int64_small z (uid_fits z h), tt)

wides_fit : (o : Option ℤ) → IsTrue (passes is_wide o) → FitAll (bits_of o)
wides_fit None h = tt
wides_fit (Some z) h = (int64_small z (wide_fits z h), tt)

times_fit : (s : Scale) → IsScale s → (o : Option ℤ) → IsTrue (passes is_wide o) → FitAll (bits_of (times_of s o))
times_fit s sc None h = tt
times_fit s sc (Some z) h = let d = sc.date_some in (int64_small (int_div z (pos s.date_granularity)) (quot_fits w64 z (pos s.date_granularity) (wide_fits z h) (search (arith, ints))), tt)

users_fit : (s : Scale) (o : Option Text) → AllByRecursion (IsKnown s) (option_to_list o) → FitAll (option_map (index_of s) o)
users_fit s None h = tt
users_fit s (Some t) h = (let lt = h.0.small in omega arith, tt)

flags_fit : (o : Option Bool) → FitAll (option_map flag_number o)
flags_fit None = tt
flags_fit (Some true) = (omega arith, tt)
flags_fit (Some false) = (omega arith, tt)

all_segments : (s : Scale) (i : InfoValue) → IsScale s → IsWritten s i → AllByRecursion IsSegment (info_segments s i)
all_segments s i sc w = (
  is_optional_segment INFO_VERSION refl (omega arith) (bits_of i.version) (versions_fit i.version w.in_range.version),
  (
    is_optional_segment INFO_TIMESTAMP refl (omega arith) (bits_of (times_of s i.time)) (times_fit s sc i.time w.in_range.time),
    (
      is_optional_segment INFO_CHANGESET refl (omega arith) (bits_of i.changeset) (wides_fit i.changeset w.in_range.changeset),
      (
        is_optional_segment INFO_UID refl (omega arith) (bits_of i.uid) (uids_fit i.uid w.in_range.uid),
        (
          is_optional_segment INFO_USER_SID refl (omega arith) (option_map (index_of s) i.user) (users_fit s i.user w.user),
          (is_optional_segment INFO_VISIBLE refl (omega arith) (option_map flag_number i.visible) (flags_fit i.visible), tt),
        ),
      ),
    ),
  ),
)

optional_mapped : {A B : Type 0} (f : B → List ℕ) (g : A → B) (o : Option A) → optional (λ x. f (g x)) o ≡ optional f (option_map g o)
optional_mapped f g None = refl
optional_mapped f g (Some x) = refl

bytes_are : (s : Scale) (i : InfoValue) → info_bytes s i ≡ bytes_in (info_segments s i)
bytes_are s i =
    let a = optional_mapped (number_field INFO_VERSION) (cast_unsigned w64) i.version in
    let b = optional_mapped (number_field INFO_TIMESTAMP) (cast_unsigned w64) (times_of s i.time) in
    let c = optional_mapped (number_field INFO_CHANGESET) (cast_unsigned w64) i.changeset in
    let d = optional_mapped (number_field INFO_UID) (cast_unsigned w64) i.uid in
    let e = optional_mapped (number_field INFO_USER_SID) (index_of s) i.user in
    let f = optional_mapped (number_field INFO_VISIBLE) flag_number i.visible in
    rw (a, b, c, d, e, f) (six_parts (optional (number_field INFO_VERSION) (bits_of i.version)) (optional (number_field INFO_TIMESTAMP) (bits_of (times_of s i.time))) (optional (number_field INFO_CHANGESET) (bits_of i.changeset))
    (optional (number_field INFO_UID) (bits_of i.uid)) (optional (number_field INFO_USER_SID) (option_map (index_of s) i.user)) (optional (number_field INFO_VISIBLE) (option_map flag_number i.visible)))

pub info_is_message : (s : Scale) (i : InfoValue) → IsScale s → IsWritten s i → IsMessage (entries_of (info_segments s i)) (info_bytes s i)
info_is_message s i sc w = message_read (info_segments s i) (info_bytes s i) (bytes_are s i) (all_segments s i sc w)

-- ---- what is read

versions_read : (o : Option ℤ) → IsTrue (passes is_version o) → o ≡ unwrap_or (option_map version (option_map int32 (bits_of o))) None
versions_read None h = refl
versions_read (Some z) h = let e = version_read z h in let f = version_is z h in rw (e, f) refl

times_read : (s : Scale) → IsScale s → (o : Option ℤ) → IsTrue (passes is_wide o) → AllByRecursion (Whole s.date_granularity) (option_to_list o)
    → o ≡ option_map (time (pos s.date_granularity)) (option_map int64 (bits_of (times_of s o)))
times_read s sc None h whole = refl
times_read s sc (Some z) h whole =
    let d = sc.date_some in
    let e = int64_read (int_div z (pos s.date_granularity)) (quot_fits w64 z (pos s.date_granularity) (wide_fits z h) (search (arith, ints))) in
    rw e (ap Some (sym whole.0))

changesets_read : (o : Option ℤ) → IsTrue (passes is_wide o) → o ≡ option_map int64 (bits_of o)
changesets_read None h = refl
changesets_read (Some z) h = let e = int64_read z (wide_fits z h) in rw e refl

uids_read : (o : Option ℤ) → IsTrue (passes is_uid o) → o ≡ option_map int32 (bits_of o)
uids_read None h = refl
uids_read (Some z) h = let e = uid_read z h in rw e refl

users_read : (s : Scale) (o : Option Text) → AllByRecursion (IsKnown s) (option_to_list o) → option_map Some o ≡ option_map (text_at ([] ∷ s.texts)) (option_map uint32 (option_map (index_of s) o))
users_read s None h = refl
users_read s (Some t) h = ap Some (sym (known_uint32 s t h.0))

flags_read : (o : Option Bool) → o ≡ option_map boolean (option_map flag_number o)
flags_read None = refl
flags_read (Some true) = refl
flags_read (Some false) = refl

pub info_read : (s : Scale) (i : InfoValue) → IsScale s → IsWritten s i → InfoOf (context_of s) i (info_message (fields (info_bytes s i)))
info_read s i sc w =
    let ss : List Segment = info_segments s i in
    let all = all_segments s i sc w in
    let m = info_is_message s i sc w in
    let P : List Entry → Type 0 = λ fs. InfoOf (context_of s) i (info_message fs) in
    let v : last (entries_of ss) INFO_VERSION ≡ bits_of i.version = last_at ss all INFO_VERSION (optional_entries INFO_VERSION (bits_of i.version)) (append-nil _) ∙ optional_last INFO_VERSION (bits_of i.version) in
    let t : last (entries_of ss) INFO_TIMESTAMP ≡ bits_of (times_of s i.time) = last_at ss all INFO_TIMESTAMP (optional_entries INFO_TIMESTAMP (bits_of (times_of s i.time))) (append-nil _) ∙ optional_last INFO_TIMESTAMP (bits_of (times_of s i.time)) in
    let c : last (entries_of ss) INFO_CHANGESET ≡ bits_of i.changeset = last_at ss all INFO_CHANGESET (optional_entries INFO_CHANGESET (bits_of i.changeset)) (append-nil _) ∙ optional_last INFO_CHANGESET (bits_of i.changeset) in
    let u : last (entries_of ss) INFO_UID ≡ bits_of i.uid = last_at ss all INFO_UID (optional_entries INFO_UID (bits_of i.uid)) (append-nil _) ∙ optional_last INFO_UID (bits_of i.uid) in
    let n : last (entries_of ss) INFO_USER_SID ≡ option_map (index_of s) i.user = last_at ss all INFO_USER_SID (optional_entries INFO_USER_SID (option_map (index_of s) i.user)) (append-nil _) ∙ optional_last INFO_USER_SID (option_map (index_of s) i.user) in
    let x : last (entries_of ss) INFO_VISIBLE ≡ option_map flag_number i.visible = last_at ss all INFO_VISIBLE (optional_entries INFO_VISIBLE (option_map flag_number i.visible)) (append-nil _) ∙ optional_last INFO_VISIBLE (option_map flag_number i.visible) in
    subst P (sym m.fields_are) (record {
      version_is = rw v (versions_read i.version w.in_range.version);
      time_is = rw t (times_read s sc i.time w.in_range.time w.time);
      changeset_is = rw c (changesets_read i.changeset w.in_range.changeset);
      uid_is = rw u (uids_read i.uid w.in_range.uid);
      user_is = rw n (users_read s i.user w.user);
      visible_is = rw x (flags_read i.visible);
      in_range = w.in_range;
    })

pub info_sound : (s : Scale) (i : InfoValue) → IsScale s → IsWritten s i → wire (info_bytes s i) ≡ None
info_sound s i sc w = (info_is_message s i sc w).sound
