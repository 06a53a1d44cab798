-- Nodes are read back from their one message.
use Rattle.std.proofs.Common.{◌≡◌, ℕ, suc, ◌^◌, ◌<◌, List, [], ◌∷◌, ◌++◌, length, map, refl, ◌∙◌, sym, arith, ℤ, pos, Bool, true, false, if◌then◌else◌, ◌||◌, None, append-nil, subst, inl, inr}
use Rattle.std.specs.Prelude.{IsNone, nat_lt}
use Rattle.std.specs.List.{AllByRecursion, flat_map, list_any}
use Rattle.std.proofs.lemmas.List.{length-append, map-append}
use Rattle.std.proofs.lemmas.Bool.{lt-ltb, true≢false}
use Rattle.pbf_wire.specs.declared.fault.WireFault.{WireFault}
use Rattle.pbf_wire.specs.Field.{Entry}
use Rattle.pbf_wire.specs.Readings.{fields, wire, packed, int32, each, sub}
use Rattle.osm_value.specs.Value.{Text, InfoValue, NodeValue}
use Rattle.osm_value.specs.Ranges.{IsWide, IsNode}
use Rattle.osm_value.proofs.Ranges.{all_append}
use Rattle.osm_block.specs.declared.fields.TheConstants.{DENSEINFO_CHANGESET, DENSEINFO_TIMESTAMP, DENSEINFO_UID, DENSEINFO_USER_SID, DENSEINFO_VERSION, DENSEINFO_VISIBLE, DENSE_DENSEINFO, DENSE_ID, DENSE_KEYS_VALS, DENSE_LAT, DENSE_LON}
use Rattle.osm_block.specs.DenseTags.{Pair, Tags, pairs_and_zero, KeysAreNotZero}
use Rattle.osm_block.specs.Message.{dense_message}
use Rattle.osm_block.specs.Block.{DenseOf, coordinate, texts_at, all_there}
use Rattle.osm_write.specs.Canon.{Scale, index_of, number, message_field, packed_field, delta_field, raw_coordinate, tag_indexes, has_tags, keys_vals_of, dense_info_bytes, dense_bytes}
use Rattle.osm_write.proofs.Values.{int32_read, Whole, coordinate_read, quotient_is_wide}
use Rattle.osm_write.proofs.DeltasRead.{deltas_fit, diff_read}
use Rattle.osm_write.proofs.Known.{context_of, IsKnown, IsScale}
use Rattle.osm_write.proofs.Segments.{Segment, IsSegment, message_segment, message_entries, is_message_segment, message_each, message_sub, payloads_of, message_read, five_parts, entries_of, each_at, packed_at}
use Rattle.osm_write.proofs.InfoRead.{IsWritten}
use Rattle.osm_write.proofs.ElementRead.{message_long, deltas_of, payloads_sound}
use Rattle.osm_write.proofs.DenseInfoRead.{IsSame, dense_info_read, all_of}

-- what a node that is written is
pub record NodeIsWritten (s : Scale) (n : NodeValue) : Type 0 where
  pub in_range : IsNode n
  pub keys : AllByRecursion (λ (t : Text × Text). IsKnown s t.0) n.tags
  pub values : AllByRecursion (λ (t : Text × Text). IsKnown s t.1) n.tags
  pub info : IsWritten s n.info
  pub lat : Whole s.granularity n.lat
  pub lon : Whole s.granularity n.lon

-- ---- coordinates

all_mapped_by : {A B : Type 0} (P : A → Type 0) (Q : B → Type 0) (f : A → B) (xs : List A) → ((x : A) → P x → Q (f x)) → AllByRecursion P xs → AllByRecursion Q (map f xs)
all_mapped_by P Q f [] h all = tt
all_mapped_by P Q f (x ∷ xs) h all = (h x all.0, all_mapped_by P Q f xs h all.1)

abbrev raws : Scale → (NodeValue → ℤ) → List NodeValue → List ℤ
raws s part ns = map (λ (n : NodeValue). raw_coordinate s (part n)) ns

coordinates_are : (s : Scale) (part : NodeValue → ℤ) (ns : List NodeValue) → AllByRecursion (λ (n : NodeValue). Whole s.granularity (part n)) ns
    → map part ns ≡ map (coordinate (pos 0) (pos s.granularity)) (raws s part ns)
coordinates_are s part [] all = refl
coordinates_are s part (n ∷ ns) all = let a = coordinate_read s.granularity (part n) all.0 in let b = coordinates_are s part ns all.1 in cc

-- ---- tags

abbrev pair_of : Scale → Text × Text → Pair
pair_of s t = (pos (index_of s t.0), pos (index_of s t.1))

abbrev pairs_of : Scale → NodeValue → List Pair
pairs_of s n = map (pair_of s) n.tags

indexes_int32 : (s : Scale) (tags : List (Text × Text)) → AllByRecursion (λ (t : Text × Text). IsKnown s t.0) tags → AllByRecursion (λ (t : Text × Text). IsKnown s t.1) tags
    → map int32 (tag_indexes s tags ++ 0 ∷ []) ≡ pairs_and_zero (map (pair_of s) tags)
indexes_int32 s [] keys values = refl
indexes_int32 s (t ∷ tags) keys values =
    let a = keys.0.small in
    let b = values.0.small in
    let x = int32_read (index_of s t.0) (omega arith) in
    let y = int32_read (index_of s t.1) (omega arith) in
    let again = indexes_int32 s tags keys.1 values.1 in
    cc

all_int32 : (s : Scale) (ns : List NodeValue) → AllByRecursion (NodeIsWritten s) ns
    → map int32 (flat_map (λ (n : NodeValue). tag_indexes s n.tags ++ 0 ∷ []) ns) ≡ flat_map pairs_and_zero (map (pairs_of s) ns)
all_int32 s [] all = refl
all_int32 s (n ∷ ns) all =
    map-append int32 (tag_indexes s n.tags ++ 0 ∷ []) (flat_map (λ (n : NodeValue). tag_indexes s n.tags ++ 0 ∷ []) ns)
    ∙ rw (indexes_int32 s n.tags all.0.keys all.0.values, all_int32 s ns all.1) refl

keys_not_zero : (s : Scale) (tags : List (Text × Text)) → KeysAreNotZero (map (pair_of s) tags)
keys_not_zero s [] = tt
keys_not_zero s (t ∷ tags) = (λ e. cc, keys_not_zero s tags)

all_not_zero : (s : Scale) (ns : List NodeValue) → AllByRecursion KeysAreNotZero (map (pairs_of s) ns)
all_not_zero s [] = tt
all_not_zero s (n ∷ ns) = (keys_not_zero s n.tags, all_not_zero s ns)

no_pairs : (s : Scale) (ns : List NodeValue) → list_any has_tags ns ≡ false → AllByRecursion (λ (ps : List Pair). ps ≡ []) (map (pairs_of s) ns)
no_pairs s [] none = tt
no_pairs s (n ∷ ns) none = (here n.tags (or_left (nat_lt 0 (length n.tags)) (list_any has_tags ns) none), no_pairs s ns (or_right (nat_lt 0 (length n.tags)) (list_any has_tags ns) none))
  where
    or_left : (a b : Bool) → (a || b) ≡ false → a ≡ false
    or_left true b e = e
    or_left false b e = refl

    or_right : (a b : Bool) → (a || b) ≡ false → b ≡ false
    or_right true b e = absurd (cc)
    or_right false b e = e

    here : (tags : List (Text × Text)) → nat_lt 0 (length tags) ≡ false → map (pair_of s) tags ≡ []
    here [] e = refl
    here (t ∷ tags) e = let f : nat_lt 0 (suc (length tags)) ≡ true = lt-ltb 0 (suc (length tags)) (omega arith) in absurd (true≢false (sym f ∙ e))

tags_stand : (s : Scale) (ns : List NodeValue) → AllByRecursion (NodeIsWritten s) ns → Tags (map (pairs_of s) ns) (map int32 (keys_vals_of s ns))
tags_stand s ns all = by (list_any has_tags ns) refl
  where
    by : (b : Bool) → list_any has_tags ns ≡ b → Tags (map (pairs_of s) ns) (map int32 (if b then flat_map (λ (n : NodeValue). tag_indexes s n.tags ++ 0 ∷ []) ns else []))
    by true e = inl (all_int32 s ns all, all_not_zero s ns)
    by false e = inr (refl, no_pairs s ns e)

tags_texts : (s : Scale) (tags : List (Text × Text)) → AllByRecursion (λ (t : Text × Text). IsKnown s t.0) tags → AllByRecursion (λ (t : Text × Text). IsKnown s t.1) tags
    → all_there tags ≡ texts_at ([] ∷ s.texts) (map (pair_of s) tags)
tags_texts s [] keys values = refl
tags_texts s (t ∷ tags) keys values =
    let a = keys.0.text_is in
    let b = values.0.text_is in
    let again = tags_texts s tags keys.1 values.1 in
    cc

tags_are : (s : Scale) (ns : List NodeValue) → AllByRecursion (NodeIsWritten s) ns
    → map (λ (n : NodeValue). all_there n.tags) ns ≡ map (texts_at ([] ∷ s.texts)) (map (pairs_of s) ns)
tags_are s [] all = refl
tags_are s (n ∷ ns) all = let a = tags_texts s n.tags all.0.keys all.0.values in let b = tags_are s ns all.1 in cc

indexes_small : (s : Scale) (tags : List (Text × Text)) → AllByRecursion (λ (t : Text × Text). IsKnown s t.0) tags → AllByRecursion (λ (t : Text × Text). IsKnown s t.1) tags
    → AllByRecursion (λ n. n < 2 ^ 64) (tag_indexes s tags ++ 0 ∷ [])
indexes_small s [] keys values = (omega arith, tt)
indexes_small s (t ∷ tags) keys values =
    let a = keys.0.small in
    let b = values.0.small in
    (omega arith, (omega arith, indexes_small s tags keys.1 values.1))

all_small : (s : Scale) (ns : List NodeValue) → AllByRecursion (NodeIsWritten s) ns → AllByRecursion (λ n. n < 2 ^ 64) (flat_map (λ (n : NodeValue). tag_indexes s n.tags ++ 0 ∷ []) ns)
all_small s [] all = tt
all_small s (n ∷ ns) all = all_append (λ n. n < 2 ^ 64) _ _ (indexes_small s n.tags all.0.keys all.0.values) (all_small s ns all.1)

keys_vals_fit : (s : Scale) (ns : List NodeValue) → AllByRecursion (NodeIsWritten s) ns → AllByRecursion (λ n. n < 2 ^ 64) (keys_vals_of s ns)
keys_vals_fit s ns all = by (list_any has_tags ns)
  where
    by : (b : Bool) → AllByRecursion (λ n. n < 2 ^ 64) (if b then flat_map (λ (n : NodeValue). tag_indexes s n.tags ++ 0 ∷ []) ns else [])
    by true = all_small s ns all
    by false = tt

-- ---- the message

abbrev infos_of : List NodeValue → List InfoValue
infos_of ns = map (λ (n : NodeValue). n.info) ns

abbrev ids_of : List NodeValue → List ℤ
ids_of ns = map (λ (n : NodeValue). n.id) ns

abbrev lats_of : Scale → List NodeValue → List ℤ
lats_of s ns = raws s (λ (n : NodeValue). n.lat) ns

abbrev lons_of : Scale → List NodeValue → List ℤ
lons_of s ns = raws s (λ (n : NodeValue). n.lon) ns

abbrev dense_segments : Scale → List NodeValue → List Segment
dense_segments s ns = message_segment DENSE_ID (flat_map number (deltas_of (ids_of ns))) ∷ message_segment DENSE_DENSEINFO (dense_info_bytes s (infos_of ns))
    ∷ message_segment DENSE_LAT (flat_map number (deltas_of (lats_of s ns))) ∷ message_segment DENSE_LON (flat_map number (deltas_of (lons_of s ns)))
    ∷ message_segment DENSE_KEYS_VALS (flat_map number (keys_vals_of s ns)) ∷ []

-- the lengths of its parts
info_short : (s : Scale) (ns : List NodeValue) → length (dense_bytes s ns) < 2 ^ 64 → length (dense_info_bytes s (infos_of ns)) < 2 ^ 64
info_short s ns short =
    let A : List ℕ = delta_field DENSE_ID (ids_of ns) in
    let B : List ℕ = message_field DENSE_DENSEINFO (dense_info_bytes s (infos_of ns)) in
    let C : List ℕ = delta_field DENSE_LAT (lats_of s ns) in
    let D : List ℕ = delta_field DENSE_LON (lons_of s ns) in
    let E : List ℕ = packed_field DENSE_KEYS_VALS (keys_vals_of s ns) in
    let b = message_long DENSE_DENSEINFO (dense_info_bytes s (infos_of ns)) in
    let p = length-append (A ++ B ++ C ++ D) E in
    let q = length-append (A ++ B ++ C) D in
    let r = length-append (A ++ B) C in
    let t = length-append A B in
    omega arith

segments_are : (s : Scale) (ns : List NodeValue) → length (dense_bytes s ns) < 2 ^ 64 → AllByRecursion IsSegment (dense_segments s ns)
segments_are s ns short =
    let A : List ℕ = delta_field DENSE_ID (ids_of ns) in
    let B : List ℕ = message_field DENSE_DENSEINFO (dense_info_bytes s (infos_of ns)) in
    let C : List ℕ = delta_field DENSE_LAT (lats_of s ns) in
    let D : List ℕ = delta_field DENSE_LON (lons_of s ns) in
    let E : List ℕ = packed_field DENSE_KEYS_VALS (keys_vals_of s ns) in
    let a = message_long DENSE_ID (flat_map number (deltas_of (ids_of ns))) in
    let b = info_short s ns short in
    let c = message_long DENSE_LAT (flat_map number (deltas_of (lats_of s ns))) in
    let d = message_long DENSE_LON (flat_map number (deltas_of (lons_of s ns))) in
    let e = message_long DENSE_KEYS_VALS (flat_map number (keys_vals_of s ns)) in
    let p = length-append (A ++ B ++ C ++ D) E in
    let q = length-append (A ++ B ++ C) D in
    let r = length-append (A ++ B) C in
    let t = length-append A B in (
      is_message_segment DENSE_ID refl (omega arith) (flat_map number (deltas_of (ids_of ns))) (omega arith),
      (
        is_message_segment DENSE_DENSEINFO refl (omega arith) (dense_info_bytes s (infos_of ns)) b,
        (
          is_message_segment DENSE_LAT refl (omega arith) (flat_map number (deltas_of (lats_of s ns))) (omega arith),
          (
            is_message_segment DENSE_LON refl (omega arith) (flat_map number (deltas_of (lons_of s ns))) (omega arith),
            (is_message_segment DENSE_KEYS_VALS refl (omega arith) (flat_map number (keys_vals_of s ns)) (omega arith), tt),
          ),
        ),
      ),
    )

-- what is read of the nodes, and that the payloads are as they should be
pub record IsDense (s : Scale) (ns : List NodeValue) (w : List ℕ) : Type 0 where
  pub sound : wire w ≡ None
  pub info_sound : AllByRecursion IsNone (map wire (each (fields w) DENSE_DENSEINFO))
  pub arrays : AllByRecursion IsNone (map packed (each (fields w) DENSE_ID) ++ (map packed (each (fields w) DENSE_LAT) ++ (map packed (each (fields w) DENSE_LON) ++ (map packed (each (fields w) DENSE_KEYS_VALS) ++ []))))
  pub info_arrays : AllByRecursion IsNone (map packed (each (sub (fields w) DENSE_DENSEINFO) DENSEINFO_VERSION) ++ (map packed (each (sub (fields w) DENSE_DENSEINFO) DENSEINFO_TIMESTAMP) ++ (map packed (each (sub (fields w) DENSE_DENSEINFO) DENSEINFO_CHANGESET)
      ++ (map packed (each (sub (fields w) DENSE_DENSEINFO) DENSEINFO_UID) ++ (map packed (each (sub (fields w) DENSE_DENSEINFO) DENSEINFO_USER_SID)
      ++ (map packed (each (sub (fields w) DENSE_DENSEINFO) DENSEINFO_VISIBLE) ++ []))))))
  pub holds : DenseOf (context_of s) ns (dense_message (fields w))

pub dense_read : (s : Scale) (ns : List NodeValue) → IsScale s → AllByRecursion (NodeIsWritten s) ns → IsSame (infos_of ns) → length (dense_bytes s ns) < 2 ^ 64 → IsDense s ns (dense_bytes s ns)
dense_read s ns sc all same short =
    let ss : List Segment = dense_segments s ns in
    let whole = segments_are s ns short in
    let m = message_read ss (dense_bytes s ns)
    (five_parts (delta_field DENSE_ID (ids_of ns)) (message_field DENSE_DENSEINFO (dense_info_bytes s (infos_of ns))) (delta_field DENSE_LAT (lats_of s ns)) (delta_field DENSE_LON (lons_of s ns)) (packed_field DENSE_KEYS_VALS (keys_vals_of s ns))) whole in
    let ids_wide : AllByRecursion IsWide (ids_of ns) = all_mapped_by (NodeIsWritten s) IsWide (λ (n : NodeValue). n.id) ns (λ n w. w.in_range.id) all in
    let lats_wide : AllByRecursion IsWide (lats_of s ns) = all_mapped_by (NodeIsWritten s) IsWide (λ (n : NodeValue). raw_coordinate s n.lat) ns (λ n w. quotient_is_wide s.granularity n.lat w.in_range.lat) all in
    let lons_wide : AllByRecursion IsWide (lons_of s ns) = all_mapped_by (NodeIsWritten s) IsWide (λ (n : NodeValue). raw_coordinate s n.lon) ns (λ n w. quotient_is_wide s.granularity n.lon w.in_range.lon) all in
    let i = dense_info_read s (infos_of ns) sc (all_mapped_by (NodeIsWritten s) (IsWritten s) (λ (n : NodeValue). n.info) ns (λ n w. w.info) all) same (info_short s ns short) in
    let a = packed_at ss whole DENSE_ID (deltas_of (ids_of ns)) (append-nil _) (deltas_fit (ids_of ns) ids_wide) in
    let c = packed_at ss whole DENSE_LAT (deltas_of (lats_of s ns)) (append-nil _) (deltas_fit (lats_of s ns) lats_wide) in
    let d = packed_at ss whole DENSE_LON (deltas_of (lons_of s ns)) (append-nil _) (deltas_fit (lons_of s ns) lons_wide) in
    let e = packed_at ss whole DENSE_KEYS_VALS (keys_vals_of s ns) (append-nil _) (keys_vals_fit s ns all) in
    let info : each (entries_of ss) DENSE_DENSEINFO ≡ payloads_of (dense_info_bytes s (infos_of ns)) =
    each_at ss whole DENSE_DENSEINFO (message_entries DENSE_DENSEINFO (dense_info_bytes s (infos_of ns))) (append-nil _) ∙ message_each DENSE_DENSEINFO (dense_info_bytes s (infos_of ns)) in
    let subs : sub (entries_of ss) DENSE_DENSEINFO ≡ fields (dense_info_bytes s (infos_of ns)) = rw info (message_sub (dense_info_bytes s (infos_of ns))) in
    let P : List Entry → Type 0 = λ fs. DenseOf (context_of s) ns (dense_message fs) in
    let Q : List Entry → Type 0 = λ fs. AllByRecursion (IsNone {T = WireFault}) (map packed (each fs DENSE_ID) ++ (map packed (each fs DENSE_LAT) ++ (map packed (each fs DENSE_LON) ++ (map packed (each fs DENSE_KEYS_VALS) ++ [])))) in
    let R : List Entry → Type 0 = λ fs. AllByRecursion (IsNone {T = WireFault}) (map wire (each fs DENSE_DENSEINFO)) in
    let S : List Entry → Type 0 = λ gs. AllByRecursion (IsNone {T = WireFault}) (map packed (each gs DENSEINFO_VERSION) ++ (map packed (each gs DENSEINFO_TIMESTAMP) ++ (map packed (each gs DENSEINFO_CHANGESET) ++ (map packed (each gs DENSEINFO_UID) ++ (map packed (each gs DENSEINFO_USER_SID) ++ (map packed (each gs DENSEINFO_VISIBLE) ++ [])))))) in
    let T : List Entry → Type 0 = λ fs. S (sub fs DENSE_DENSEINFO) in
    record {
      sound = m.sound;
      info_sound = subst R (sym m.fields_are) (rw info (payloads_sound (dense_info_bytes s (infos_of ns)) i.sound));
      arrays = subst Q (sym m.fields_are) (all_append IsNone _ _ a.sound (all_append IsNone _ _ c.sound (all_append IsNone _ _ d.sound (all_append IsNone _ _ e.sound tt))));
      info_arrays = subst T (sym m.fields_are) (subst S (sym subs) i.arrays);
      holds = subst P (sym m.fields_are) (record {
        ids_are = rw a.nums_are (diff_read (ids_of ns) ids_wide);
        lats_are = (lats_of s ns, rw c.nums_are (diff_read (lats_of s ns) lats_wide), coordinates_are s (λ (n : NodeValue). n.lat) ns (all_of (NodeIsWritten s) _ ns (λ n w. w.lat) all));
        lons_are = (lons_of s ns, rw d.nums_are (diff_read (lons_of s ns) lons_wide), coordinates_are s (λ (n : NodeValue). n.lon) ns (all_of (NodeIsWritten s) _ ns (λ n w. w.lon) all));
        tags_are = (map (pairs_of s) ns, rw e.nums_are (tags_stand s ns all), tags_are s ns all);
        infos_are = rw subs i.holds;
        in_range = all_of (NodeIsWritten s) IsNode ns (λ n w. w.in_range) all;
      });
    }
