-- Arrays of dense nodes: one index, one more, and all of them.
use Rattle.std.proofs.Common.{◌≡◌, ℕ, zero, suc, ◌+◌, ◌-◌, ◌<◌, ◌≤◌, List, [], ◌∷◌, ◌++◌, map, length, drop, get_or, replicate, Bool, true, not, ◌&&◌, refl, sym, ap, ◌∙◌, subst, ℤ, pos, ◌+ℤ◌, arith, Option, Some, None, append_assoc, append-nil}
use Rattle.std.specs.Prelude.{option_map, option_and_then, slice_get, ◌||◌, ◌==◌}
use Rattle.std.specs.List.{list_all}
use Rattle.std.proofs.lemmas.List.{drop_more, drop_all, map-append, length-map, length-replicate, get_or-map}
use Rattle.std.proofs.lemmas.Bool.{eqb-true}
use Rattle.pbf_wire.specs.Readings.{is_there}
use Rattle.osm_value.specs.declared.element.Element.{Element}
use Rattle.osm_value.specs.declared.element.Element.TheVariants as elements
use Rattle.osm_value.specs.Value.{Text, InfoValue, NodeValue}
use Rattle.osm_value.specs.Ranges.{is_wide, is_version, is_uid, passes, AreTags, IsInfo, IsNode}
use Rattle.osm_block.specs.declared.dense.arrays.DenseArrays.{DenseArrays}
use Rattle.osm_block.specs.Message.{Context, DenseMessage}
use Rattle.osm_block.specs.Differences.{Diff, front_sums}
use Rattle.osm_block.specs.DenseTags.{Pair, Tags, indexes_of}
use Rattle.osm_block.specs.NodeTags.{front_pairs, node_pairs, pair_indexes}
use Rattle.osm_block.specs.Block.{coordinate, time, version, text_at, texts_at, all_there, values_for, StandsOrNone, DenseOf}
use Rattle.osm_block.specs.Phases.{is_index, coordinate_in_range, fits_ids, same_length, dense_info_fits}
use Rattle.osm_block.specs.Dense.{AreArraysOf, AreReady, arrays_in_range, at_index, InfoAt, NodeAt}
use Rattle.osm_block.specs.DenseRead.{InfosRead, NodesRead}
use Rattle.osm_block.specs.Texts.{is_text}
use Rattle.osm_block.proofs.RangeLemmas.{user_in_range, tags_in_range}
use Rattle.osm_block.proofs.IndexesLemmas.{and_left, and_right}
use Rattle.osm_block.proofs.DifferencesLemmas.{Diff-are_sums, AllByRecursion-push}
use Rattle.osm_block.proofs.NodeTagsLemmas.{TagsFit, indexes_in_two}

-- ---- one index

none_at : {A : Type 0} (n k : ℕ) → get_or (replicate n (let x : Option A = None in x)) k None ≡ None
none_at zero k = refl
none_at (suc n) zero = refl
none_at {A} (suc n) (suc k) = none_at {A = A} n k

some_at : {A B : Type 0} (meaning : A → Option B) (xs : List A) (k : ℕ) → get_or (map meaning xs) k None ≡ option_and_then meaning (slice_get xs k)
some_at meaning [] k = refl
some_at meaning (x ∷ xs) zero = refl
some_at meaning (x ∷ xs) (suc k) = some_at meaning xs k

-- what stands at an index of an array that may be empty
pub at_index-is : {A B : Type 0} (n : ℕ) (meaning : A → Option B) (xs : List A) (k : ℕ) → at_index n meaning xs k ≡ option_and_then meaning (slice_get xs k)
at_index-is {A} {B} n meaning [] k = none_at {A = B} n k
at_index-is n meaning (x ∷ xs) k = some_at meaning (x ∷ xs) k

pub mapped_at : {A : Type 0} (n : ℕ) (meaning : ℤ → A) (xs : List ℤ) (k : ℕ) → at_index n (λ v. Some (meaning v)) xs k ≡ option_map meaning (slice_get xs k)
mapped_at n meaning xs k = at_index-is n (λ v. Some (meaning v)) xs k ∙ as_map (slice_get xs k)
  where
    as_map : (o : Option ℤ) → option_and_then (λ v. Some (meaning v)) o ≡ option_map meaning o
    as_map None = refl
    as_map (Some v) = refl

pub same_at : {A : Type 0} (n : ℕ) (xs : List A) (k : ℕ) → at_index n (λ v. Some v) xs k ≡ slice_get xs k
same_at {A} n xs k = at_index-is n (λ v. Some v) xs k ∙ as_it_is (slice_get xs k)
  where
    as_it_is : (o : Option A) → option_and_then (λ v. Some v) o ≡ o
    as_it_is None = refl
    as_it_is (Some v) = refl

-- a test of all holds at an index
pub each_passes : (p : ℤ → Bool) (xs : List ℤ) (k : ℕ) → list_all p xs ≡ true → passes p (slice_get xs k) ≡ true
each_passes p [] k h = refl
each_passes p (x ∷ xs) zero h = and_left _ _ h
each_passes p (x ∷ xs) (suc k) h = each_passes p xs k (and_right _ _ h)

pub each_at : (p : ℤ → Bool) (xs : List ℤ) (k : ℕ) (d : ℤ) → k < length xs → list_all p xs ≡ true → p (get_or xs k d) ≡ true
each_at p [] k d inside h = absurd (omega arith)
each_at p (x ∷ xs) zero d inside h = and_left _ _ h
each_at p (x ∷ xs) (suc k) d inside h = each_at p xs k d (omega arith) (and_right _ _ h)

-- ---- the parts of the test of the ranges

pub record InRange (b : Context) (c : DenseArrays) : Type 0 where
  pub ids : list_all is_wide c.ids.items ≡ true
  pub lats : list_all (coordinate_in_range b.lat_offset b.granularity) c.lats.items ≡ true
  pub lons : list_all (coordinate_in_range b.lon_offset b.granularity) c.lons.items ≡ true
  pub versions : list_all (λ v. passes is_version (version v)) c.versions.items ≡ true
  pub times : list_all (λ t. is_wide (time b.date_granularity t)) c.timestamps.items ≡ true
  pub changesets : list_all is_wide c.changesets.items ≡ true
  pub uids : list_all is_uid c.uids.items ≡ true

four : (a b c d : Bool) → (((a && b) && c) && d) ≡ true → (a ≡ true) × (b ≡ true) × (c ≡ true) × (d ≡ true)
four a b c d h =
    let abc = and_left ((a && b) && c) d h in
    let ab = and_left (a && b) c abc in
    (and_left a b ab, and_right a b ab, and_right (a && b) c abc, and_right ((a && b) && c) d h)

pub in_range_parts : (b : Context) (c : DenseArrays) → arrays_in_range b c ≡ true → InRange b c
in_range_parts b c h =
    let p = four (list_all is_wide c.ids.items) (list_all (coordinate_in_range b.lat_offset b.granularity) c.lats.items) (list_all (coordinate_in_range b.lon_offset b.granularity) c.lons.items) _ h in
    let q = four (list_all (λ v. passes is_version (version v)) c.versions.items) (list_all (λ t. is_wide (time b.date_granularity t)) c.timestamps.items) (list_all is_wide c.changesets.items) (list_all is_uid c.uids.items) p.3 in
    record { ids = p.0; lats = p.1; lons = p.2; versions = q.0; times = q.1; changesets = q.2; uids = q.3 }

-- ---- lengths

pub length-sums : (ds : List ℤ) → length (front_sums ds) ≡ length ds
length-sums [] = refl
length-sums (d ∷ ds) = ap suc (length-map (front_sums ds) (λ s. d +ℤ s) ∙ length-sums ds)

pub Diff-length : (vs ds : List ℤ) → Diff vs ds → length vs ≡ length ds
Diff-length vs ds h = ap length (Diff-are_sums vs ds h) ∙ length-sums ds

there_by : {A : Type 0} (xs ys : List A) → length xs ≡ length ys → is_there xs ≡ is_there ys
there_by [] [] e = refl
there_by [] (y ∷ ys) e = absurd (omega arith)
there_by (x ∷ xs) [] e = absurd (omega arith)
there_by (x ∷ xs) (y ∷ ys) e = refl

pub fits_by : {A : Type 0} (ids is : List ℤ) (xs ys : List A) → length ids ≡ length is → length xs ≡ length ys → fits_ids ids xs ≡ fits_ids is ys
fits_by ids is xs ys e f =
    ap (λ b. not b || (length xs == length ids)) (there_by xs ys f) ∙ ap (λ n. not (is_there ys) || (n == length ids)) f ∙ ap (λ n. not (is_there ys) || (length ys == n)) e

long_by : {A B : Type 0} (ids : List ℤ) (xs : List A) (meaning : A → Option B) → fits_ids ids xs ≡ true → length (values_for (length ids) (map meaning xs)) ≡ length ids
long_by ids [] meaning h = length-replicate (length ids) None
long_by ids (x ∷ xs) meaning h = length-map (x ∷ xs) meaning ∙ eqb-true (length (x ∷ xs)) (length ids) h

-- ---- one index more

more : {A B : Type 0} (f : A → B) (xs : List A) (x : A) (col total : List B) (k : ℕ) (d : B) → k < length col → f x ≡ get_or col k d → map f xs ++ drop k col ≡ total →
    map f (xs ++ x ∷ []) ++ drop (k + 1) col ≡ total
more f xs x col total k d h is so_far =
    ap (λ l. l ++ drop (k + 1) col) (map-append f xs (x ∷ [])) ∙ append_assoc (map f xs) (f x ∷ []) (drop (k + 1) col)
    ∙ ap (λ y. map f xs ++ y ∷ drop (k + 1) col) is ∙ ap (λ l. map f xs ++ l) (sym (drop_more col k d h)) ∙ so_far

all_of : {A B : Type 0} (f : A → B) (xs : List A) (col : List B) (k : ℕ) → length col ≤ k → map f xs ++ drop k col ≡ col → map f xs ≡ col
all_of f xs col k h e = sym (append-nil (map f xs)) ∙ sym (ap (λ l. map f xs ++ l) (drop_all k col h)) ∙ e

infos_more : (b : Context) (c : DenseArrays) (k : ℕ) (is : List InfoValue) (i : InfoValue) → AreReady b c → k < length c.ids.items → InfosRead b c k is → InfoAt b c k i → InfosRead b c (k + 1) (is ++ i ∷ [])
infos_more b c k is i r h so_far here =
    let n : ℕ = length c.ids.items in record {
      versions = more (λ i. i.version) is i _ _ k None (omega (arith, long_by c.ids.items c.versions.items version r.versions)) here.version so_far.versions;
      times = more (λ i. i.time) is i _ _ k None (omega (arith, long_by c.ids.items c.timestamps.items (λ t. Some (time b.date_granularity t)) r.timestamps)) here.time so_far.times;
      changesets = more (λ i. i.changeset) is i _ _ k None (omega (arith, long_by c.ids.items c.changesets.items (λ v. Some v) r.changesets)) here.changeset so_far.changesets;
      uids = more (λ i. i.uid) is i _ _ k None (omega (arith, long_by c.ids.items c.uids.items (λ v. Some v) r.uids)) here.uid so_far.uids;
      users = more (λ i. option_map Some i.user) is i _ _ k None (omega (arith, long_by c.ids.items c.users.items (λ v. Some (text_at b.table v)) r.users)) here.user so_far.users;
      visibles = more (λ i. i.visible) is i _ _ k None (omega (arith, long_by c.ids.items c.visible.items (λ v. Some v) r.visible)) here.visible so_far.visibles;
      in_range = AllByRecursion-push IsInfo is i so_far.in_range here.in_range;
    }

pub node_more : (b : Context) (c : DenseArrays) (k : ℕ) (left next : List ℤ) (ns : List NodeValue) (n : NodeValue) → AreReady b c → k < length c.ids.items → NodesRead b c k left ns → NodeAt b c k n →
    all_there n.tags ≡ texts_at b.table (front_pairs left).0 → next ≡ (front_pairs left).1 → NodesRead b c (k + 1) next (ns ++ n ∷ [])
node_more b c k left next ns n r h so_far here tags rest =
    let one_less : length c.ids.items - k ≡ suc (length c.ids.items - (k + 1)) = omega arith in
    let lats : k < length (map (coordinate b.lat_offset b.granularity) c.lats.items) = omega (arith, length-map c.lats.items (coordinate b.lat_offset b.granularity), r.lats) in
    let lons : k < length (map (coordinate b.lon_offset b.granularity) c.lons.items) = omega (arith, length-map c.lons.items (coordinate b.lon_offset b.granularity), r.lons) in
    let after : List (List Pair) = node_pairs (length c.ids.items - (k + 1)) (front_pairs left).1 in
    record {
      ids = more (λ n. n.id) ns n c.ids.items _ k (pos 0) h here.id so_far.ids;
      lats = more (λ n. n.lat) ns n _ _ k (coordinate b.lat_offset b.granularity (pos 0)) lats (here.lat ∙ sym (get_or-map (coordinate b.lat_offset b.granularity) c.lats.items k (pos 0) _ (omega (arith, r.lats)))) so_far.lats;
      lons = more (λ n. n.lon) ns n _ _ k (coordinate b.lon_offset b.granularity (pos 0)) lons (here.lon ∙ sym (get_or-map (coordinate b.lon_offset b.granularity) c.lons.items k (pos 0) _ (omega (arith, r.lons)))) so_far.lons;
      tags = ap (λ l. map (λ n. all_there n.tags) (ns ++ n ∷ []) ++ map (texts_at b.table) (node_pairs (length c.ids.items - (k + 1)) l)) rest
          ∙ ap (λ l. l ++ map (texts_at b.table) after) (map-append (λ n. all_there n.tags) ns (n ∷ []))
          ∙ append_assoc (map (λ n. all_there n.tags) ns) (all_there n.tags ∷ []) (map (texts_at b.table) after)
          ∙ ap (λ t. map (λ n. all_there n.tags) ns ++ t ∷ map (texts_at b.table) after) tags
          ∙ sym (ap (λ m. map (λ n. all_there n.tags) ns ++ map (texts_at b.table) (node_pairs m left)) one_less)
          ∙ so_far.tags;
      infos = subst (InfosRead b c (k + 1)) (sym (map-append (λ n. n.info) ns (n ∷ []))) (infos_more b c k (map (λ n. n.info) ns) n.info r h so_far.infos here.info);
      in_range = AllByRecursion-push IsNode ns n so_far.in_range here.in_range;
    }

-- before the first index
pub none_yet : (b : Context) (c : DenseArrays) → NodesRead b c 0 c.keys_vals.items []
none_yet b c = record {
  ids = refl;
  lats = refl;
  lons = refl;
  tags = ap (λ m. map (texts_at b.table) (node_pairs m c.keys_vals.items)) (omega arith);
  infos = record { versions = refl; times = refl; changesets = refl; uids = refl; users = refl; visibles = refl; in_range = tt };
  in_range = tt;
}

-- ---- all indexes

stand_in : {A : Type 0} (is : List InfoValue) (f : InfoValue → Option A) (meaning : ℤ → A) (n : ℕ) (vs ds : List ℤ) → length is ≡ n → Diff vs ds →
    map f is ≡ values_for n (map (λ v. Some (meaning v)) vs) → StandsOrNone (length is) (map f is) meaning ds
stand_in is f meaning n vs ds len d e = (vs, d, e ∙ ap (λ k. values_for k (map (λ v. Some (meaning v)) vs)) (sym len))

pub all_read : (b : Context) (c : DenseArrays) (m : DenseMessage) (k : ℕ) (left : List ℤ) (ns : List NodeValue) → AreArraysOf c m → AreReady b c → Tags (node_pairs (length c.ids.items) c.keys_vals.items) c.keys_vals.items →
    k ≡ length c.ids.items → NodesRead b c k left ns → DenseOf b ns m
all_read b c m k left ns are r tags end so_far =
    let is : List InfoValue = map (λ n. n.info) ns in
    let ids : map (λ n. n.id) ns ≡ c.ids.items = all_of (λ n. n.id) ns c.ids.items k (omega arith) so_far.ids in
    let len : length is ≡ length c.ids.items = length-map ns (λ n. n.info) ∙ sym (length-map ns (λ n. n.id)) ∙ ap length ids in
    let lats = all_of (λ n. n.lat) ns (map (coordinate b.lat_offset b.granularity) c.lats.items) k (omega (arith, length-map c.lats.items (coordinate b.lat_offset b.granularity), r.lats)) so_far.lats in
    let lons = all_of (λ n. n.lon) ns (map (coordinate b.lon_offset b.granularity) c.lons.items) k (omega (arith, length-map c.lons.items (coordinate b.lon_offset b.granularity), r.lons)) so_far.lons in
    let none_left : length c.ids.items - k ≡ 0 = omega arith in
    let there : map (λ n. all_there n.tags) ns ≡ map (texts_at b.table) (node_pairs (length c.ids.items) c.keys_vals.items) =
    sym (append-nil (map (λ n. all_there n.tags) ns)) ∙ sym (ap (λ j. map (λ n. all_there n.tags) ns ++ map (texts_at b.table) (node_pairs j left)) none_left) ∙ so_far.tags in
    let i = so_far.infos in
    let versions = all_of (λ i. i.version) is _ k (omega (arith, long_by c.ids.items c.versions.items version r.versions)) i.versions in
    let times = all_of (λ i. i.time) is _ k (omega (arith, long_by c.ids.items c.timestamps.items (λ t. Some (time b.date_granularity t)) r.timestamps)) i.times in
    let changesets = all_of (λ i. i.changeset) is _ k (omega (arith, long_by c.ids.items c.changesets.items (λ v. Some v) r.changesets)) i.changesets in
    let uids = all_of (λ i. i.uid) is _ k (omega (arith, long_by c.ids.items c.uids.items (λ v. Some v) r.uids)) i.uids in
    let users = all_of (λ i. option_map Some i.user) is _ k (omega (arith, long_by c.ids.items c.users.items (λ v. Some (text_at b.table v)) r.users)) i.users in
    let visibles = all_of (λ i. i.visible) is _ k (omega (arith, long_by c.ids.items c.visible.items (λ v. Some v) r.visible)) i.visibles in
    record {
      ids_are = subst (λ (l : List ℤ). Diff l m.id) (sym ids) are.ids;
      lats_are = (c.lats.items, are.lats, lats);
      lons_are = (c.lons.items, are.lons, lons);
      tags_are = (node_pairs (length c.ids.items) c.keys_vals.items, subst (Tags (node_pairs (length c.ids.items) c.keys_vals.items)) are.keys_vals tags, there);
      infos_are = record {
        versions_are = versions ∙ ap (λ l. values_for (length c.ids.items) (map version l)) are.versions ∙ ap (λ j. values_for j (map version m.info.version)) (sym len);
        times_are = stand_in is (λ i. i.time) (time b.date_granularity) _ c.timestamps.items m.info.timestamp len are.timestamps times;
        changesets_are = stand_in is (λ i. i.changeset) (λ v. v) _ c.changesets.items m.info.changeset len are.changesets changesets;
        uids_are = stand_in is (λ i. i.uid) (λ v. v) _ c.uids.items m.info.uid len are.uids uids;
        users_are = stand_in is (λ i. option_map Some i.user) (text_at b.table) _ c.users.items m.info.user_sid len are.users users;
        visibles_are = visibles ∙ ap (λ l. values_for (length c.ids.items) (map Some l)) are.visible ∙ ap (λ j. values_for j (map Some m.info.visible)) (sym len);
        in_range = i.in_range;
      };
      in_range = so_far.in_range;
    }

-- ---- ready to be built

abbrev pub lengths_are : DenseMessage → Bool
lengths_are m = same_length m.lat m.id && same_length m.lon m.id && dense_info_fits m.id m.info

pub ready : (b : Context) (c : DenseArrays) (m : DenseMessage) → AreArraysOf c m → lengths_are m ≡ true → arrays_in_range b c ≡ true →
    TagsFit (length c.ids.items) (length b.table) c.keys_vals.items → list_all (is_index (length b.table)) c.users.items ≡ true → AreReady b c
ready b c m are lengths ranges tags users =
    let ids = Diff-length c.ids.items m.id are.ids in
    let two = and_left (same_length m.lat m.id && same_length m.lon m.id) (dense_info_fits m.id m.info) lengths in
    let lats = eqb-true (length m.lat) (length m.id) (and_left (same_length m.lat m.id) (same_length m.lon m.id) two) in
    let lons = eqb-true (length m.lon) (length m.id) (and_right (same_length m.lat m.id) (same_length m.lon m.id) two) in
    let six = and_right (same_length m.lat m.id && same_length m.lon m.id) (dense_info_fits m.id m.info) lengths in
    let first_five = fits_ids m.id m.info.version && fits_ids m.id m.info.timestamp && fits_ids m.id m.info.changeset && fits_ids m.id m.info.uid && fits_ids m.id m.info.user_sid in
    let five = and_left first_five (fits_ids m.id m.info.visible) six in
    let p = four (fits_ids m.id m.info.version && fits_ids m.id m.info.timestamp) (fits_ids m.id m.info.changeset) (fits_ids m.id m.info.uid) (fits_ids m.id m.info.user_sid) five in
    record {
      lats = Diff-length c.lats.items m.lat are.lats ∙ lats ∙ sym ids;
      lons = Diff-length c.lons.items m.lon are.lons ∙ lons ∙ sym ids;
      versions = fits_by c.ids.items m.id c.versions.items m.info.version ids (ap length are.versions) ∙ and_left (fits_ids m.id m.info.version) (fits_ids m.id m.info.timestamp) p.0;
      timestamps = fits_by c.ids.items m.id c.timestamps.items m.info.timestamp ids (Diff-length _ _ are.timestamps) ∙ and_right (fits_ids m.id m.info.version) (fits_ids m.id m.info.timestamp) p.0;
      changesets = fits_by c.ids.items m.id c.changesets.items m.info.changeset ids (Diff-length _ _ are.changesets) ∙ p.1;
      uids = fits_by c.ids.items m.id c.uids.items m.info.uid ids (Diff-length _ _ are.uids) ∙ p.2;
      users = fits_by c.ids.items m.id c.users.items m.info.user_sid ids (Diff-length _ _ are.users) ∙ p.3;
      visible = fits_by c.ids.items m.id c.visible.items m.info.visible ids (ap length are.visible) ∙ and_right first_five (fits_ids m.id m.info.visible) six;
      in_range = ranges;
      tags_in_table = tags.in_table;
      users_in_table = users;
    }

-- ---- the info of a node

pub users_along : {B : Type 0} (now : B → Text) (table : List B) (users : List ℤ) → list_all (is_index (length (map now table))) users ≡ true → list_all (is_index (length table)) users ≡ true
users_along now table users h = sym (ap (λ n. list_all (is_index n) users) (length-map table now)) ∙ h

version_passes : (o : Option ℤ) → passes (λ v. passes is_version (version v)) o ≡ passes is_version (option_and_then version o)
version_passes None = refl
version_passes (Some v) = refl

time_passes : (g : ℤ) (o : Option ℤ) → passes (λ t. is_wide (time g t)) o ≡ passes is_wide (option_map (time g) o)
time_passes g None = refl
time_passes g (Some t) = refl

-- the info whose values were taken from the index
pub info_is_at : (b : Context) (c : DenseArrays) (k : ℕ) (v t s u : Option ℤ) (user : Option Text) (seen : Option Bool) → AreReady b c → list_all is_text b.table ≡ true →
    v ≡ option_and_then version (slice_get c.versions.items k) → t ≡ option_map (time b.date_granularity) (slice_get c.timestamps.items k) → s ≡ slice_get c.changesets.items k →
    u ≡ slice_get c.uids.items k → option_map Some user ≡ option_map (text_at b.table) (slice_get c.users.items k) → seen ≡ slice_get c.visible.items k →
    InfoAt b c k (record { version = v; time = t; changeset = s; uid = u; user = user; visible = seen })
info_is_at b c k v t s u user seen r texts ev et es eu euser eseen =
    let n : ℕ = length c.ids.items in
    let p = in_range_parts b c r.in_range in record {
      version = ev ∙ sym (at_index-is n version c.versions.items k);
      time = et ∙ sym (mapped_at n (time b.date_granularity) c.timestamps.items k);
      changeset = es ∙ sym (same_at n c.changesets.items k);
      uid = eu ∙ sym (same_at n c.uids.items k);
      user = euser ∙ sym (mapped_at n (text_at b.table) c.users.items k);
      visible = eseen ∙ sym (same_at n c.visible.items k);
      in_range = record {
        version = ap (passes is_version) ev ∙ sym (version_passes (slice_get c.versions.items k)) ∙ each_passes (λ v. passes is_version (version v)) c.versions.items k p.versions;
        time = ap (passes is_wide) et ∙ sym (time_passes b.date_granularity (slice_get c.timestamps.items k)) ∙ each_passes (λ t. is_wide (time b.date_granularity t)) c.timestamps.items k p.times;
        changeset = ap (passes is_wide) es ∙ each_passes is_wide c.changesets.items k p.changesets;
        uid = ap (passes is_uid) eu ∙ each_passes is_uid c.uids.items k p.uids;
        user = user_in_range b.table user (slice_get c.users.items k) texts euser;
      };
    }

-- ---- the loop over the nodes

-- what is known once the first nodes are built, where the pairs of the others begin at an index
pub record NodesSoFar (b : Context) (c : DenseArrays) (k at : ℕ) (ns : List NodeValue) : Type 0 where
  pub within : at ≤ length c.keys_vals.items
  pub in_table : list_all (is_index (length b.table)) (indexes_of (node_pairs (length c.ids.items - k) (drop at c.keys_vals.items))) ≡ true
  pub read : NodesRead b c k (drop at c.keys_vals.items) ns

pub so_far_begins : (b : Context) (c : DenseArrays) → AreReady b c → NodesSoFar b c 0 0 []
so_far_begins b c r = record {
  within = omega arith;
  in_table = ap (λ m. list_all (is_index (length b.table)) (indexes_of (node_pairs m c.keys_vals.items))) (omega arith) ∙ r.tags_in_table;
  read = none_yet b c;
}

-- the indexes of the next node are in the table
pub next_pairs : (b : Context) (c : DenseArrays) (k at : ℕ) (ns : List NodeValue) → k < length c.ids.items → NodesSoFar b c k at ns →
    (list_all (is_index (length b.table)) (pair_indexes (front_pairs (drop at c.keys_vals.items)).0) ≡ true)
    × (list_all (is_index (length b.table)) (indexes_of (node_pairs (length c.ids.items - (k + 1)) (front_pairs (drop at c.keys_vals.items)).1)) ≡ true)
next_pairs b c k at ns h s =
    let one_less : length c.ids.items - k ≡ suc (length c.ids.items - (k + 1)) = omega arith in
    indexes_in_two (length b.table) (front_pairs (drop at c.keys_vals.items)).0 (node_pairs (length c.ids.items - (k + 1)) (front_pairs (drop at c.keys_vals.items)).1)
    (sym (ap (λ m. list_all (is_index (length b.table)) (indexes_of (node_pairs m (drop at c.keys_vals.items)))) one_less) ∙ s.in_table)

pub so_far_more : (b : Context) (c : DenseArrays) (k at next : ℕ) (ns : List NodeValue) (n : NodeValue) → AreReady b c → k < length c.ids.items → NodesSoFar b c k at ns → NodeAt b c k n →
    all_there n.tags ≡ texts_at b.table (front_pairs (drop at c.keys_vals.items)).0 → drop next c.keys_vals.items ≡ (front_pairs (drop at c.keys_vals.items)).1 → next ≤ length c.keys_vals.items →
    NodesSoFar b c (k + 1) next (ns ++ n ∷ [])
so_far_more b c k at next ns n r h s here tags rest within = record {
  within = within;
  in_table = ap (λ l. list_all (is_index (length b.table)) (indexes_of (node_pairs (length c.ids.items - (k + 1)) l))) rest ∙ (next_pairs b c k at ns h s).1;
  read = node_more b c k (drop at c.keys_vals.items) (drop next c.keys_vals.items) ns n r h s.read here tags rest;
}

-- ---- one node

-- texts in the table are in their range
pub tags_are_in_range : (table : List Text) (tags : List (Text × Text)) (ps : List Pair) → list_all is_text table ≡ true → all_there tags ≡ texts_at table ps → AreTags tags
tags_are_in_range table tags ps texts e = tags_in_range table tags (map (λ p. p.0) ps) (map (λ p. p.1) ps) texts (record {
  keys_are = sym (through_tags tags) ∙ ap (map (λ x. x.0)) e ∙ through_pairs ps;
  vals_are = sym (tags_through tags) ∙ ap (map (λ x. x.1)) e ∙ pairs_through ps;
})
  where
    through_tags : (ts : List (Text × Text)) → map (λ x. x.0) (all_there ts) ≡ map (λ t. Some t.0) ts
    through_tags [] = refl
    through_tags (t ∷ ts) = ap (λ l. Some t.0 ∷ l) (through_tags ts)

    tags_through : (ts : List (Text × Text)) → map (λ x. x.1) (all_there ts) ≡ map (λ t. Some t.1) ts
    tags_through [] = refl
    tags_through (t ∷ ts) = ap (λ l. Some t.1 ∷ l) (tags_through ts)

    through_pairs : (qs : List Pair) → map (λ x. x.0) (texts_at table qs) ≡ map (text_at table) (map (λ p. p.0) qs)
    through_pairs [] = refl
    through_pairs (q ∷ qs) = ap (λ l. text_at table q.0 ∷ l) (through_pairs qs)

    pairs_through : (qs : List Pair) → map (λ x. x.1) (texts_at table qs) ≡ map (text_at table) (map (λ p. p.1) qs)
    pairs_through [] = refl
    pairs_through (q ∷ qs) = ap (λ l. text_at table q.1 ∷ l) (pairs_through qs)

-- the units of a coordinate are in their range
pub lat_in_range : (b : Context) (c : DenseArrays) (k : ℕ) (d : ℤ) → AreReady b c → k < length c.ids.items → coordinate_in_range b.lat_offset b.granularity (get_or c.lats.items k d) ≡ true
lat_in_range b c k d r h = each_at (coordinate_in_range b.lat_offset b.granularity) c.lats.items k d (omega (arith, r.lats)) (in_range_parts b c r.in_range).lats

pub lon_in_range : (b : Context) (c : DenseArrays) (k : ℕ) (d : ℤ) → AreReady b c → k < length c.ids.items → coordinate_in_range b.lon_offset b.granularity (get_or c.lons.items k d) ≡ true
lon_in_range b c k d r h = each_at (coordinate_in_range b.lon_offset b.granularity) c.lons.items k d (omega (arith, r.lons)) (in_range_parts b c r.in_range).lons

-- the node whose values were taken from the index
pub node_is_at : (b : Context) (c : DenseArrays) (k : ℕ) (id lat lon : ℤ) (tags : List (Text × Text)) (info : InfoValue) → AreReady b c → k < length c.ids.items →
    id ≡ get_or c.ids.items k (pos 0) → lat ≡ coordinate b.lat_offset b.granularity (get_or c.lats.items k (pos 0)) → lon ≡ coordinate b.lon_offset b.granularity (get_or c.lons.items k (pos 0)) →
    InfoAt b c k info → AreTags tags → NodeAt b c k (record { id = id; lat = lat; lon = lon; tags = tags; info = info })
node_is_at b c k id lat lon tags info r h eid elat elon here there = record {
  id = eid;
  lat = elat;
  lon = elon;
  info = here;
  in_range = record {
    id = ap is_wide eid ∙ each_at is_wide c.ids.items k (pos 0) h (in_range_parts b c r.in_range).ids;
    lat = ap is_wide elat ∙ lat_in_range b c k (pos 0) r h;
    lon = ap is_wide elon ∙ lon_in_range b c k (pos 0) r h;
    tags = there;
    info = here.in_range;
  };
}

-- one more node was appended
pub appended_node : (start old new : List Element) (ns : List NodeValue) (n : NodeValue) → old ≡ start ++ map elements.Node ns → new ≡ old ++ elements.Node n ∷ [] → new ≡ start ++ map elements.Node (ns ++ n ∷ [])
appended_node start old new ns n so_far pushed =
    pushed ∙ ap (λ l. l ++ elements.Node n ∷ []) so_far ∙ append_assoc start (map elements.Node ns) (elements.Node n ∷ []) ∙ ap (λ l. start ++ l) (sym (map-append elements.Node ns (n ∷ [])))
