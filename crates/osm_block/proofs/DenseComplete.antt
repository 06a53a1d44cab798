-- A dense message to which nodes stand has no phase that stands.
use Rattle.std.proofs.Common.{◌≡◌, ℕ, List, [], ◌∷◌, map, length, Bool, true, not, ◌&&◌, refl, sym, ap, ◌∙◌, subst, ℤ, Option, Some, None, inl, inr, eq-eqb}
use Rattle.std.specs.Prelude.{option_map, unwrap_or, is_none}
use Rattle.std.specs.List.{AllByRecursion, flat_map, list_all}
use Rattle.std.proofs.lemmas.List.{length-map}
use Rattle.std.proofs.lemmas.List.Folds.{list_all-append}
use Rattle.osm_value.specs.declared.element.Element.{Element}
use Rattle.osm_value.specs.Value.{Text, InfoValue, NodeValue}
use Rattle.osm_value.specs.Ranges.{is_wide, is_version, is_uid, passes, IsInfo, IsNode}
use Rattle.pbf_wire.specs.Readings.{fields}
use Rattle.osm_block.specs.declared.fault.BlockFault.TheVariants as faults
use Rattle.osm_block.specs.Message.{Context, Dense, DenseMessage, dense_message, wires}
use Rattle.osm_block.specs.Differences.{Diff, front_sums, fits_i64}
use Rattle.osm_block.specs.DenseTags.{Pair, Tags, pairs_of, indexes_of}
use Rattle.osm_block.specs.NodeTags.{pair_indexes}
use Rattle.osm_block.specs.Block.{coordinate, time, version, text_at, texts_at, all_there, values_for, StandsOrNone, DenseOf}
use Rattle.osm_block.specs.Reads.{Says}
use Rattle.osm_block.specs.Phases.{first, when, is_index, coordinate_in_range, fits_ids, deltas_of, tags_phases, dense_phases, message_phases, wire_phases}
use Rattle.osm_block.proofs.IndexesLemmas.{and_left}
use Rattle.osm_block.proofs.DifferencesLemmas.{Diff-are_sums, list_all-fits}
use Rattle.osm_block.proofs.TagsLemmas.{empty_fits}
use Rattle.osm_block.proofs.Unique.{pairs_of-joined}
use Rattle.osm_block.proofs.WayComplete.{all_indexes_there}
use Rattle.osm_block.proofs.ReadingLemmas.{first-append_none}
use Rattle.osm_block.proofs.DenseArrayLemmas.{lengths_are, Diff-length, fits_by}
use Rattle.osm_block.proofs.DensePhaseLemmas.{sums_fit, message_in_range, users_fit, dense_fault_is}

both : (a b : Bool) → a ≡ true → b ≡ true → (a && b) ≡ true
both a b h k = ap (λ x. x && b) h ∙ k

-- ---- tests of all nodes

all_pass : {A B : Type 0} (p : B → Bool) (f : A → B) (P : A → Type 0) → ((x : A) → P x → p (f x) ≡ true) → (xs : List A) → AllByRecursion P xs → list_all p (map f xs) ≡ true
all_pass p f P by [] h = refl
all_pass p f P by (x ∷ xs) h = both (p (f x)) (list_all p (map f xs)) (by x h.0) (all_pass p f P by xs h.1)

list_all-map : {A B : Type 0} (p : B → Bool) (f : A → B) (xs : List A) → list_all p (map f xs) ≡ list_all (λ x. p (f x)) xs
list_all-map p f [] = refl
list_all-map p f (x ∷ xs) = ap (λ b. p (f x) && b) (list_all-map p f xs)

-- what the values of an array pass, the numbers that it is read from pass
values_for_pass : {A : Type 0} (p : A → Bool) (f : ℤ → Option A) (n : ℕ) (xs : List ℤ) → list_all (passes p) (values_for n (map f xs)) ≡ true → list_all (λ v. passes p (f v)) xs ≡ true
values_for_pass p f n [] h = refl
values_for_pass p f n (x ∷ xs) h = sym (list_all-map (passes p) f (x ∷ xs)) ∙ h

infos_pass : {A : Type 0} (p : A → Bool) (f : InfoValue → Option A) (meaning : ℤ → Option A) (n : ℕ) (vs : List ℤ) → ((i : InfoValue) → IsInfo i → passes p (f i) ≡ true) →
    (is : List InfoValue) → AllByRecursion IsInfo is → map f is ≡ values_for n (map meaning vs) → list_all (λ v. passes p (meaning v)) vs ≡ true
infos_pass p f meaning n vs by is h e = values_for_pass p meaning n vs (sym (ap (list_all (passes p)) e) ∙ all_pass (passes p) f IsInfo by is h)

-- ---- lengths

values_for_fit : {A B : Type 0} (ids : List ℤ) (xs : List A) (is : List (Option B)) (f : A → Option B) (n : ℕ) → length is ≡ length ids → is ≡ values_for n (map f xs) → fits_ids ids xs ≡ true
values_for_fit ids [] is f n len e = refl
values_for_fit ids (x ∷ xs) is f n len e = eq-eqb _ _ (sym (length-map (x ∷ xs) f) ∙ sym (ap length e) ∙ len)

deltas_fit : {A : Type 0} (ids ds : List ℤ) (is : List (Option A)) (meaning : ℤ → A) → length is ≡ length ids → StandsOrNone (length is) is meaning ds → fits_ids ids ds ≡ true
deltas_fit ids ds is meaning len h = sym (fits_by ids ids h.0 ds refl (Diff-length h.0 ds h.1)) ∙ values_for_fit ids h.0 is (λ v. Some (meaning v)) (length is) len h.2

-- ---- sums

sums_hold : (vs ds : List ℤ) → Diff vs ds → sums_fit ds ≡ true
sums_hold vs ds h = sym (ap (list_all fits_i64) (Diff-are_sums vs ds h)) ∙ list_all-fits vs h.fit

-- ---- tags

index_there : (table : List Text) (k : ℤ) (t : Text) → text_at table k ≡ Some t → is_index (length table) k ≡ true
index_there table k t e = and_left (is_index (length table) k) true (all_indexes_there (λ x. x) table (t ∷ []) (k ∷ []) (ap (λ o. o ∷ []) (sym e)))

pairs_there : (table : List Text) (tags : List (Text × Text)) (ps : List Pair) → all_there tags ≡ texts_at table ps → list_all (is_index (length table)) (pair_indexes ps) ≡ true
pairs_there table [] [] e = refl
pairs_there table [] (p ∷ ps) e = absurd cc
pairs_there table (t ∷ tags) [] e = absurd cc
pairs_there table (t ∷ tags) (p ∷ ps) e =
    let here : Option Text × Option Text = (Some t.0, Some t.1) in
    let there : Option Text × Option Text = (text_at table p.0, text_at table p.1) in
    let heads : here ≡ there = cc in
    let tails : all_there tags ≡ texts_at table ps = cc in
    both (is_index (length table) p.0) (is_index (length table) p.1 && list_all (is_index (length table)) (pair_indexes ps)) (index_there table p.0 t.0 (sym (ap (λ x. x.0) heads)))
    (both (is_index (length table) p.1) (list_all (is_index (length table)) (pair_indexes ps)) (index_there table p.1 t.1 (sym (ap (λ x. x.1) heads))) (pairs_there table tags ps tails))

tags_there : (table : List Text) (ns : List NodeValue) (ts : List (List Pair)) → map (λ n. all_there n.tags) ns ≡ map (texts_at table) ts → list_all (is_index (length table)) (indexes_of ts) ≡ true
tags_there table [] [] e = refl
tags_there table [] (ps ∷ ts) e = absurd cc
tags_there table (n ∷ ns) [] e = absurd cc
tags_there table (n ∷ ns) (ps ∷ ts) e =
    let here : all_there n.tags ≡ texts_at table ps = cc in
    let rest : map (λ n. all_there n.tags) ns ≡ map (texts_at table) ts = cc in
    list_all-append (is_index (length table)) (pair_indexes ps) (indexes_of ts)
    ∙ both (list_all (is_index (length table)) (pair_indexes ps)) (list_all (is_index (length table)) (indexes_of ts)) (pairs_there table n.tags ps here) (tags_there table ns ts rest)

-- the phases, where these are the pairs
abbrev judged_pairs : ℕ → Option (List (List Pair)) → Type 0
judged_pairs texts o = first (when (is_none o) faults.TagsUneven ∷ when (not (list_all (is_index texts) (indexes_of (unwrap_or o [])))) faults.BadIndex ∷ []) ≡ None

pairs_hold : (texts n : ℕ) (kv : List ℤ) (ts : List (List Pair)) → pairs_of n kv ≡ Some ts → list_all (is_index texts) (indexes_of ts) ≡ true → first (tags_phases n texts kv) ≡ None
pairs_hold texts n [] ts e h = empty_fits n texts
pairs_hold texts n (k ∷ kv) ts e h =
    let fine : judged_pairs texts (Some ts) = ap (λ b. first (when (not b) faults.BadIndex ∷ [])) h in
    subst (judged_pairs texts) (sym e) fine

tags_hold : (table : List Text) (n : ℕ) (kv : List ℤ) (ns : List NodeValue) (ts : List (List Pair)) → length ts ≡ n → Tags ts kv → map (λ n. all_there n.tags) ns ≡ map (texts_at table) ts → first (tags_phases n (length table) kv) ≡ None
tags_hold table n kv ns ts len (inl h) e =
    pairs_hold (length table) n kv ts (ap (λ m. pairs_of m kv) (sym len) ∙ ap (pairs_of (length ts)) h.0 ∙ pairs_of-joined ts h.1) (tags_there table ns ts e)
tags_hold table n kv ns ts len (inr h) e = ap (λ l. first (tags_phases n (length table) l)) h.0 ∙ empty_fits n (length table)

-- ---- users

users_there : (table : List Text) (is : List InfoValue) (vs : List ℤ) → map (λ i. option_map Some i.user) is ≡ map (λ v. Some (text_at table v)) vs → list_all (is_index (length table)) vs ≡ true
users_there table [] [] e = refl
users_there table [] (v ∷ vs) e = absurd cc
users_there table (i ∷ is) [] e = absurd cc
users_there table (i ∷ is) (v ∷ vs) e =
    let here : option_map Some i.user ≡ Some (text_at table v) = cc in
    let rest : map (λ i. option_map Some i.user) is ≡ map (λ v. Some (text_at table v)) vs = cc in
    both (is_index (length table) v) (list_all (is_index (length table)) vs) (user_there i.user here) (users_there table is vs rest)
  where
    user_there : (u : Option Text) → option_map Some u ≡ Some (text_at table v) → is_index (length table) v ≡ true
    user_there None h = absurd cc
    user_there (Some t) h = let there : text_at table v ≡ Some t = cc in index_there table v t there

users_hold : (table : List Text) (is : List InfoValue) (n : ℕ) (vs : List ℤ) → map (λ i. option_map Some i.user) is ≡ values_for n (map (λ v. Some (text_at table v)) vs) → list_all (is_index (length table)) vs ≡ true
users_hold table is n [] e = refl
users_hold table is n (v ∷ vs) e = users_there table is (v ∷ vs) e

-- ---- the message

pub DenseOf-no_phase : (b : Context) (ns : List NodeValue) (m : DenseMessage) → DenseOf b ns m → first (dense_phases b m) ≡ None
DenseOf-no_phase b ns m h =
    let is : List InfoValue = map (λ n. n.info) ns in
    let i = h.infos_are in
    let ids : length ns ≡ length m.id = sym (length-map ns (λ n. n.id)) ∙ Diff-length (map (λ n. n.id) ns) m.id h.ids_are in
    let lats : length m.lat ≡ length m.id = sym (Diff-length h.lats_are.0 m.lat h.lats_are.1) ∙ sym (length-map h.lats_are.0 (coordinate b.lat_offset b.granularity)) ∙ sym (ap length h.lats_are.2) ∙ length-map ns (λ n. n.lat) ∙ ids in
    let lons : length m.lon ≡ length m.id = sym (Diff-length h.lons_are.0 m.lon h.lons_are.1) ∙ sym (length-map h.lons_are.0 (coordinate b.lon_offset b.granularity)) ∙ sym (ap length h.lons_are.2) ∙ length-map ns (λ n. n.lon) ∙ ids in
    let infos : length is ≡ length m.id = length-map ns (λ n. n.info) ∙ ids in
    let versions : fits_ids m.id m.info.version ≡ true = values_for_fit m.id m.info.version (map (λ i. i.version) is) version (length is) (length-map is (λ i. i.version) ∙ infos) i.versions_are in
    let times : fits_ids m.id m.info.timestamp ≡ true = deltas_fit m.id m.info.timestamp (map (λ i. i.time) is) (time b.date_granularity) (length-map is (λ i. i.time) ∙ infos) (resized (map (λ i. i.time) is) (length-map is (λ i. i.time)) i.times_are) in
    let changesets : fits_ids m.id m.info.changeset ≡ true = deltas_fit m.id m.info.changeset (map (λ i. i.changeset) is) (λ v. v) (length-map is (λ i. i.changeset) ∙ infos) (resized (map (λ i. i.changeset) is) (length-map is (λ i. i.changeset)) i.changesets_are) in
    let uids : fits_ids m.id m.info.uid ≡ true = deltas_fit m.id m.info.uid (map (λ i. i.uid) is) (λ v. v) (length-map is (λ i. i.uid) ∙ infos) (resized (map (λ i. i.uid) is) (length-map is (λ i. i.uid)) i.uids_are) in
    let users : fits_ids m.id m.info.user_sid ≡ true = deltas_fit m.id m.info.user_sid (map (λ i. option_map Some i.user) is) (text_at b.table) (length-map is (λ i. option_map Some i.user) ∙ infos) (resized (map (λ i. option_map Some i.user) is) (length-map is (λ i. option_map Some i.user)) i.users_are) in
    let visibles : fits_ids m.id m.info.visible ≡ true = values_for_fit m.id m.info.visible (map (λ i. i.visible) is) Some (length is) (length-map is (λ i. i.visible) ∙ infos) i.visibles_are in
    let even : lengths_are m ≡ true =
    both _ _ (both _ _ (eq-eqb _ _ lats) (eq-eqb _ _ lons)) (both _ _ (both _ _ (both _ _ (both _ _ (both _ _ versions times) changesets) uids) users) visibles) in
    let sums : list_all (λ ds. list_all fits_i64 (front_sums ds)) (deltas_of m) ≡ true =
    both _ _ (sums_hold _ m.id h.ids_are) (both _ _ (sums_hold _ m.lat h.lats_are.1) (both _ _ (sums_hold _ m.lon h.lons_are.1) (both _ _ (sums_hold _ m.info.timestamp i.times_are.1)
    (both _ _ (sums_hold _ m.info.changeset i.changesets_are.1) (both _ _ (sums_hold _ m.info.uid i.uids_are.1) (both _ _ (sums_hold _ m.info.user_sid i.users_are.1) refl)))))) in
    let ids_wide : list_all is_wide (front_sums m.id) ≡ true = sym (ap (list_all is_wide) (Diff-are_sums _ m.id h.ids_are)) ∙ all_pass is_wide (λ n. n.id) IsNode (λ n k. k.id) ns h.in_range in
    let lats_wide : list_all (coordinate_in_range b.lat_offset b.granularity) (front_sums m.lat) ≡ true =
    sym (ap (list_all (coordinate_in_range b.lat_offset b.granularity)) (Diff-are_sums _ m.lat h.lats_are.1)) ∙ sym (list_all-map is_wide (coordinate b.lat_offset b.granularity) h.lats_are.0) ∙ sym (ap (list_all is_wide) h.lats_are.2) ∙ all_pass is_wide (λ n. n.lat) IsNode (λ n k. k.lat) ns h.in_range in
    let lons_wide : list_all (coordinate_in_range b.lon_offset b.granularity) (front_sums m.lon) ≡ true =
    sym (ap (list_all (coordinate_in_range b.lon_offset b.granularity)) (Diff-are_sums _ m.lon h.lons_are.1)) ∙ sym (list_all-map is_wide (coordinate b.lon_offset b.granularity) h.lons_are.0) ∙ sym (ap (list_all is_wide) h.lons_are.2) ∙ all_pass is_wide (λ n. n.lon) IsNode (λ n k. k.lon) ns h.in_range in
    let versions_fit = infos_pass is_version (λ i. i.version) version (length is) m.info.version (λ i k. k.version) is i.in_range i.versions_are in
    let times_wide = sym (ap (list_all (λ t. is_wide (time b.date_granularity t))) (Diff-are_sums _ m.info.timestamp i.times_are.1)) ∙ infos_pass is_wide (λ i. i.time) (λ t. Some (time b.date_granularity t)) (length is) i.times_are.0 (λ i k. k.time) is i.in_range i.times_are.2 in
    let changesets_wide = sym (ap (list_all is_wide) (Diff-are_sums _ m.info.changeset i.changesets_are.1)) ∙ infos_pass is_wide (λ i. i.changeset) (λ v. Some v) (length is) i.changesets_are.0 (λ i k. k.changeset) is i.in_range i.changesets_are.2 in
    let uids_fit = sym (ap (list_all is_uid) (Diff-are_sums _ m.info.uid i.uids_are.1)) ∙ infos_pass is_uid (λ i. i.uid) (λ v. Some v) (length is) i.uids_are.0 (λ i k. k.uid) is i.in_range i.uids_are.2 in
    let ranges : message_in_range b m ≡ true = both _ _ (both _ _ (both _ _ ids_wide lats_wide) lons_wide) (both _ _ (both _ _ (both _ _ versions_fit times_wide) changesets_wide) uids_fit) in
    let pairs : length h.tags_are.0 ≡ length m.id = sym (length-map h.tags_are.0 (texts_at b.table)) ∙ sym (ap length h.tags_are.2) ∙ length-map ns (λ n. all_there n.tags) ∙ ids in
    let tags : first (tags_phases (length m.id) (length b.table) m.keys_vals) ≡ None = tags_hold b.table (length m.id) m.keys_vals ns h.tags_are.0 pairs h.tags_are.1 h.tags_are.2 in
    let people : users_fit b m ≡ true = sym (ap (list_all (is_index (length b.table))) (Diff-are_sums _ m.info.user_sid i.users_are.1)) ∙ users_hold b.table is (length is) i.users_are.0 i.users_are.2 in
    dense_fault_is b m true None true None true (sym even) (sym (ap (λ b. when (not b) faults.SumTooLarge) sums)) (sym ranges) (sym tags) (sym people)
  where
    resized : {A : Type 0} (xs : List (Option A)) {k : ℕ} {meaning : ℤ → A} {ds : List ℤ} → length xs ≡ k → StandsOrNone k xs meaning ds → StandsOrNone (length xs) xs meaning ds
    resized xs {k} {meaning} {ds} e s = let P : ℕ → Type 0 = λ j. StandsOrNone j xs meaning ds in subst P (sym e) s

-- what a dense message says has no fault
pub dense_none : (b : Context) (es : List Element) (ps : List (List ℕ)) → Says b es (Dense ps) → (first (wire_phases (wires (Dense ps))) ≡ None) → first (message_phases b (Dense ps)) ≡ None
dense_none b es ps h none =
    first-append_none (wire_phases (wires (Dense ps))) (dense_phases b (dense_message (flat_map fields ps))) none
    ∙ DenseOf-no_phase b h.1.0 (dense_message (flat_map fields ps)) h.1.2
