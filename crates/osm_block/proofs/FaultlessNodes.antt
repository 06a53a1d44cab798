-- A dense message for which no phase stands has a list of nodes.
use Rattle.std.proofs.Common.{◌≡◌, ℕ, zero, suc, List, [], ◌∷◌, map, length, replicate, Bool, true, not, ◌&&◌, refl, sym, ap, subst, ◌∙◌, ℤ, arith, Option, Some, None, IsTrue, eqb-true}
use Rattle.std.specs.Prelude.{option_map}
use Rattle.std.specs.List.{AllByRecursion, list_all}
use Rattle.std.proofs.lemmas.List.{length-map, length-replicate}
use Rattle.osm_value.specs.Value.{Text, InfoValue, NodeValue}
use Rattle.osm_value.specs.Ranges.{is_wide, is_version, is_uid, passes, IsWide, IsTextOrNone, AreTags, IsInfo, IsNode}
use Rattle.osm_block.specs.declared.fault.BlockFault.TheVariants as faults
use Rattle.osm_block.specs.Message.{Context, DenseMessage, DenseInfoMessage}
use Rattle.osm_block.specs.Differences.{Diff, front_sums, fits_i64}
use Rattle.osm_block.specs.DenseTags.{Pair, indexes_of}
use Rattle.osm_block.specs.NodeTags.{node_pairs, pair_indexes}
use Rattle.osm_block.specs.Block.{coordinate, time, version, text_at, texts_at, all_there, values_for, DenseInfoOf, DenseOf}
use Rattle.osm_block.specs.Texts.{is_text}
use Rattle.osm_block.specs.Phases.{first, when, is_index, coordinate_in_range, same_length, fits_ids, dense_info_fits, dense_info_in_range, deltas_of, dense_phases}
use Rattle.osm_block.proofs.IndexesLemmas.{and_left, and_right}
use Rattle.osm_block.proofs.NodeTagsLemmas.{TagsFit, tags_fit, indexes_in_two}
use Rattle.osm_block.proofs.RangeLemmas.{each_true, text_there}
use Rattle.osm_block.proofs.NodePhases.{four}
use Rattle.osm_block.proofs.RelationPhases.{three}
use Rattle.osm_block.proofs.DenseArrayLemmas.{length-sums, fits_by, lengths_are, tags_are_in_range}
use Rattle.osm_block.proofs.DensePhaseLemmas.{sums_phase, message_in_range, tags_phase, users_fit, judged, dense_fault_is}
use Rattle.osm_block.proofs.FaultlessElements.{none_stands, is_true, sums_differ, text_of}

-- ---- arrays of one value or none for each node

values_for_length : {A B : Type 0} (ids : List ℤ) (xs : List A) (meaning : A → Option B) → fits_ids ids xs ≡ true → length (values_for (length ids) (map meaning xs)) ≡ length ids
values_for_length ids [] meaning h = length-replicate (length ids) None
values_for_length ids (x ∷ xs) meaning h = length-map (x ∷ xs) meaning ∙ eqb-true (length (x ∷ xs)) (length ids) h

-- the same, of the sums of an array
sums_length : {A : Type 0} (ids ds : List ℤ) (meaning : ℤ → Option A) → fits_ids ids ds ≡ true → length (values_for (length ids) (map meaning (front_sums ds))) ≡ length ids
sums_length ids ds meaning h = values_for_length ids (front_sums ds) meaning (fits_by ids ids (front_sums ds) ds refl (length-sums ds) ∙ h)

none_passes : {A : Type 0} (test : A → Bool) (n : ℕ) → AllByRecursion (λ (o : Option A). IsTrue (passes test o)) (replicate n None)
none_passes test zero = tt
none_passes test (suc n) = (refl, none_passes test n)

mapped_pass : {A : Type 0} (P : A → Type 0) (test : ℤ → Bool) (f : ℤ → A) → ((x : ℤ) → test x ≡ true → P (f x)) → (xs : List ℤ) → list_all test xs ≡ true → AllByRecursion P (map f xs)
mapped_pass P test f by [] h = tt
mapped_pass P test f by (x ∷ xs) h = (by x (and_left _ _ h), mapped_pass P test f by xs (and_right _ _ h))

values_for_pass : {A : Type 0} (test : A → Bool) (n : ℕ) (meaning : ℤ → Option A) (xs : List ℤ) → list_all (λ v. passes test (meaning v)) xs ≡ true →
    AllByRecursion (λ (o : Option A). IsTrue (passes test o)) (values_for n (map meaning xs))
values_for_pass test n meaning [] h = none_passes test n
values_for_pass test n meaning (x ∷ xs) h = mapped_pass (λ o. IsTrue (passes test o)) (λ v. passes test (meaning v)) meaning (λ v e. e) (x ∷ xs) h

-- ---- users

record Users (table : List Text) (n : ℕ) (indexes : List ℤ) : Type 0 where
  pub names : List (Option Text)
  pub stand : map (λ u. option_map Some u) names ≡ values_for n (map (λ v. Some (text_at table v)) indexes)
  pub in_range : AllByRecursion IsTextOrNone names

nobody : (table : List Text) (n : ℕ) → Users table n []
nobody table zero = record { names = []; stand = refl; in_range = tt }
nobody table (suc n) =
    let rest = nobody table n in record { names = None ∷ rest.names; stand = ap (λ l. None ∷ l) rest.stand; in_range = (tt, rest.in_range) }

somebody : (table : List Text) (indexes : List ℤ) → list_all is_text table ≡ true → list_all (is_index (length table)) indexes ≡ true →
    (names : List (Option Text)) × (map (λ u. option_map Some u) names ≡ map (λ v. Some (text_at table v)) indexes) × AllByRecursion IsTextOrNone names
somebody table [] texts h = ([], refl, tt)
somebody table (i ∷ indexes) texts h =
    let t = text_of table i (and_left _ _ h) in
    let rest = somebody table indexes texts (and_right _ _ h) in (
      Some t.0 ∷ rest.0,
      ap (λ o. Some o ∷ map (λ u. option_map Some u) rest.0) (sym t.1) ∙ ap (λ l. Some (text_at table i) ∷ l) rest.1,
      (text_there table i t.0 texts t.1, rest.2),
    )

users_of : (table : List Text) (n : ℕ) (indexes : List ℤ) → list_all is_text table ≡ true → list_all (is_index (length table)) indexes ≡ true → Users table n indexes
users_of table n [] texts h = nobody table n
users_of table n (i ∷ indexes) texts h = let s = somebody table (i ∷ indexes) texts h in record { names = s.0; stand = s.1; in_range = s.2 }

-- ---- infos by their arrays

record Infos (versions times changesets uids : List (Option ℤ)) (names : List (Option Text)) (flags : List (Option Bool)) : Type 0 where
  pub list : List InfoValue
  pub versions_are : map (λ i. i.version) list ≡ versions
  pub times_are : map (λ i. i.time) list ≡ times
  pub changesets_are : map (λ i. i.changeset) list ≡ changesets
  pub uids_are : map (λ i. i.uid) list ≡ uids
  pub users_are : map (λ i. option_map Some i.user) list ≡ map (λ u. option_map Some u) names
  pub visibles_are : map (λ i. i.visible) list ≡ flags
  pub in_range : AllByRecursion IsInfo list

info_more : (v t c u : Option ℤ) (n : Option Text) (x : Option Bool) (vs ts cs us : List (Option ℤ)) (ns : List (Option Text)) (xs : List (Option Bool)) →
    IsInfo (record { version = v; time = t; changeset = c; uid = u; user = n; visible = x }) → Infos vs ts cs us ns xs → Infos (v ∷ vs) (t ∷ ts) (c ∷ cs) (u ∷ us) (n ∷ ns) (x ∷ xs)
info_more v t c u n x vs ts cs us ns xs here rest = record {
  list = record { version = v; time = t; changeset = c; uid = u; user = n; visible = x } ∷ rest.list;
  versions_are = ap (λ l. v ∷ l) rest.versions_are;
  times_are = ap (λ l. t ∷ l) rest.times_are;
  changesets_are = ap (λ l. c ∷ l) rest.changesets_are;
  uids_are = ap (λ l. u ∷ l) rest.uids_are;
  users_are = ap (λ l. option_map Some n ∷ l) rest.users_are;
  visibles_are = ap (λ l. x ∷ l) rest.visibles_are;
  in_range = (here, rest.in_range);
}

infos_of : (vs ts cs us : List (Option ℤ)) (ns : List (Option Text)) (xs : List (Option Bool)) → length ts ≡ length vs → length cs ≡ length vs → length us ≡ length vs → length ns ≡ length vs → length xs ≡ length vs →
    AllByRecursion (λ o. IsTrue (passes is_version o)) vs → AllByRecursion (λ o. IsTrue (passes is_wide o)) ts → AllByRecursion (λ o. IsTrue (passes is_wide o)) cs →
    AllByRecursion (λ o. IsTrue (passes is_uid o)) us → AllByRecursion IsTextOrNone ns → Infos vs ts cs us ns xs
infos_of [] [] [] [] [] [] et ec eu en ex pv pt pc pu pn = record { list = []; versions_are = refl; times_are = refl; changesets_are = refl; uids_are = refl; users_are = refl; visibles_are = refl; in_range = tt }
infos_of (v ∷ vs) (t ∷ ts) (c ∷ cs) (u ∷ us) (n ∷ ns) (x ∷ xs) et ec eu en ex pv pt pc pu pn =
    info_more v t c u n x vs ts cs us ns xs (record { version = pv.0; time = pt.0; changeset = pc.0; uid = pu.0; user = pn.0 })
    (infos_of vs ts cs us ns xs (omega arith) (omega arith) (omega arith) (omega arith) (omega arith) pv.1 pt.1 pc.1 pu.1 pn.1)
infos_of vs ts cs us ns xs et ec eu en ex pv pt pc pu pn = absurd (omega arith)

-- the infos of all nodes
dense_infos : (b : Context) (ids : List ℤ) (m : DenseInfoMessage) → list_all is_text b.table ≡ true → dense_info_fits ids m ≡ true → dense_info_in_range b m ≡ true →
    list_all (is_index (length b.table)) (front_sums m.user_sid) ≡ true → Diff (front_sums m.timestamp) m.timestamp → Diff (front_sums m.changeset) m.changeset →
    Diff (front_sums m.uid) m.uid → Diff (front_sums m.user_sid) m.user_sid → (is : List InfoValue) × DenseInfoOf b is m × (length is ≡ length ids)
dense_infos b ids m texts fits ranges users dt dc du dn =
    let n : ℕ = length ids in
    let first_five = fits_ids ids m.version && fits_ids ids m.timestamp && fits_ids ids m.changeset && fits_ids ids m.uid && fits_ids ids m.user_sid in
    let fit = four (fits_ids ids m.version && fits_ids ids m.timestamp) (fits_ids ids m.changeset) (fits_ids ids m.uid) (fits_ids ids m.user_sid) (and_left first_five (fits_ids ids m.visible) fits) in
    let wide = four (list_all (λ v. passes is_version (version v)) m.version) (list_all (λ t. is_wide (time b.date_granularity t)) (front_sums m.timestamp))
    (list_all is_wide (front_sums m.changeset)) (list_all is_uid (front_sums m.uid)) ranges in
    let stamp : ℤ → Option ℤ = λ t. Some (time b.date_granularity t) in
    let same : ℤ → Option ℤ = λ v. Some v in
    let flag : Bool → Option Bool = λ x. Some x in
    let name : ℤ → Option (Option Text) = λ v. Some (text_at b.table v) in
    let long_versions = values_for_length ids m.version version (and_left (fits_ids ids m.version) (fits_ids ids m.timestamp) fit.0) in
    let long_times = sums_length ids m.timestamp stamp (and_right (fits_ids ids m.version) (fits_ids ids m.timestamp) fit.0) in
    let long_changesets = sums_length ids m.changeset same fit.1 in
    let long_uids = sums_length ids m.uid same fit.2 in
    let long_names = sums_length ids m.user_sid name fit.3 in
    let long_flags = values_for_length ids m.visible flag (and_right first_five (fits_ids ids m.visible) fits) in
    let people = users_of b.table n (front_sums m.user_sid) texts users in
    let long_people = sym (length-map people.names (λ u. option_map Some u)) ∙ ap length people.stand ∙ long_names in
    let all = infos_of (values_for n (map version m.version)) (values_for n (map stamp (front_sums m.timestamp))) (values_for n (map same (front_sums m.changeset))) (values_for n (map same (front_sums m.uid))) people.names (values_for n (map flag m.visible))
    (long_times ∙ sym long_versions) (long_changesets ∙ sym long_versions) (long_uids ∙ sym long_versions) (long_people ∙ sym long_versions) (long_flags ∙ sym long_versions)
    (values_for_pass is_version n version m.version wide.0) (values_for_pass is_wide n stamp (front_sums m.timestamp) wide.1)
    (values_for_pass is_wide n same (front_sums m.changeset) wide.2) (values_for_pass is_uid n same (front_sums m.uid) wide.3) people.in_range in
    let len : length all.list ≡ n = sym (length-map all.list (λ i. i.version)) ∙ ap length all.versions_are ∙ long_versions in (
      all.list,
      record {
        versions_are = all.versions_are ∙ ap (λ k. values_for k (map version m.version)) (sym len);
        times_are = (front_sums m.timestamp, dt, all.times_are ∙ ap (λ k. values_for k (map stamp (front_sums m.timestamp))) (sym len));
        changesets_are = (front_sums m.changeset, dc, all.changesets_are ∙ ap (λ k. values_for k (map same (front_sums m.changeset))) (sym len));
        uids_are = (front_sums m.uid, du, all.uids_are ∙ ap (λ k. values_for k (map same (front_sums m.uid))) (sym len));
        users_are = (front_sums m.user_sid, dn, (all.users_are ∙ people.stand) ∙ ap (λ k. values_for k (map name (front_sums m.user_sid))) (sym len));
        visibles_are = all.visibles_are ∙ ap (λ k. values_for k (map flag m.visible)) (sym len);
        in_range = all.in_range;
      },
      len,
    )

-- ---- tags

texts_of : (table : List Text) (ps : List Pair) → list_all (is_index (length table)) (pair_indexes ps) ≡ true → (tags : List (Text × Text)) × (all_there tags ≡ texts_at table ps)
texts_of table [] h = ([], refl)
texts_of table (p ∷ ps) h =
    let key = text_of table p.0 (and_left _ _ h) in
    let later = and_right (is_index (length table) p.0) (is_index (length table) p.1 && list_all (is_index (length table)) (pair_indexes ps)) h in
    let value = text_of table p.1 (and_left _ _ later) in
    let rest = texts_of table ps (and_right _ _ later) in (
      (key.0, value.0) ∷ rest.0,
      ap (λ o. (o, Some value.0) ∷ all_there rest.0) (sym key.1) ∙ ap (λ o. (text_at table p.0, o) ∷ all_there rest.0) (sym value.1) ∙ ap (λ l. (text_at table p.0, text_at table p.1) ∷ l) rest.1,
    )

rows_of : (table : List Text) (ts : List (List Pair)) → list_all is_text table ≡ true → list_all (is_index (length table)) (indexes_of ts) ≡ true →
    (rows : List (List (Text × Text))) × (map all_there rows ≡ map (texts_at table) ts) × AllByRecursion AreTags rows
rows_of table [] texts h = ([], refl, tt)
rows_of table (ps ∷ ts) texts h =
    let two = indexes_in_two (length table) ps ts h in
    let row = texts_of table ps two.0 in
    let rest = rows_of table ts texts two.1 in (
      row.0 ∷ rest.0,
      ap (λ t. t ∷ map all_there rest.0) row.1 ∙ ap (λ l. texts_at table ps ∷ l) rest.1,
      (tags_are_in_range table row.0 ps texts row.1, rest.2),
    )

pub pairs_length : (n : ℕ) (kv : List ℤ) → length (node_pairs n kv) ≡ n
pairs_length zero kv = refl
pairs_length (suc n) kv = ap suc (pairs_length n _)

-- ---- nodes by their arrays

record Nodes (ids lats lons : List ℤ) (rows : List (List (Text × Text))) (infos : List InfoValue) : Type 0 where
  pub list : List NodeValue
  pub ids_are : map (λ n. n.id) list ≡ ids
  pub lats_are : map (λ n. n.lat) list ≡ lats
  pub lons_are : map (λ n. n.lon) list ≡ lons
  pub tags_are : map (λ n. all_there n.tags) list ≡ map all_there rows
  pub infos_are : map (λ n. n.info) list ≡ infos
  pub in_range : AllByRecursion IsNode list

node_more : (id lat lon : ℤ) (row : List (Text × Text)) (info : InfoValue) (ids lats lons : List ℤ) (rows : List (List (Text × Text))) (infos : List InfoValue) →
    IsNode (record { id = id; lat = lat; lon = lon; tags = row; info = info }) → Nodes ids lats lons rows infos → Nodes (id ∷ ids) (lat ∷ lats) (lon ∷ lons) (row ∷ rows) (info ∷ infos)
node_more id lat lon row info ids lats lons rows infos here rest = record {
  list = record { id = id; lat = lat; lon = lon; tags = row; info = info } ∷ rest.list;
  ids_are = ap (λ l. id ∷ l) rest.ids_are;
  lats_are = ap (λ l. lat ∷ l) rest.lats_are;
  lons_are = ap (λ l. lon ∷ l) rest.lons_are;
  tags_are = ap (λ l. all_there row ∷ l) rest.tags_are;
  infos_are = ap (λ l. info ∷ l) rest.infos_are;
  in_range = (here, rest.in_range);
}

nodes_of : (ids lats lons : List ℤ) (rows : List (List (Text × Text))) (infos : List InfoValue) → length lats ≡ length ids → length lons ≡ length ids → length rows ≡ length ids → length infos ≡ length ids →
    AllByRecursion IsWide ids → AllByRecursion IsWide lats → AllByRecursion IsWide lons → AllByRecursion AreTags rows → AllByRecursion IsInfo infos → Nodes ids lats lons rows infos
nodes_of [] [] [] [] [] ea eo et ei pn pa po pt pi = record { list = []; ids_are = refl; lats_are = refl; lons_are = refl; tags_are = refl; infos_are = refl; in_range = tt }
nodes_of (id ∷ ids) (lat ∷ lats) (lon ∷ lons) (row ∷ rows) (info ∷ infos) ea eo et ei pn pa po pt pi =
    node_more id lat lon row info ids lats lons rows infos (record { id = pn.0; lat = pa.0; lon = po.0; tags = pt.0; info = pi.0 })
    (nodes_of ids lats lons rows infos (omega arith) (omega arith) (omega arith) (omega arith) pn.1 pa.1 po.1 pt.1 pi.1)
nodes_of ids lats lons rows infos ea eo et ei pn pa po pt pi = absurd (omega arith)

-- ---- the message

-- none of its phases stands
all_passed : (b : Context) (m : DenseMessage) → first (dense_phases b m) ≡ None → AllByRecursion (λ p. p ≡ None)
    (when (not (lengths_are m)) faults.LengthsDiffer ∷ sums_phase m ∷ when (not (message_in_range b m)) faults.OutOfRange ∷ tags_phase b m ∷ when (not (users_fit b m)) faults.BadIndex ∷ [])
all_passed b m none =
    let judgement : judged (lengths_are m) (sums_phase m) (message_in_range b m) (tags_phase b m) (users_fit b m) ≡ None =
    sym (dense_fault_is b m (lengths_are m) (sums_phase m) (message_in_range b m) (tags_phase b m) (users_fit b m) refl refl refl refl refl) ∙ none in
    none_stands (when (not (lengths_are m)) faults.LengthsDiffer ∷ sums_phase m
    ∷ when (not (message_in_range b m)) faults.OutOfRange ∷ tags_phase b m ∷ when (not (users_fit b m)) faults.BadIndex ∷ []) judgement

pub tags_stand : (b : Context) (m : DenseMessage) → first (dense_phases b m) ≡ None → TagsFit (length m.id) (length b.table) m.keys_vals
tags_stand b m none = tags_fit (length m.id) (length b.table) m.keys_vals (all_passed b m none).1.1.1.0

pub dense_of : (b : Context) (m : DenseMessage) → list_all is_text b.table ≡ true → first (dense_phases b m) ≡ None → (ns : List NodeValue) × DenseOf b ns m
dense_of b m texts none =
    let n : ℕ = length m.id in
    let p = all_passed b m none in
    let even = three (same_length m.lat m.id) (same_length m.lon m.id) (dense_info_fits m.id m.info) (is_true (lengths_are m) faults.LengthsDiffer p.0) in
    let sums = is_true (list_all (λ ds. list_all fits_i64 (front_sums ds)) (deltas_of m)) faults.SumTooLarge p.1.0 in
    let after_ids = and_right _ _ sums in
    let after_lats = and_right _ _ after_ids in
    let after_lons = and_right _ _ after_lats in
    let after_times = and_right _ _ after_lons in
    let after_changesets = and_right _ _ after_times in
    let after_uids = and_right _ _ after_changesets in
    let ranges = four (list_all is_wide (front_sums m.id)) (list_all (coordinate_in_range b.lat_offset b.granularity) (front_sums m.lat)) (list_all (coordinate_in_range b.lon_offset b.granularity) (front_sums m.lon))
    (dense_info_in_range b m.info) (is_true (message_in_range b m) faults.OutOfRange p.1.1.0) in
    let fit = tags_fit n (length b.table) m.keys_vals p.1.1.1.0 in
    let rows = rows_of b.table (node_pairs n m.keys_vals) texts fit.in_table in
    let infos = dense_infos b m.id m.info texts even.2 ranges.3 (is_true (users_fit b m) faults.BadIndex p.1.1.1.1.0)
    (sums_differ m.info.timestamp (and_left _ _ after_lons)) (sums_differ m.info.changeset (and_left _ _ after_times))
    (sums_differ m.info.uid (and_left _ _ after_changesets)) (sums_differ m.info.user_sid (and_left _ _ after_uids)) in
    let lat : ℤ → ℤ = coordinate b.lat_offset b.granularity in
    let lon : ℤ → ℤ = coordinate b.lon_offset b.granularity in
    let long_ids : n ≡ length (front_sums m.id) = sym (length-sums m.id) in
    let long_lats : length (map lat (front_sums m.lat)) ≡ n = length-map (front_sums m.lat) lat ∙ length-sums m.lat ∙ eqb-true (length m.lat) n even.0 in
    let long_lons : length (map lon (front_sums m.lon)) ≡ n = length-map (front_sums m.lon) lon ∙ length-sums m.lon ∙ eqb-true (length m.lon) n even.1 in
    let long_rows : length rows.0 ≡ n = sym (length-map rows.0 all_there) ∙ ap length rows.1 ∙ length-map (node_pairs n m.keys_vals) (texts_at b.table) ∙ pairs_length n m.keys_vals in
    let ns = nodes_of (front_sums m.id) (map lat (front_sums m.lat)) (map lon (front_sums m.lon)) rows.0 infos.0
    (long_lats ∙ long_ids) (long_lons ∙ long_ids) (long_rows ∙ long_ids) (infos.2 ∙ long_ids)
    (each_true is_wide (front_sums m.id) ranges.0)
    (mapped_pass IsWide (coordinate_in_range b.lat_offset b.granularity) lat (λ x e. e) (front_sums m.lat) ranges.1)
    (mapped_pass IsWide (coordinate_in_range b.lon_offset b.granularity) lon (λ x e. e) (front_sums m.lon) ranges.2)
    rows.2 infos.1.in_range in (
      ns.list,
      record {
        ids_are = subst (λ (l : List ℤ). Diff l m.id) (sym ns.ids_are) (sums_differ m.id (and_left _ _ sums));
        lats_are = (front_sums m.lat, sums_differ m.lat (and_left _ _ after_ids), ns.lats_are);
        lons_are = (front_sums m.lon, sums_differ m.lon (and_left _ _ after_lats), ns.lons_are);
        tags_are = (node_pairs n m.keys_vals, fit.are_tags, ns.tags_are ∙ rows.1);
        infos_are = subst (λ (l : List InfoValue). DenseInfoOf b l m.info) (sym ns.infos_are) infos.1;
        in_range = ns.in_range;
      },
    )
