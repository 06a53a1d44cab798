-- The phases of a dense message, one part after the other.
use Rattle.std.proofs.Common.{◌≡◌, ℕ, List, [], ◌∷◌, map, length, Bool, not, ◌&&◌, refl, sym, ap, ◌∙◌, ℤ, Some, None, nat_eq}
use Rattle.std.specs.Prelude.{◌||◌}
use Rattle.std.specs.List.{list_all}
use Rattle.std.proofs.lemmas.List.{length-map}
use Rattle.pbf_wire.specs.Readings.{is_there}
use Rattle.osm_value.specs.Ranges.{is_wide, is_version, is_uid, passes}
use Rattle.osm_block.specs.declared.fault.BlockFault.TheVariants as faults
use Rattle.osm_block.specs.declared.dense.arrays.DenseArrays.{DenseArrays}
use Rattle.osm_block.specs.Message.{Context, DenseMessage}
use Rattle.osm_block.specs.Differences.{front_sums, fits_i64}
use Rattle.osm_block.specs.Block.{time, version}
use Rattle.osm_block.specs.Dense.{AreArraysOf, arrays_in_range}
use Rattle.osm_block.specs.Phases.{Phase, first, when, is_index, all_in, coordinate_in_range, same_length, fits_ids, deltas_of, dense_info_in_range, tags_phases, dense_phases}
use Rattle.osm_block.proofs.DifferencesLemmas.{Diff-are_sums}
use Rattle.osm_block.proofs.DenseArrayLemmas.{Diff-length, lengths_are}

-- ---- lengths, as the code tests them

pub same_lengths : (f g : ℕ → ℤ) (xs ids : List ℕ) (n m : ℕ) → n ≡ length xs → m ≡ length ids → nat_eq n m ≡ same_length (map f xs) (map g ids)
same_lengths f g xs ids n m e h = ap (λ k. nat_eq k m) (e ∙ sym (length-map xs f)) ∙ ap (λ k. nat_eq (length (map f xs)) k) (h ∙ sym (length-map ids g))

there_along : {A : Type 0} (f : ℕ → A) (xs : List ℕ) → is_there xs ≡ is_there (map f xs)
there_along f [] = refl
there_along f (x ∷ xs) = refl

pub fits_lengths : {A : Type 0} (f : ℕ → A) (g : ℕ → ℤ) (xs ids : List ℕ) (t : Bool) (m : ℕ) → m ≡ length ids → t ≡ (not (is_there xs) || nat_eq (length xs) m) → t ≡ fits_ids (map g ids) (map f xs)
fits_lengths f g xs ids t m h e =
    e ∙ ap (λ b. not b || nat_eq (length xs) m) (there_along f xs) ∙ ap (λ n. not (is_there (map f xs)) || nat_eq n m) (sym (length-map xs f))
    ∙ ap (λ n. not (is_there (map f xs)) || nat_eq (length (map f xs)) n) (h ∙ sym (length-map ids g))

-- ---- sums

abbrev pub sums_fit : List ℤ → Bool
sums_fit ds = list_all fits_i64 (front_sums ds)

-- ---- the ranges

abbrev pub message_in_range : Context → DenseMessage → Bool
message_in_range b m =
    list_all is_wide (front_sums m.id)
    && list_all (coordinate_in_range b.lat_offset b.granularity) (front_sums m.lat)
    && list_all (coordinate_in_range b.lon_offset b.granularity) (front_sums m.lon)
    && dense_info_in_range b m.info

pub ranges_are : (b : Context) (c : DenseArrays) (m : DenseMessage) → AreArraysOf c m → arrays_in_range b c ≡ message_in_range b m
ranges_are b c m are =
    let i = ap (list_all is_wide) (Diff-are_sums c.ids.items m.id are.ids) in
    let l = ap (list_all (coordinate_in_range b.lat_offset b.granularity)) (Diff-are_sums c.lats.items m.lat are.lats) in
    let o = ap (list_all (coordinate_in_range b.lon_offset b.granularity)) (Diff-are_sums c.lons.items m.lon are.lons) in
    let v = ap (list_all (λ v. passes is_version (version v))) are.versions in
    let t = ap (list_all (λ t. is_wide (time b.date_granularity t))) (Diff-are_sums c.timestamps.items m.info.timestamp are.timestamps) in
    let s = ap (list_all is_wide) (Diff-are_sums c.changesets.items m.info.changeset are.changesets) in
    let u = ap (list_all is_uid) (Diff-are_sums c.uids.items m.info.uid are.uids) in
    cc (i, l, o, v, t, s, u)

-- ---- all of them

first-pair : (e f : Phase) (qs : List Phase) → first (e ∷ f ∷ qs) ≡ first (first (e ∷ f ∷ []) ∷ qs)
first-pair (Some x) f qs = refl
first-pair None (Some x) qs = refl
first-pair None None qs = refl

first-cons : (a : Phase) (xs ys : List Phase) → first xs ≡ first ys → first (a ∷ xs) ≡ first (a ∷ ys)
first-cons None xs ys e = e
first-cons (Some x) xs ys e = refl

abbrev pub judged : Bool → Phase → Bool → Phase → Bool → Phase
judged lengths sums ranges tags users =
    first (when (not lengths) faults.LengthsDiffer ∷ sums ∷ when (not ranges) faults.OutOfRange ∷ tags ∷ when (not users) faults.BadIndex ∷ [])

abbrev pub sums_phase : DenseMessage → Phase
sums_phase m = when (not (list_all (λ ds. list_all fits_i64 (front_sums ds)) (deltas_of m))) faults.SumTooLarge

abbrev pub tags_phase : Context → DenseMessage → Phase
tags_phase b m = first (tags_phases (length m.id) (length b.table) m.keys_vals)

abbrev pub users_fit : Context → DenseMessage → Bool
users_fit b m = all_in b.table (front_sums m.info.user_sid)

-- the fault by its parts, as they were read
pub dense_fault_is : (b : Context) (m : DenseMessage) (lengths : Bool) (sums : Phase) (ranges : Bool) (tags : Phase) (users : Bool) →
    lengths ≡ lengths_are m → sums ≡ sums_phase m → ranges ≡ message_in_range b m → tags ≡ tags_phase b m → users ≡ users_fit b m →
    first (dense_phases b m) ≡ judged lengths sums ranges tags users
dense_fault_is b m lengths sums ranges tags users el es er et eu =
    let uneven : Phase = first (tags_phases (length m.id) (length b.table) m.keys_vals) in
    first-cons (when (not (lengths_are m)) faults.LengthsDiffer) _ _ (first-cons (sums_phase m) _ _
    (first-cons (when (not (message_in_range b m)) faults.OutOfRange) _ _ (first-pair _ _ (when (not (users_fit b m)) faults.BadIndex ∷ []))))
    ∙ ap (λ x. judged x (sums_phase m) (message_in_range b m) uneven (users_fit b m)) (sym el)
    ∙ ap (λ x. judged lengths x (message_in_range b m) uneven (users_fit b m)) (sym es)
    ∙ ap (λ x. judged lengths sums x uneven (users_fit b m)) (sym er)
    ∙ ap (λ x. judged lengths sums ranges x (users_fit b m)) (sym et)
    ∙ ap (λ x. judged lengths sums ranges tags x) (sym eu)

-- the tags and the users of the arrays
pub tags_are : (b : Context) (c : DenseArrays) (m : DenseMessage) → AreArraysOf c m → first (tags_phases (length c.ids.items) (length b.table) c.keys_vals.items) ≡ tags_phase b m
tags_are b c m are =
    ap (λ n. first (tags_phases n (length b.table) c.keys_vals.items)) (Diff-length c.ids.items m.id are.ids) ∙ ap (λ l. first (tags_phases (length m.id) (length b.table) l)) are.keys_vals

pub users_are : (b : Context) (c : DenseArrays) (m : DenseMessage) → AreArraysOf c m → list_all (is_index (length b.table)) c.users.items ≡ users_fit b m
users_are b c m are = ap (list_all (is_index (length b.table))) (Diff-are_sums c.users.items m.info.user_sid are.users)
