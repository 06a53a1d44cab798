-- A message that stands to a way has no phase that stands.
use Rattle.std.proofs.Common.{◌≡◌, ℕ, zero, suc, List, [], ◌∷◌, ◌++◌, map, length, refl, sym, ap, ◌∙◌, ℤ, pos, negsuc, Option, Some, None, Bool, true, ◌&&◌, arith, eq-eqb}
use Rattle.std.specs.Prelude.{option_map, option_to_list, slice_get, nat_lt}
use Rattle.std.specs.List.{list_all}
use Rattle.std.proofs.lemmas.List.{length-map}
use Rattle.std.proofs.lemmas.List.Folds.{list_all-append}
use Rattle.std.proofs.lemmas.Bool.Decides.{nat_tests}
use Rattle.osm_block.specs.declared.fault.BlockFault.TheVariants as faults
use Rattle.osm_value.specs.Value.{Text, InfoValue, WayValue}
use Rattle.osm_block.specs.Message.{Context, InfoMessage, WayMessage}
use Rattle.osm_block.specs.Block.{WayOf, InfoOf, text_at, time}
use Rattle.osm_value.specs.Ranges.{is_wide, is_version, is_uid, passes}
use Rattle.osm_block.specs.Differences.{front_sums}
use Rattle.osm_block.specs.Phases.{first, way_phases, is_index, all_in, same_length, info_in_range, user_indexes}
use Rattle.osm_block.proofs.DifferencesLemmas.{Diff-are_sums, gives}
use Rattle.osm_block.proofs.InfoLemmas.{version_passes, time_passes}
use Rattle.osm_block.proofs.PhaseLemmas.{late_way, pass}
use Rattle.osm_block.proofs.RangeLemmas.{both, all_true}

there_is_index : (table : List Text) (i : ℕ) (t : Text) → slice_get table i ≡ Some t → nat_lt i (length table) ≡ true
there_is_index [] i t e = cc
there_is_index (u ∷ table) zero t e = grind (arith, nat_tests)
there_is_index (u ∷ table) (suc i) t e =
    let below : nat_lt i (length table) ≡ true = there_is_index table i t e in
    grind (arith, nat_tests)

index_of_text : (table : List Text) (k : ℤ) (t : Text) → text_at table k ≡ Some t → is_index (length table) k ≡ true
index_of_text table (pos i) t e = there_is_index table i t e
index_of_text table (negsuc i) t e = cc

pub all_indexes_there : {A : Type 0} (get : A → Text) (table : List Text) (xs : List A) (ks : List ℤ) → map (λ x. Some (get x)) xs ≡ map (text_at table) ks → list_all (is_index (length table)) ks ≡ true
all_indexes_there get table xs [] e = refl
all_indexes_there get table [] (k ∷ ks) e = cc
all_indexes_there get table (x ∷ xs) (k ∷ ks) e =
    let here : text_at table k ≡ Some (get x) = cc in
    let rest : map (λ x. Some (get x)) xs ≡ map (text_at table) ks = cc in
    ap (λ b. b && list_all (is_index (length table)) ks) (index_of_text table k (get x) here) ∙ all_indexes_there get table xs ks rest

pub user_there : (table : List Text) (u : Option Text) (k : Option ℤ) → option_map Some u ≡ option_map (text_at table) k → list_all (is_index (length table)) (option_to_list k) ≡ true
user_there table u None e = refl
user_there table None (Some k) e = cc
user_there table (Some t) (Some k) e =
    let here : text_at table k ≡ Some t = cc in
    ap (λ b. b && true) (index_of_text table k t here)

pub info_range : (b : Context) (i : InfoValue) (m : InfoMessage) → InfoOf b i m → info_in_range b m ≡ true
info_range b i m h =
    ap (λ x. x && passes (λ t. is_wide (time b.date_granularity t)) m.timestamp && passes is_wide m.changeset && passes is_uid m.uid) (version_passes m.version ∙ ap (passes is_version) (sym h.version_is))
    ∙ ap (λ x. passes is_version i.version && x && passes is_wide m.changeset && passes is_uid m.uid) (time_passes b.date_granularity m.timestamp ∙ ap (passes is_wide) (sym h.time_is))
    ∙ ap (λ x. passes is_version i.version && passes is_wide i.time && passes is_wide x && passes is_uid m.uid) (sym h.changeset_is)
    ∙ ap (λ x. passes is_version i.version && passes is_wide i.time && passes is_wide i.changeset && passes is_uid x) (sym h.uid_is)
    ∙ both (passes is_version i.version && passes is_wide i.time && passes is_wide i.changeset) (passes is_uid i.uid)
    (both (passes is_version i.version && passes is_wide i.time) (passes is_wide i.changeset) (both (passes is_version i.version) (passes is_wide i.time) h.in_range.version h.in_range.time) h.in_range.changeset) h.in_range.uid

pub WayOf-no_phase : (b : Context) (w : WayValue) (m : WayMessage) → WayOf b w m → first (way_phases b m) ≡ None
WayOf-no_phase b w m h =
    let sums : w.refs ≡ front_sums m.refs = Diff-are_sums w.refs m.refs h.refs_are in
    let keys : length w.tags ≡ length m.keys = sym (length-map w.tags (λ t. Some t.0)) ∙ ap length h.tags_are.keys_are ∙ length-map m.keys (text_at b.table) in
    let vals : length w.tags ≡ length m.vals = sym (length-map w.tags (λ t. Some t.1)) ∙ ap length h.tags_are.vals_are ∙ length-map m.vals (text_at b.table) in
    let even : same_length m.keys m.vals ≡ true = eq-eqb _ _ (sym keys ∙ vals) in
    let range : (passes is_wide m.id && list_all is_wide (front_sums m.refs) && info_in_range b m.info) ≡ true =
    both (passes is_wide m.id && list_all is_wide (front_sums m.refs)) (info_in_range b m.info)
    (ap (λ o. passes is_wide o && list_all is_wide (front_sums m.refs)) (sym h.id_is) ∙ ap (λ l. is_wide w.id && list_all is_wide l) (sym sums) ∙ both (is_wide w.id) (list_all is_wide w.refs) h.in_range.id (all_true is_wide w.refs h.in_range.refs))
    (info_range b w.info m.info h.info_is) in
    let p : ℤ → Bool = is_index (length b.table) in
    let index : all_in b.table (m.keys ++ m.vals ++ user_indexes m.info) ≡ true =
    list_all-append p (m.keys ++ m.vals) (user_indexes m.info) ∙
    both (list_all p (m.keys ++ m.vals)) (list_all p (user_indexes m.info))
    (list_all-append p m.keys m.vals ∙ both (list_all p m.keys) (list_all p m.vals) (all_indexes_there (λ t. t.0) b.table w.tags m.keys h.tags_are.keys_are) (all_indexes_there (λ t. t.1) b.table w.tags m.vals h.tags_are.vals_are))
    (user_there b.table w.info.user m.info.user_sid h.info_is.user_is) in
    late_way b m w.id (sym h.id_is) even (gives w.refs m.refs sums h.refs_are.fit).0
    ∙ pass (passes is_wide m.id && list_all is_wide (front_sums m.refs) && info_in_range b m.info) faults.OutOfRange _ range
    ∙ pass (all_in b.table (m.keys ++ m.vals ++ user_indexes m.info)) faults.BadIndex [] index
