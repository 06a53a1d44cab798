-- A message that stands to a relation has no phase that stands.
use Rattle.std.proofs.Common.{◌≡◌, List, [], ◌∷◌, ◌++◌, map, length, refl, sym, ap, ◌∙◌, ℤ, Some, None, Bool, true, not, ◌&&◌, eq-eqb, is_none}
use Rattle.std.specs.Prelude.{is_some}
use Rattle.std.specs.List.{list_all, AllByRecursion}
use Rattle.std.proofs.lemmas.List.{length-map}
use Rattle.std.proofs.lemmas.List.Folds.{list_all-append}
use Rattle.osm_block.specs.declared.fault.BlockFault.TheVariants as faults
use Rattle.osm_value.specs.Value.{RelationValue, MemberValue}
use Rattle.osm_value.specs.Ranges.{is_wide, passes, IsMember}
use Rattle.osm_block.specs.Message.{Context, RelationMessage}
use Rattle.osm_block.specs.Block.{RelationOf, text_at, kind}
use Rattle.osm_block.specs.Differences.{front_sums, fits_i64}
use Rattle.osm_block.specs.Phases.{first, when, relation_phases, is_index, all_in, same_length, info_in_range, user_indexes}
use Rattle.osm_block.proofs.DifferencesLemmas.{Diff-are_sums, Diff-as_long, gives}
use Rattle.osm_block.proofs.PhaseLemmas.{skip, pass}
use Rattle.osm_block.proofs.RelationPhases.{relations_range, lengths, indexes, kinds_known}
use Rattle.osm_block.proofs.RangeLemmas.{both}
use Rattle.osm_block.proofs.WayComplete.{all_indexes_there, user_there, info_range}

ids_wide : (ms : List MemberValue) → AllByRecursion IsMember ms → list_all is_wide (map (λ x. x.id) ms) ≡ true
ids_wide [] h = refl
ids_wide (m ∷ ms) h = both (is_wide m.id) (list_all is_wide (map (λ x. x.id) ms)) h.0.id (ids_wide ms h.1)

known : (ms : List MemberValue) (ts : List ℤ) → map (λ x. Some x.kind) ms ≡ map kind ts → list_all (λ t. is_some (kind t)) ts ≡ true
known ms [] e = refl
known [] (t ∷ ts) e = cc
known (m ∷ ms) (t ∷ ts) e =
    let here : kind t ≡ Some m.kind = cc in
    let rest : map (λ x. Some x.kind) ms ≡ map kind ts = cc in
    both (is_some (kind t)) (list_all (λ t. is_some (kind t)) ts) (ap is_some here) (known ms ts rest)

pub RelationOf-no_phase : (b : Context) (r : RelationValue) (m : RelationMessage) → RelationOf b r m → first (relation_phases b m) ≡ None
RelationOf-no_phase b r m h =
    let sums : map (λ x. x.id) r.members ≡ front_sums m.memids = Diff-are_sums (map (λ x. x.id) r.members) m.memids h.memids_are in
    let keys : length r.tags ≡ length m.keys = sym (length-map r.tags (λ t. Some t.0)) ∙ ap length h.tags_are.keys_are ∙ length-map m.keys (text_at b.table) in
    let vals : length r.tags ≡ length m.vals = sym (length-map r.tags (λ t. Some t.1)) ∙ ap length h.tags_are.vals_are ∙ length-map m.vals (text_at b.table) in
    let ids : length r.members ≡ length m.memids = sym (length-map r.members (λ x. x.id)) ∙ Diff-as_long _ m.memids h.memids_are in
    let roles : length r.members ≡ length m.roles_sid = sym (length-map r.members (λ x. Some x.role)) ∙ ap length h.roles_are ∙ length-map m.roles_sid (text_at b.table) in
    let types : length r.members ≡ length m.types = sym (length-map r.members (λ x. Some x.kind)) ∙ ap length h.types_are ∙ length-map m.types kind in
    let even_tags : same_length m.keys m.vals ≡ true = eq-eqb _ _ (sym keys ∙ vals) in
    let even_roles : same_length m.roles_sid m.memids ≡ true = eq-eqb _ _ (sym roles ∙ ids) in
    let even_types : same_length m.types m.memids ≡ true = eq-eqb _ _ (sym types ∙ ids) in
    let even : lengths m ≡ true = both (same_length m.keys m.vals && same_length m.roles_sid m.memids) (same_length m.types m.memids)
    (both (same_length m.keys m.vals) (same_length m.roles_sid m.memids) even_tags even_roles) even_types in
    let id_wide : passes is_wide m.id ≡ true = ap (passes is_wide) (sym h.id_is) ∙ h.in_range.id in
    let ids_in : list_all is_wide (front_sums m.memids) ≡ true = ap (list_all is_wide) (sym sums) ∙ ids_wide r.members h.in_range.members in
    let range : relations_range b m ≡ true = both (passes is_wide m.id && list_all is_wide (front_sums m.memids)) (info_in_range b m.info)
    (both (passes is_wide m.id) (list_all is_wide (front_sums m.memids)) id_wide ids_in) (info_range b r.info m.info h.info_is) in
    let p : ℤ → Bool = is_index (length b.table) in
    let keys_in : list_all p m.keys ≡ true = all_indexes_there (λ t. t.0) b.table r.tags m.keys h.tags_are.keys_are in
    let vals_in : list_all p m.vals ≡ true = all_indexes_there (λ t. t.1) b.table r.tags m.vals h.tags_are.vals_are in
    let roles_in : list_all p m.roles_sid ≡ true = all_indexes_there (λ x. x.role) b.table r.members m.roles_sid h.roles_are in
    let index : all_in b.table (indexes m) ≡ true =
    list_all-append p ((m.keys ++ m.vals) ++ m.roles_sid) (user_indexes m.info) ∙
    both (list_all p ((m.keys ++ m.vals) ++ m.roles_sid)) (list_all p (user_indexes m.info))
    (list_all-append p (m.keys ++ m.vals) m.roles_sid ∙ both (list_all p (m.keys ++ m.vals)) (list_all p m.roles_sid)
    (list_all-append p m.keys m.vals ∙ both (list_all p m.keys) (list_all p m.vals) keys_in vals_in) roles_in)
    (user_there b.table r.info.user m.info.user_sid h.info_is.user_is) in
    skip (when (is_none m.id) faults.Missing) _ (ap (λ o. when (is_none o) faults.Missing) (sym h.id_is))
    ∙ pass (lengths m) faults.LengthsDiffer _ even
    ∙ skip (when (not (list_all fits_i64 (front_sums m.memids))) faults.SumTooLarge) _ (gives (map (λ x. x.id) r.members) m.memids sums h.memids_are.fit).0
    ∙ pass (relations_range b m) faults.OutOfRange _ range
    ∙ pass (all_in b.table (indexes m)) faults.BadIndex _ index
    ∙ pass (kinds_known m) faults.BadMemberType [] (known r.members m.types h.types_are)
