-- A message that stands to a node has no phase that stands.
use Rattle.std.proofs.Common.{◌≡◌, [], ◌++◌, length, refl, sym, ap, ◌∙◌, ℤ, Option, Some, None, Bool, true, false, ◌&&◌, ◌||◌, eq-eqb, is_none}
use Rattle.std.specs.Prelude.{option_map}
use Rattle.std.specs.List.{list_all}
use Rattle.std.proofs.lemmas.List.{length-map}
use Rattle.std.proofs.lemmas.List.Folds.{list_all-append}
use Rattle.osm_block.specs.declared.fault.BlockFault.TheVariants as faults
use Rattle.osm_value.specs.Value.{NodeValue}
use Rattle.osm_value.specs.Ranges.{is_wide, passes}
use Rattle.osm_block.specs.Message.{Context, NodeMessage}
use Rattle.osm_block.specs.Block.{NodeOf, text_at, coordinate}
use Rattle.osm_block.specs.Phases.{first, when, node_phases, is_index, same_length, info_in_range, coordinate_in_range, user_indexes}
use Rattle.osm_block.proofs.PhaseLemmas.{skip, pass}
use Rattle.osm_block.proofs.NodePhases.{nodes_range, nodes_index}
use Rattle.osm_block.proofs.RangeLemmas.{both}
use Rattle.osm_block.proofs.WayComplete.{all_indexes_there, user_there, info_range}

there : (f : ℤ → ℤ) (o : Option ℤ) (x : ℤ) → Some x ≡ option_map f o → is_none o ≡ false
there f None x e = cc
there f (Some v) x e = refl

coordinate_passes : (f : ℤ → ℤ) (o : Option ℤ) (x : ℤ) → Some x ≡ option_map f o → is_wide x ≡ true → passes (λ v. is_wide (f v)) o ≡ true
coordinate_passes f None x e h = refl
coordinate_passes f (Some v) x e h =
    let same : x ≡ f v = cc in
    ap is_wide (sym same) ∙ h

nothing_missing : (i a o : Bool) → i ≡ false → a ≡ false → o ≡ false → (i || a || o) ≡ false
nothing_missing i a o e f g = ap (λ x. x || a || o) e ∙ ap (λ x. false || x || o) f ∙ ap (λ x. false || false || x) g

pub NodeOf-no_phase : (b : Context) (n : NodeValue) (m : NodeMessage) → NodeOf b n m → first (node_phases b m) ≡ None
NodeOf-no_phase b n m h =
    let lat : ℤ → ℤ = coordinate b.lat_offset b.granularity in
    let lon : ℤ → ℤ = coordinate b.lon_offset b.granularity in
    let keys : length n.tags ≡ length m.keys = sym (length-map n.tags (λ t. Some t.0)) ∙ ap length h.tags_are.keys_are ∙ length-map m.keys (text_at b.table) in
    let vals : length n.tags ≡ length m.vals = sym (length-map n.tags (λ t. Some t.1)) ∙ ap length h.tags_are.vals_are ∙ length-map m.vals (text_at b.table) in
    let even : same_length m.keys m.vals ≡ true = eq-eqb _ _ (sym keys ∙ vals) in
    let missing : (is_none m.id || is_none m.lat || is_none m.lon) ≡ false =
    nothing_missing (is_none m.id) (is_none m.lat) (is_none m.lon) (ap is_none (sym h.id_is)) (there lat m.lat n.lat h.lat_is) (there lon m.lon n.lon h.lon_is) in
    let id_wide : passes is_wide m.id ≡ true = ap (passes is_wide) (sym h.id_is) ∙ h.in_range.id in
    let lat_wide : passes (coordinate_in_range b.lat_offset b.granularity) m.lat ≡ true = coordinate_passes lat m.lat n.lat h.lat_is h.in_range.lat in
    let lon_wide : passes (coordinate_in_range b.lon_offset b.granularity) m.lon ≡ true = coordinate_passes lon m.lon n.lon h.lon_is h.in_range.lon in
    let two = both (passes is_wide m.id) (passes (coordinate_in_range b.lat_offset b.granularity) m.lat) id_wide lat_wide in
    let three = both (passes is_wide m.id && passes (coordinate_in_range b.lat_offset b.granularity) m.lat) (passes (coordinate_in_range b.lon_offset b.granularity) m.lon) two lon_wide in
    let range : nodes_range b m ≡ true =
    both (passes is_wide m.id && passes (coordinate_in_range b.lat_offset b.granularity) m.lat && passes (coordinate_in_range b.lon_offset b.granularity) m.lon) (info_in_range b m.info) three (info_range b n.info m.info h.info_is) in
    let p : ℤ → Bool = is_index (length b.table) in
    let index : nodes_index b m ≡ true =
    list_all-append p (m.keys ++ m.vals) (user_indexes m.info) ∙
    both (list_all p (m.keys ++ m.vals)) (list_all p (user_indexes m.info))
    (list_all-append p m.keys m.vals ∙ both (list_all p m.keys) (list_all p m.vals) (all_indexes_there (λ t. t.0) b.table n.tags m.keys h.tags_are.keys_are) (all_indexes_there (λ t. t.1) b.table n.tags m.vals h.tags_are.vals_are))
    (user_there b.table n.info.user m.info.user_sid h.info_is.user_is) in
    skip (when (is_none m.id || is_none m.lat || is_none m.lon) faults.Missing) _ (ap (λ v. when v faults.Missing) missing)
    ∙ pass (same_length m.keys m.vals) faults.LengthsDiffer _ even
    ∙ pass (nodes_range b m) faults.OutOfRange _ range
    ∙ pass (nodes_index b m) faults.BadIndex [] index
