-- Dense nodes: no payload says no node.
use Rattle.std.proofs.Common.{◌≡◌, ℕ, ℤ, List, [], ◌∷◌, map, length, refl, sym, ap, subst, ◌∙◌, None, Some, append-nil, inr, arith}
use Rattle.std.specs.List.{flat_map}
use Rattle.osm_value.specs.declared.element.Element.TheVariants as elements
use Rattle.pbf_wire.specs.Readings.{fields}
use Rattle.osm_block.specs.declared.fault.BlockFault.{BlockFault}
use Rattle.osm_block.specs.declared.dense.arrays.DenseArrays.{DenseArrays}
use Rattle.osm_block.specs.Dense.{AreArraysOf, AreReady}
use Rattle.osm_block.specs.DenseRead.{AppendedNodes}
use Rattle.osm_block.specs.DenseTags.{Tags}
use Rattle.osm_block.specs.NodeTags.{node_pairs}
use Rattle.osm_value.specs.declared.element.Element.{Element}
use Rattle.osm_block.specs.Message.{Context, Dense, DenseMessage, dense_message, wires}
use Rattle.osm_block.specs.Phases.{first, message_phases, dense_phases, wire_phases}
use Rattle.osm_block.specs.Reads.{Says, Appended}
use Rattle.osm_block.proofs.ReadingLemmas.{first-append_none, first-append_some}
use Rattle.osm_block.proofs.LoopLemmas.{message_wire}
use Rattle.osm_block.proofs.DenseArrayLemmas.{Diff-length, all_read}
use Rattle.osm_block.proofs.FaultlessNodes.{tags_stand}
use Rattle.osm_block.proofs.Faultless.{after_wire}

pub nothing_said : (b : Context) → Says b [] (Dense [])
nothing_said b = (
  tt,
  (
    [],
    refl,
    record {
      ids_are = record { are = refl; fit = tt };
      lats_are = ([], record { are = refl; fit = tt }, refl);
      lons_are = ([], record { are = refl; fit = tt }, refl);
      tags_are = ([], inr (refl, tt), refl);
      infos_are = record {
        versions_are = refl;
        times_are = ([], record { are = refl; fit = tt }, refl);
        changesets_are = ([], record { are = refl; fit = tt }, refl);
        uids_are = ([], record { are = refl; fit = tt }, refl);
        users_are = ([], record { are = refl; fit = tt }, refl);
        visibles_are = refl;
        in_range = tt;
      };
      in_range = tt;
    },
  ),
)

pub no_phase_stands : (b : Context) (ps : List (List ℕ)) → ps ≡ [] → first (message_phases b (Dense ps)) ≡ None
no_phase_stands b ps e = ap (λ l. first (message_phases b (Dense l))) e

pub nothing_appended : (b : Context) (old : List Element) (ps : List (List ℕ)) → ps ≡ [] → Appended b old old (Dense ps ∷ [])
nothing_appended b old ps e =
    let P : List (List ℕ) → Type 0 = λ l. Appended b old old (Dense l ∷ []) in
    subst P (sym e) ([], sym (append-nil old), ([], [], refl, nothing_said b, refl))

pub no_items : {B : Type 0} (now : B → List ℕ) (ps : List B) → length ps ≡ 0 → map now ps ≡ []
no_items now [] e = refl
no_items now (p ∷ ps) e = absurd (omega arith)

-- ---- a message that was read

-- its wire is at fault
pub stop_wires : (b : Context) (ps : List (List ℕ)) (f : BlockFault) → first (wire_phases (wires (Dense ps))) ≡ Some f → first (message_phases b (Dense ps)) ≡ Some f
stop_wires b ps f e = first-append_some (wire_phases (wires (Dense ps))) (dense_phases b (dense_message (flat_map fields ps))) f e

-- it is not, and the message says this
pub past_wires : (b : Context) (ps : List (List ℕ)) (m : DenseMessage) → m ≡ dense_message (flat_map fields ps) → first (wire_phases (wires (Dense ps))) ≡ None →
    first (dense_phases b m) ≡ first (message_phases b (Dense ps))
past_wires b ps m is none = ap (λ d. first (dense_phases b d)) is ∙ sym (first-append_none (wire_phases (wires (Dense ps))) (dense_phases b (dense_message (flat_map fields ps))) none)

-- its arrays were made nodes
pub arrays_appended : (b : Context) (ps : List (List ℕ)) (c : DenseArrays) (old new : List Element) → first (message_phases b (Dense ps)) ≡ None → AreReady b c → AreArraysOf c (dense_message (flat_map fields ps)) →
    AppendedNodes b c old new → Appended b old new (Dense ps ∷ [])
arrays_appended b ps c old new none ready are (ns, left, grown, read) =
    let m : DenseMessage = dense_message (flat_map fields ps) in
    let fit = tags_stand b m (after_wire b (Dense ps) none) in
    let P : ℕ → Type 0 = λ n. Tags (node_pairs n m.keys_vals) m.keys_vals in
    let Q : List ℤ → Type 0 = λ l. Tags (node_pairs (length c.ids.items) l) l in
    let tags : Tags (node_pairs (length c.ids.items) c.keys_vals.items) c.keys_vals.items = subst Q (sym are.keys_vals) (subst P (sym (Diff-length c.ids.items m.id are.ids)) fit.are_tags) in
    let nodes = all_read b c m (length c.ids.items) left ns are ready tags refl read in
    (map elements.Node ns, grown, (map elements.Node ns, [], sym (append-nil (map elements.Node ns)), (message_wire b (Dense ps) none, (ns, refl, nodes)), refl))
