use Rattle.std.proofs.Common.{rules, refl, ◌≡◌, ◌∙◌, length, sym}
use Rattle.osm_columns.proofs.DenseLemmas.{node-count}
use Rattle.osm_columns.proofs.TallyLemmas.{nodes-tallied}
use Rattle.osm_columns.proofs.tally.tally_group.Goals as goal

pub returns-in-Dense : goal.returns-in-Dense
returns-in-Dense c = λ b es h.
    let held = rw c.in-Dense.is at h in
    let count : c.len-nodes.result ≡ length c.in-Dense.arrays.ids.items = search rules in
    nodes-tallied _ es held.0 held.1 (count ∙ sym (node-count _ _ held.0 held.2)) (count ∙ sym (node-count _ _ held.0 held.2)) refl refl refl
