use Rattle.std.proofs.Common.{rules, refl, ◌≡◌, ◌∙◌, ◌<◌, ◌++◌, ◌∷◌, [], length, map, take, get_or, ap, pos, FitsSigned, to_z, of_z, w32, w64, arith, append_assoc}
use Rattle.std.proofs.lemmas.Int.{to_z-of_z}
use Rattle.osm_columns.specs.Indexes.{index_in}
use Rattle.osm_columns.proofs.ListLemmas.{mapped-next}
use Rattle.osm_columns.proofs.dense_texts.push_places.Goals as goal

pub loop-index-preserved : goal.loop-index-preserved
loop-index-preserved c =
    let within : c.loop-index.index < length c.args.places.now = omega (arith, c.loop-index-test.true) in
    let place : FitsSigned w64 (get_or c.args.places.now c.loop-index.index (pos 0)) = search rules in
    let result : FitsSigned w32 c.index_at.result = search rules in
    let is : to_z w32 (of_z w32 c.index_at.result) ≡ index_in c.args.table.now (get_or c.args.places.now c.loop-index.index (pos 0)) =
    to_z-of_z w32 _ result ∙ c.index_at.ensures ∙ ap (index_in c.args.table.now) (to_z-of_z w64 _ place) in
    c.in_ok-push.ensures.items ∙ ap (λ l. l ++ to_z w32 (of_z w32 c.index_at.result) ∷ []) c.loop-index.invariant
    ∙ append_assoc c.args.indexes.now.items (map (index_in c.args.table.now) (take c.loop-index.index c.args.places.now)) (to_z w32 (of_z w32 c.index_at.result) ∷ [])
    ∙ ap (λ l. c.args.indexes.now.items ++ l) (ap (λ z. map (index_in c.args.table.now) (take c.loop-index.index c.args.places.now) ++ z ∷ []) is
    ∙ mapped-next (index_in c.args.table.now) c.args.places.now c.loop-index.index _ (pos 0) within refl)
