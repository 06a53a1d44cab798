use Rattle.std.proofs.Common.{rules, refl, ◌≡◌, ◌<◌, length, get_or, pos, FitsSigned, w32, w64, arith}
use Rattle.std.proofs.lemmas.Int.{to_z-of_z}
use Rattle.osm_block.specs.Block.{time}
use Rattle.osm_columns.proofs.AddLemmas.{adds-next}
use Rattle.osm_columns.proofs.dense_numbers.put_times.Goals as goal

pub loop-index-preserved : goal.loop-index-preserved
loop-index-preserved c =
    let within : c.loop-index.index < length c.args.units.now = omega (arith, c.loop-index-test.true) in
    let date_granularity : FitsSigned w32 c.args.date_granularity = search rules in
    let units : FitsSigned w64 (get_or c.args.units.now c.loop-index.index (pos 0)) = search rules in
    let is : c.time_of.result ≡ time c.args.date_granularity (get_or c.args.units.now c.loop-index.index (pos 0)) = simp to_z-of_z at c.time_of.ensures in
    let result : FitsSigned w64 c.time_of.result = search rules in
    let so_far = simp to_z-of_z at c.loop-index.invariant in
    let put = simp to_z-of_z at c.put_item.ensures in
    simp to_z-of_z (adds-next (time c.args.date_granularity) c.args.units.now c.loop-index.index c.args.at _ _ (pos 0) _ _ _ _ within refl is so_far put refl)
