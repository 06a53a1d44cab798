use Rattle.std.proofs.Common.{rules, refl, ◌≡◌, ◌<◌, length, get_or, pos, FitsSigned, w32, w64, arith}
use Rattle.std.proofs.lemmas.Int.{to_z-of_z}
use Rattle.osm_block.specs.Block.{coordinate}
use Rattle.osm_block.specs.Phases.{coordinate_in_range}
use Rattle.osm_block.proofs.DenseArrayLemmas.{each_at}
use Rattle.osm_columns.proofs.AddLemmas.{adds-next}
use Rattle.osm_columns.proofs.dense_numbers.put_coordinates.Goals as goal

pub coordinate_of-coordinate-requires : goal.coordinate_of-coordinate-requires
coordinate_of-coordinate-requires c =
    let offset : FitsSigned w64 c.args.offset = search rules in
    let granularity : FitsSigned w32 c.args.granularity = search rules in
    let units : FitsSigned w64 (get_or c.args.units.now c.loop-index.index (pos 0)) = search rules in
    simp to_z-of_z (each_at (coordinate_in_range c.args.offset c.args.granularity) c.args.units.now c.loop-index.index (pos 0) (omega (arith, c.loop-index-test.true)) c.requires.in_range)

pub loop-index-preserved : goal.loop-index-preserved
loop-index-preserved c =
    let within : c.loop-index.index < length c.args.units.now = omega (arith, c.loop-index-test.true) in
    let offset : FitsSigned w64 c.args.offset = search rules in
    let granularity : FitsSigned w32 c.args.granularity = search rules in
    let units : FitsSigned w64 (get_or c.args.units.now c.loop-index.index (pos 0)) = search rules in
    let is : c.coordinate_of-coordinate.result ≡ coordinate c.args.offset c.args.granularity (get_or c.args.units.now c.loop-index.index (pos 0)) = simp to_z-of_z at c.coordinate_of-coordinate.ensures in
    let result : FitsSigned w64 c.coordinate_of-coordinate.result = search rules in
    let so_far = simp to_z-of_z at c.loop-index.invariant in
    let put = simp to_z-of_z at c.put_item.ensures in
    simp to_z-of_z (adds-next (coordinate c.args.offset c.args.granularity) c.args.units.now c.loop-index.index c.args.at _ _ (pos 0) _ _ _ _ within refl is so_far put refl)
