use Rattle.std.proofs.Common.{rules, ◌≡◌, ◌∙◌, get_or, pos, FitsSigned, w32, w64}
use Rattle.std.proofs.lemmas.Int.{to_z-of_z}
use Rattle.osm_block.specs.Block.{coordinate}
use Rattle.osm_block.specs.Phases.{coordinate_in_range}
use Rattle.osm_block.proofs.DenseArrayLemmas.{each_at}
use Rattle.osm_block.proofs.dense.nodes.coordinate_at.Goals as goal

pub coordinate_of-requires : goal.coordinate_of-requires
coordinate_of-requires c =
    let offset : FitsSigned w64 c.args.offset = search rules in
    let granularity : FitsSigned w32 c.args.granularity = search rules in
    let units : FitsSigned w64 (get_or c.args.units.now c.args.index (pos 0)) = search rules in
    simp to_z-of_z (each_at (coordinate_in_range c.args.offset c.args.granularity) c.args.units.now c.args.index (pos 0) c.requires.within c.requires.in_range)

pub returns : goal.returns
returns c =
    let offset : FitsSigned w64 c.args.offset = search rules in
    let granularity : FitsSigned w32 c.args.granularity = search rules in
    let units : FitsSigned w64 (get_or c.args.units.now c.args.index (pos 0)) = search rules in
    let result : FitsSigned w64 c.coordinate_of.result = search rules in
    let is : c.coordinate_of.result ≡ coordinate c.args.offset c.args.granularity (get_or c.args.units.now c.args.index (pos 0)) = simp to_z-of_z at c.coordinate_of.ensures in
    to_z-of_z w64 _ result ∙ is
