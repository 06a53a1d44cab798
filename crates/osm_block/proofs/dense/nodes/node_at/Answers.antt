use Rattle.std.proofs.Common.{rules, ◌≡◌, ap, ◌∙◌, get_or, pos, FitsSigned, w32, w64}
use Rattle.std.proofs.lemmas.Int.{to_z-of_z}
use Rattle.osm_block.specs.Block.{coordinate}
use Rattle.osm_block.specs.Fields.{context_of}
use Rattle.osm_block.proofs.DenseArrayLemmas.{node_is_at}
use Rattle.osm_block.proofs.dense.nodes.node_at.Goals as goal

pub new-requires : goal.new-requires
new-requires c =
    let id_fits : FitsSigned w64 (get_or c.deref-ids.result.now c.args.index (pos 0)) = search rules in
    let lat_fits : FitsSigned w64 c.coordinate_at-lat.result = search rules in
    let lon_fits : FitsSigned w64 c.coordinate_at-lon.result = search rules in
    let lat_offset : FitsSigned w64 c.args.scale.now.lat_offset = search rules in
    let lon_offset : FitsSigned w64 c.args.scale.now.lon_offset = search rules in
    let granularity : FitsSigned w32 c.args.scale.now.granularity = search rules in
    let lat : c.coordinate_at-lat.result ≡ coordinate c.args.scale.now.lat_offset c.args.scale.now.granularity (get_or c.deref.result.now c.args.index (pos 0)) = simp to_z-of_z at c.coordinate_at-lat.ensures in
    let lon : c.coordinate_at-lon.result ≡ coordinate c.args.scale.now.lon_offset c.args.scale.now.granularity (get_or c.deref-2.result.now c.args.index (pos 0)) = simp to_z-of_z at c.coordinate_at-lon.ensures in
    record {
      in_range = (node_is_at (context_of c.args.scale.now) c.args.arrays.now c.args.index _ _ _ _ _ c.requires.ready c.requires.within
          (to_z-of_z w64 _ id_fits ∙ ap (λ l. get_or l c.args.index (pos 0)) c.deref-ids.ensures.value)
          (to_z-of_z w64 _ lat_fits ∙ lat ∙ ap (λ l. coordinate c.args.scale.now.lat_offset c.args.scale.now.granularity (get_or l c.args.index (pos 0))) c.deref.ensures.value)
          (to_z-of_z w64 _ lon_fits ∙ lon ∙ ap (λ l. coordinate c.args.scale.now.lon_offset c.args.scale.now.granularity (get_or l c.args.index (pos 0))) c.deref-2.ensures.value)
          c.info_at-info.ensures c.requires.tags).in_range;
    }

pub returns-clause-node : goal.returns-clause-node
returns-clause-node c =
    let id_fits : FitsSigned w64 (get_or c.deref-ids.result.now c.args.index (pos 0)) = search rules in
    let lat_fits : FitsSigned w64 c.coordinate_at-lat.result = search rules in
    let lon_fits : FitsSigned w64 c.coordinate_at-lon.result = search rules in
    let lat_offset : FitsSigned w64 c.args.scale.now.lat_offset = search rules in
    let lon_offset : FitsSigned w64 c.args.scale.now.lon_offset = search rules in
    let granularity : FitsSigned w32 c.args.scale.now.granularity = search rules in
    let lat : c.coordinate_at-lat.result ≡ coordinate c.args.scale.now.lat_offset c.args.scale.now.granularity (get_or c.deref.result.now c.args.index (pos 0)) = simp to_z-of_z at c.coordinate_at-lat.ensures in
    let lon : c.coordinate_at-lon.result ≡ coordinate c.args.scale.now.lon_offset c.args.scale.now.granularity (get_or c.deref-2.result.now c.args.index (pos 0)) = simp to_z-of_z at c.coordinate_at-lon.ensures in
    rw c.new.ensures (node_is_at (context_of c.args.scale.now) c.args.arrays.now c.args.index _ _ _ _ _ c.requires.ready c.requires.within
    (to_z-of_z w64 _ id_fits ∙ ap (λ l. get_or l c.args.index (pos 0)) c.deref-ids.ensures.value)
    (to_z-of_z w64 _ lat_fits ∙ lat ∙ ap (λ l. coordinate c.args.scale.now.lat_offset c.args.scale.now.granularity (get_or l c.args.index (pos 0))) c.deref.ensures.value)
    (to_z-of_z w64 _ lon_fits ∙ lon ∙ ap (λ l. coordinate c.args.scale.now.lon_offset c.args.scale.now.granularity (get_or l c.args.index (pos 0))) c.deref-2.ensures.value)
    c.info_at-info.ensures c.requires.tags)
