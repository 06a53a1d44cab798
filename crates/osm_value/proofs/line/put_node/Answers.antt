use Rattle.std.proofs.Common.{rules, ◌∙◌, FitsSigned, w64}
use Rattle.std.proofs.lemmas.Int.{to_z-of_z}
use Rattle.osm_value.proofs.SinkLemmas.{Wrote-text}
use Rattle.osm_value.proofs.LineLemmas.{node_parts}
use Rattle.osm_value.proofs.line.put_node.Goals as goal

pub returns : goal.returns
returns g c = λ start before h.
    let fits_id : FitsSigned w64 c.id.result = search rules in
    let fits_lat : FitsSigned w64 c.lat.result = search rules in
    let fits_lon : FitsSigned w64 c.lon.result = search rules in
    Wrote-text start _ _ _ _
    (node_parts before c.args.node.now _ _ _ _ _ (to_z-of_z w64 _ fits_id ∙ c.id.ensures.exact) (to_z-of_z w64 _ fits_lat ∙ c.lat.ensures.exact) (to_z-of_z w64 _ fits_lon ∙ c.lon.ensures.exact) c.info.ensures.exact c.tags.ensures.exact)
    (c.put_tail.ensures start _ (c.put_number-3.ensures start _ (c.put-3.ensures start _ (c.put_number-2.ensures start _ (c.put-2.ensures start _ (c.put_number.ensures start _ (c.put.ensures start before h)))))))
